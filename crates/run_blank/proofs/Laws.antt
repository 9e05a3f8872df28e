-- What zeroing both palettes and writing the first order ask and leave. Assumes nothing.
use Prim.Native.Nat.{ℕ, ◌*◌, ◌≤◌}
use mathlib.Core.Path.{◌≡◌, ap, ◌∙◌}
use mathlib.Core.List.{List, []}
use native.Mathlib.Nat.{le_refl, mul-le-mul}
use lib.Ieee.{Float}
use lib.ListN.{length}
use Rattle.prng.specs.Shuffle.{deck}
use Rattle.cycle.specs.Cycle.{Cycle, cycle, after}
use Rattle.quantizer.specs.Course.{Course}
use Rattle.quantizer.specs.Sums.{zeros}
use Rattle.quantizer.specs.Seeding.{seeded}
use Rattle.quantizer_seed.specs.Seeds.{Seeding}
use Rattle.run_stages.specs.State.{state_with, begun}
use Rattle.run_blank.specs.Blanks.{dealt, Blanking}

-- ---- both palettes
module _ (K : Course) (p l : List Float) (B : Blanking K p l) where
  some-places : 3 ≤ 3 * (K.job.S * K.job.C)
  some-places = mul-le-mul (le_refl 3) (mul-le-mul B.sampling.passed.ready.sizes.subs B.sampling.passed.ready.sizes.some)

  pub can_seed : (z : List Float) → length z ≡ length p → Seeding K z
  can_seed z e = record { sampling = B.sampling; room = rw (e, B.one) some-places }

  pub blanked : (l2 : List Float) → l2 ≡ zeros (length l) → (z : List Float) → z ≡ zeros (length p) → (p2 : List Float) → p2 ≡ seeded K z
      → (p2 ≡ seeded K (zeros (3 * (K.job.S * K.job.C)))) × (l2 ≡ zeros (3 * (K.job.S * K.job.C)))
  blanked l2 el z e p2 ep = (ep ∙ ap (seeded K) (e ∙ ap zeros B.one), el ∙ ap zeros B.two)

-- ---- the order
pub dealt_by : (n seed sizes : ℕ) (o : List ℕ) (g m : ℕ) → cycle (deck o g) m ≡ after n seed 0 → (w : ℕ) → w ≡ sizes → state_with o [] [] [] (begun g w) ≡ dealt n seed sizes
unfolding dealt
dealt_by n seed sizes o g m e w q = rw (q, ap (λ (c : Cycle). c.cards.order) e, ap (λ (c : Cycle). c.cards.state) e)
