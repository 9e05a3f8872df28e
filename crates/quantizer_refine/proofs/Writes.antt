-- Means are written in the order of the definition, and a whole pass is the gathering and then they. Assumes nothing.
use Prim.Native.Nat.{ℕ, ◌+◌, ◌*◌, ◌≤◌, ◌<◌}
use mathlib.Core.Path.{◌≡◌, refl, sym, ap, subst⁻¹, ◌∙◌}
use mathlib.Core.List.{List}
use native.Mathlib.Nat.{le_refl}
use native.Mathlib.Numerals.{add-one}
use native.Mathlib.Omega.{arith}
use lib.ListN.{length}
use lib.Ieee.{Float}
use Rattle.job.specs.Job.{Job, most_tile_size}
use Rattle.palette_tile.specs.Tiles.{Shown}
use Rattle.quantizer.specs.declared.Gather.{Gather}
use Rattle.quantizer.specs.Refining.{gather_of, mean_step, means_of, refined}
use Rattle.quantizer.proofs.Lengths.{length_means}
use Rattle.quantizer.specs.Refines.{Gathered}
use Rattle.quantizer.proofs.Refines.{gathered}
use Rattle.quantizer_mean.specs.Means.{Meaning}

-- ---- the first n
module _ (pal : List Float) (A : Gather) where
  pub means_none : pal ≡ means_of pal A 0
  unfolding means_of
  means_none = refl

  pub means_length : (p : ℕ) (s : List Float) → s ≡ means_of pal A p → length s ≡ length pal
  means_length p s e = ap length e ∙ length_means pal A p

  pub means_more : (p : ℕ) (s after : List Float) → s ≡ means_of pal A p → after ≡ mean_step A p s → after ≡ means_of pal A (p + 1)
  unfolding means_of
  means_more p s after e q = q ∙ ap (mean_step A p) e ∙ sym (ap (means_of pal A) (add-one p))

-- ---- a whole pass, whose sums and counts are A
module _ (J : Job) (pal : List Float) (S : Shown J pal J.S J.C) (A : Gather) (e : A ≡ gather_of J pal J.T) where
  pub pass_meaning : Meaning pal (J.S * J.C) A
  pass_meaning =
      let K : Gathered A (most_tile_size * J.T) = subst⁻¹ (λ (X : Gather). Gathered X (most_tile_size * J.T)) e (gathered J pal S J.T (le_refl J.T)) in
      record { room = omega (arith, S.room); size = S.ready.sizes.cells; whole = K.held.whole; all = K.held.all; few = λ p. omega (arith, K.few p, S.ready.sizes.tiles) }

  pub pass_done : (after : List Float) → after ≡ means_of pal A (J.S * J.C) → after ≡ refined J pal
  unfolding refined
  pass_done after q = q ∙ ap (λ (X : Gather). means_of pal X (J.S * J.C)) e
