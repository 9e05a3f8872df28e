-- A turn over one tile: what its calls ask, and what it comes to; the sums while the tiles are walked over; and the choice among them. Assumes nothing.
use Prim.Native.Nat.{ℕ, ◌-◌, ◌≤◌, ◌<◌}
use mathlib.Core.Path.{◌≡◌, ap, subst⁻¹, ◌∙◌}
use mathlib.Core.Bool.{Bool, true, false}
use mathlib.Core.List.{List}
use native.Mathlib.Nat.{le_refl}
use native.Mathlib.Omega.{arith}
use lib.ListN.{length, set, take}
use lib.Ieee.{Float}
use Rattle.job.specs.Job.{Job, most_subpalettes, is_empty}
use Rattle.stats.specs.declared.Near.{Near}
use Rattle.stats.specs.Stats.{value_at}
use Rattle.stats_extremes.specs.Extremes.{NoNan}
use Rattle.palette_tile.specs.Tiles.{fit_at, hint_step, Shown}
use Rattle.palette_tile.proofs.Walks.{Walked, walked_has}
use Rattle.palette_tile.proofs.Turns.{passed_over, taken_up, hint-kept, hint-written, fit-below}
use Rattle.quantizer.specs.Sums.{bump, zeros, sums_at, greatest}
use Rattle.quantizer.specs.Seeding.{distance_step, distances_of, worst_of}
use Rattle.quantizer.specs.Goods.{AllGood}
use Rattle.quantizer.proofs.Goods.{sums_no_nan}
use Rattle.quantizer.proofs.Lengths.{length-distances}
use Rattle.quantizer.proofs.Indexes.{shown-subs}
use Rattle.quantizer.proofs.NoNans.{distances-good}
use Rattle.quantizer_worst.specs.Turns.{Turned}

module _ (J : Job) (pal : List Float) (n : ℕ) (hints : List ℕ) (t : ℕ) (d : List Float) (K : Turned J pal n hints t d) where
  abbrev Stepped : List Float → List ℕ → Type 0
  Stepped sums after = (sums ≡ distance_step J pal n t d) × (after ≡ hint_step J pal n 1 t hints)

  abbrev added : Near → List Float
  added b = bump d b.index b.dist

  -- r is what the code's test of an empty tile answers
  pub turn-none : (r : Bool) → r ≡ is_empty J t → r ≡ true → Stepped d hints
  unfolding distance_step
  turn-none r R p = (passed_over J t r R d (added (fit_at J pal n 1 t)) p, hint-kept J pal n 1 hints t K.paired r R p)

  -- b is the tile's fit
  module _ (b : Near) (B : b ≡ fit_at J pal n 1 t) where
    pub turn_below : b.index < length d
    turn_below = omega (arith, fit-below J pal n 1 t b B K.paired.shown, shown-subs J pal n 1 K.paired.shown, K.whole)

    pub turn-done : (r : Bool) → r ≡ is_empty J t → r ≡ false → (after : List ℕ) → after ≡ set hints t b.index → Stepped (added b) after
    unfolding distance_step
    turn-done r R p after e = (taken_up J t r R d (added (fit_at J pal n 1 t)) p (ap added B), hint-written J pal n 1 hints t K.paired r R p b B after e)

-- ---- while the tiles are walked over
pub walked_sums : (J : Job) (pal : List Float) (n : ℕ) {d : List Float} {t : ℕ} → Walked J.T (distance_step J pal n) (zeros most_subpalettes) d t → length d ≡ most_subpalettes
walked_sums J pal n W = walked_has W (λ t d. length d ≡ most_subpalettes) (λ t l. length-distances J pal n t)

-- ---- the choice among d, the sums of all tiles
module _ (J : Job) (pal : List Float) (n : ℕ) (S : Shown J pal n 1) (d : List Float) (e : d ≡ distances_of J pal n J.T) where
  sums-whole : length d ≡ most_subpalettes
  sums-whole = ap length e ∙ length-distances J pal n J.T

  pub sums-room : n ≤ length d
  sums-room = omega (arith, shown-subs J pal n 1 S, sums-whole)

  -- the code's part from 0 on
  part-is : take (n - 0) d ≡ sums_at d 0 n
  part-is = let all : n - 0 ≡ n = omega arith in ap (λ (k : ℕ). take k d) all

  pub sums_asked : NoNan (value_at (take (n - 0) d)) (length (take (n - 0) d))
  sums_asked =
      subst⁻¹ (λ (x : List Float). NoNan (value_at x) (length x)) part-is
      (sums_no_nan d 0 n (omega (arith, sums-room)) (subst⁻¹ AllGood e (distances-good J pal n S J.T (le_refl J.T))))

  pub worst_done : (r : ℕ) → r ≡ greatest (take (n - 0) d) → r ≡ worst_of J pal n
  unfolding worst_of
  worst_done r p = p ∙ ap greatest part-is ∙ ap (λ (x : List Float). greatest (sums_at x 0 n)) e
