-- A walk over 0 .. n - 1 that starts from any hint: what stands first so far, and that at the end it is `least_of`, whatever the hint.
-- Over any distances that are no NaN and have no sign. Assumes nothing.
use Prim.Native.Nat.{ℕ, ◌+◌, ◌≤◌, ◌<◌}
use mathlib.Core.Path.{◌≡◌, refl, subst, subst⁻¹}
use mathlib.Core.Bool.{true, false}
use native.Mathlib.Nat.{le_trans, le_refl}
use native.Mathlib.Omega.{arith}
use borrow.Author.Count.{below_none, below_more}
use lib.Dec.{ltb}
use lib.Ieee.{Float, binary32, lt}
use Rattle.ieee.specs.Terms.{Good, rank, over}
use Rattle.ieee.proofs.Ranks.{yes_lt, no_lt, over-rank, within-rank}
use Rattle.stats.specs.declared.Near.{Near}
use Rattle.stats.specs.Stats.{least_of}
use Rattle.stats.specs.Least.{Least}
use Rattle.stats.proofs.Scan.{is-least}

-- b is the first, by distance and then by index, of the hint and of the indexes below i
pub record Leading (d : ℕ → Float) (n hint i : ℕ) (b : Near) : Type 0 where
  pub within : b.index < n
  pub dist : b.dist ≡ d b.index
  pub to_hint : rank (d b.index) b.index ≤ rank (d hint) hint
  pub to_each : (j : ℕ) → j < i → rank (d b.index) b.index ≤ rank (d j) j

module _ (d : ℕ → Float) (n hint : ℕ) where
  pub lead_start : hint < n → Leading d n hint 0 (record { index = hint; dist = d hint })
  lead_start h = record { within = h; dist = refl; to_hint = le_refl (rank (d hint) hint); to_each = below_none _ }

  module _ (i : ℕ) (b : Near) (a : Leading d n hint i b) where
    pub lead_stays : rank (d b.index) b.index ≤ rank (d i) i → Leading d n hint (i + 1) b
    lead_stays h = record { within = a.within; dist = a.dist; to_hint = a.to_hint; to_each = below_more _ i a.to_each h }

    pub lead_skips : i ≡ hint → Leading d n hint (i + 1) b
    lead_skips e = lead_stays (subst⁻¹ (λ (j : ℕ). rank (d b.index) b.index ≤ rank (d j) j) e a.to_hint)

    pub lead_passes : i < n → rank (d i) i ≤ rank (d b.index) b.index → Leading d n hint (i + 1) (record { index = i; dist = d i })
    lead_passes l h =
        record {
          within = l;
          dist = refl;
          to_hint = le_trans h a.to_hint;
          to_each = below_more _ i (λ (j : ℕ) (k : j < i). le_trans h (a.to_each j k)) (le_refl (rank (d i) i));
        }

-- an index is below 2 ^ 64, as the code's are: what `rank` asks
module _ (d : ℕ → Float) (n hint : ℕ) (G : (j : ℕ) → j < n → Good binary32 (d j)) (N : n < 18446744073709551616) where
  -- index i by the code's test on its whole distance
  module _ (i : ℕ) (b : Near) (a : Leading d n hint i b) (l : i < n) where
    pub lead_good : Good binary32 b.dist
    lead_good = subst⁻¹ (Good binary32) a.dist (G b.index a.within)

    pub lead_loses : over (d i) b.dist (ltb b.index i) ≡ true → Leading d n hint (i + 1) b
    lead_loses p =
        lead_stays d n hint i b a
        (over-rank (d i) (d b.index) i b.index (G i l) (G b.index a.within) (omega (arith, a.within)) (subst (λ (y : Float). over (d i) y (ltb b.index i) ≡ true) a.dist p))

    pub lead_wins : over (d i) b.dist (ltb b.index i) ≡ false → Leading d n hint (i + 1) (record { index = i; dist = d i })
    lead_wins p =
        lead_passes d n hint i b a l
        (within-rank (d i) (d b.index) i b.index (G i l) (G b.index a.within) (omega arith) (subst (λ (y : Float). over (d i) y (ltb b.index i) ≡ false) a.dist p))

  pub lead_least : (b : Near) → Leading d n hint n b → Least d n b
  lead_least b a =
      record {
        within = a.within;
        dist = a.dist;
        none_less = λ (j : ℕ) (l : j < n). subst⁻¹ (λ (x : Float). lt (d j) x ≡ false) a.dist (no_lt (d j) (d b.index) (G j l) (G b.index a.within) (omega (arith, a.within, a.to_each j l)));
        first = λ (j : ℕ) (l : j < b.index). subst⁻¹ (λ (x : Float). lt x (d j) ≡ true) a.dist (sooner j l a.within);
      }
    where
      sooner : (j : ℕ) → j < b.index → b.index < n → lt (d b.index) (d j) ≡ true
      sooner j l m = yes_lt (d b.index) (d j) (G b.index m) (G j (omega arith)) (omega (arith, a.to_each j (omega arith)))

  -- whatever the hint
  pub lead_end : (i : ℕ) (b : Near) → i ≤ n → n ≤ i → Leading d n hint i b → b ≡ least_of d n
  lead_end i b x y a = is-least d n b G (lead_least b (subst (λ (j : ℕ). Leading d n hint j b) (native.Mathlib.Nat.le_antisymm x y) a))
