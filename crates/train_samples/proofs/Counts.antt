-- One colour and one tile more are counted, and what is counted is small. Assumes nothing.
use Prim.Native.Nat.{ℕ, zero, suc, ◌+◌, ◌*◌, ◌≤◌, ◌<◌}
use mathlib.Core.Path.{◌≡◌, refl, ap, ◌∙◌}
use mathlib.Core.List.{List}
use native.Mathlib.Omega.{arith}
use native.Mathlib.Numerals.{add-one}
use lib.ListN.{length, get_or}
use Rattle.lists.specs.Every.{sum}
use Rattle.job.specs.Job.{counts_part, most_tile_size}
use Rattle.train_samples.specs.Samples.{units, units_to, Countable}
use Rattle.train_samples.proofs.Numbers.{sum-grows}

-- the first k counts of a tile, added up
abbrev pub units_of : List ℕ → ℕ → ℕ
units_of cs k = sum (λ j. get_or cs j 0) k

pub none_of : (cs : List ℕ) → units_of cs 0 ≡ 0
unfolding sum
none_of cs = refl

module _ (cs : List ℕ) (k n : ℕ) (e : n ≡ units_of cs k) where
  pub one_more : (v : ℕ) → v ≡ get_or cs k 0 → n + v ≡ units_of cs (k + 1)
  unfolding sum
  one_more v f = rw (add-one k) (omega arith)

  pub part_small : (v : ℕ) → v ≡ get_or cs k 0 → k < length cs → n + v ≤ units cs
  unfolding units sum
  part_small v f l = omega (arith, sum-grows (λ j. get_or cs j 0) (suc k) (length cs) l)

  pub all_of : k ≤ length cs → length cs ≤ k → n ≡ units cs
  unfolding units
  all_of l g = let whole : k ≡ length cs = omega arith in e ∙ ap (units_of cs) whole

-- ---- the tiles
module _ (tiles counts : List ℕ) where
  pub no_tile : units_to tiles counts 0 ≡ 0
  unfolding units_to sum
  no_tile = refl

  pub tile-more : (i n v : ℕ) {part : List ℕ} → n ≡ units_to tiles counts i → part ≡ counts_part tiles counts i → v ≡ units part → n + v ≡ units_to tiles counts (i + 1)
  unfolding units_to sum
  tile-more i n v e f g = rw (add-one i) (omega (arith, g ∙ ap units f))

  module _ (t : ℕ) (C : Countable tiles counts t) where
    pub few-units : (i : ℕ) → i ≤ t → units_to tiles counts i ≤ most_tile_size * i
    unfolding units_to sum
    few-units zero l = omega arith
    few-units (suc i) l = omega (arith, few-units i (omega arith), C.full i (omega arith))
