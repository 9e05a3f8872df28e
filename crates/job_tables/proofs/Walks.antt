-- The loops over the counts of a tile, over all tiles' counts and over the samples: what each holds at index i, and what a turn does. Assumes nothing.
use Prim.Native.Nat.{ℕ, ◌+◌, ◌*◌, ◌≤◌, ◌<◌}
use mathlib.Core.Path.{◌≡◌, refl, sym, ◌∙◌}
use mathlib.Core.Bool.{Bool, true, false, not}
use mathlib.Core.List.{List}
use native.Mathlib.Omega.{arith}
use lib.Dec.{leb}
use lib.ListN.{length, get_or}
use borrow.Author.Tests.{leb-true, not-false}
use Rattle.lists.specs.Every.{every, sum}
use Rattle.lists.proofs.Loops.{sum_more, every_fails, every_more, every_end}
use Rattle.lists.proofs.Tests.{and_r}
use Rattle.job.specs.Job.{counts_part}
use Rattle.job.specs.Checks.{count_test, count_fits, part_fits, tile_counts_fit, counts_fit, sample_test, sample_fits, samples_fit}

-- ---- the counts of one tile
pub record Counted (size : ℕ) (cs : List ℕ) (before i : ℕ) : Type 0 where
  pub adds : before ≡ sum (λ k. get_or cs k 0) i
  pub room : before ≤ size
  pub good : every (count_fits size cs) i ≡ true

module _ (size : ℕ) (cs : List ℕ) where
  pub counted_start : Counted size cs 0 0
  unfolding sum every
  counted_start = record { adds = refl; room = omega arith; good = refl }

  module _ (before i : ℕ) (I : Counted size cs before i) (n : ℕ) (r : Bool) (N : n ≡ get_or cs i 0) (R : r ≡ count_test size before n) where
    counted : r ≡ count_fits size cs i
    unfolding count_fits
    counted = R ∙ rw (N, I.adds) refl

    pub counted_fails : not r ≡ true → i < length cs → false ≡ part_fits size cs
    unfolding part_fits
    counted_fails h l = every_fails (count_fits size cs) (length cs) i r counted h l

    pub counted-room : not r ≡ false → before + n ≤ size
    unfolding count_test
    counted-room h = leb-true (before + n) size (and_r (leb 1 n) (leb (before + n) size) (sym R ∙ not-false r h))

    pub counted-more : not r ≡ false → Counted size cs (before + n) (i + 1)
    counted-more h =
        record {
          adds = sum_more (λ k. get_or cs k 0) i before n I.adds N;
          room = counted-room h;
          good = every_more (count_fits size cs) i r I.good counted h;
        }

  pub counted_end : (before i : ℕ) → Counted size cs before i → i ≤ length cs → length cs ≤ i → true ≡ part_fits size cs
  unfolding part_fits
  counted_end before i I l h = every_end (count_fits size cs) (length cs) i I.good l h

-- ---- samples
module _ (tiles : List ℕ) (t : ℕ) (samples : List ℕ) where
  sampled : (i : ℕ) (r : Bool) (tile place : ℕ) → r ≡ sample_test tiles t tile place → tile ≡ get_or samples (2 * i) 0 → place ≡ get_or samples (2 * i + 1) 0 → r ≡ sample_fits tiles t samples i
  unfolding sample_fits
  sampled i r tile place e a b = e ∙ rw (a, b) refl

  pub sampled_fails : (n i : ℕ) (r : Bool) (tile place : ℕ) → r ≡ sample_test tiles t tile place → tile ≡ get_or samples (2 * i) 0 → place ≡ get_or samples (2 * i + 1) 0 → not r ≡ true → i < n → false ≡ samples_fit tiles t samples n
  unfolding samples_fit
  sampled_fails n i r tile place e a b h l = every_fails (sample_fits tiles t samples) n i r (sampled i r tile place e a b) h l

  pub sampled-more : (i : ℕ) (r : Bool) (tile place : ℕ) → r ≡ sample_test tiles t tile place → tile ≡ get_or samples (2 * i) 0 → place ≡ get_or samples (2 * i + 1) 0
      → every (sample_fits tiles t samples) i ≡ true → not r ≡ false → every (sample_fits tiles t samples) (i + 1) ≡ true
  sampled-more i r tile place e a b g h = every_more (sample_fits tiles t samples) i r g (sampled i r tile place e a b) h

-- ---- the counts of each tile
module _ (size : ℕ) (tiles counts : List ℕ) (i : ℕ) (part : List ℕ) (r : Bool) (P : part ≡ counts_part tiles counts i) (R : r ≡ part_fits size part) where
  counted-tile : r ≡ tile_counts_fit size tiles counts i
  unfolding tile_counts_fit
  counted-tile = R ∙ rw P refl

  pub all-counted_fails : (t : ℕ) → not r ≡ true → i < t → false ≡ counts_fit size tiles counts t
  unfolding counts_fit
  all-counted_fails t h l = every_fails (tile_counts_fit size tiles counts) t i r counted-tile h l

  pub all-counted-more : every (tile_counts_fit size tiles counts) i ≡ true → not r ≡ false → every (tile_counts_fit size tiles counts) (i + 1) ≡ true
  all-counted-more g h = every_more (tile_counts_fit size tiles counts) i r g counted-tile h
