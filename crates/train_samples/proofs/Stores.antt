-- One sample, one colour and one tile more. Assumes nothing.
use mathlib.Core.Path.{◌≡◌, refl, ap, ◌∙◌}
use Prim.Native.Nat.{ℕ, suc, ◌+◌, ◌*◌, ◌≤◌, ◌<◌}
use native.Mathlib.Omega.{arith}
use native.Mathlib.Numerals.{add-one}
use mathlib.Core.List.{List, [], ◌∷◌}
use lib.ListN.{length, get_or, set}
use Rattle.lists.specs.Every.{sum}
use Rattle.job.specs.Job.{counts_part, most_tile_size}
use Rattle.fit_lines.specs.Lines.{Stored}
use Rattle.fit_lines.proofs.Stores.{both_stored}
use Rattle.train_samples.specs.Samples.{alike, tile_samples, units, samples_to, units_to, Countable}
use Rattle.train_samples.proofs.Numbers.{sum-grows, length-tile, length-samples}

-- nothing is stored
pub nothing : (l : List ℕ) (at : ℕ) → Stored l l at at []
nothing l at = record { text = refl; place = omega arith }

-- two numbers, one after the other
pub pair : (l : List ℕ) (q i k : ℕ) → Stored l (set (set l q i) (q + 1) k) q (q + 2) (i ∷ k ∷ [])
pair l q i k = record { text = ap (λ (j : ℕ). set (set l q i) j k) (add-one q); place = refl }

module _ (l m n : List ℕ) (at q r : ℕ) where
  pub alike-more : (i k j : ℕ) → Stored l m at q (alike i k j) → Stored m n q r (i ∷ k ∷ []) → Stored l n at r (alike i k (j + 1))
  unfolding alike
  alike-more i k j a b = rw (add-one j) (both_stored a b)

  pub tile-more : (i : ℕ) (cs : List ℕ) (k : ℕ) → Stored l m at q (tile_samples i cs k) → Stored m n q r (alike i k (get_or cs k 0)) → Stored l n at r (tile_samples i cs (k + 1))
  unfolding tile_samples
  tile-more i cs k a b = rw (add-one k) (both_stored a b)

  pub samples-more : (tiles counts : List ℕ) (t : ℕ) → Stored l m at q (samples_to tiles counts t)
      → Stored m n q r (tile_samples t (counts_part tiles counts t) (length (counts_part tiles counts t))) → Stored l n at r (samples_to tiles counts (t + 1))
  unfolding samples_to
  samples-more tiles counts t a b = rw (add-one t) (both_stored a b)

-- ---- what is to come has its place
pub tile-place : (l m : List ℕ) (at q i : ℕ) (cs : List ℕ) (k : ℕ) → Stored l m at q (tile_samples i cs k) → q ≡ at + 2 * sum (λ j. get_or cs j 0) k
tile-place l m at q i cs k s = s.place ∙ ap (λ (n : ℕ). at + n) (length-tile i cs k)

pub next_fits : (cs : List ℕ) (k at q n : ℕ) → k < length cs → q ≡ at + 2 * sum (λ j. get_or cs j 0) k → at + 2 * units cs ≤ n → q + 2 * get_or cs k 0 ≤ n
unfolding units sum
next_fits cs k at q n l e h = omega (arith, sum-grows (λ j. get_or cs j 0) (suc k) (length cs) l)

module _ (tiles counts : List ℕ) (t : ℕ) (C : Countable tiles counts t) where
  pub part_fits_lem : (l m : List ℕ) (q i n : ℕ) {part : List ℕ} → i < t → Stored l m 0 q (samples_to tiles counts i) → part ≡ counts_part tiles counts i
      → 2 * units_to tiles counts t ≤ n → (length part ≤ most_tile_size) × (q + 2 * units part ≤ n)
  unfolding units_to sum
  part_fits_lem l m q i n h s e room =
      rw e (C.short i h, omega (arith, s.place, length-samples tiles counts i, sum-grows (λ j. units (counts_part tiles counts j)) (suc i) t h))
