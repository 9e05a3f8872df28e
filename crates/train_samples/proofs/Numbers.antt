-- How many numbers the samples take. Assumes nothing.
use Prim.Native.Nat.{ℕ, zero, suc, ◌+◌, ◌*◌, ◌≤◌}
use mathlib.Core.Path.{◌≡◌, refl, ◌∙◌}
use mathlib.Core.Bool.{Bool, true, false}
use mathlib.Core.List.{List, [], ◌∷◌}
use native.Mathlib.Omega.{arith}
use lib.Dec.{ltb}
use lib.ListN.{length, get_or, length-append}
use borrow.Author.Tests.{ltb-true, ltb-false}
use Rattle.lists.specs.Every.{sum}
use Rattle.job.specs.Job.{counts_part}
use Rattle.train_samples.specs.Samples.{alike, tile_samples, units, samples_to, units_to}

-- ---- sums
pub sum-grows : (f : ℕ → ℕ) (k n : ℕ) → k ≤ n → sum f k ≤ sum f n
unfolding sum
sum-grows f k zero l = let e : k ≡ 0 = omega arith in rw e (omega arith)
sum-grows f k (suc n) l = by (ltb k (suc n)) refl (λ h. sum-grows f k n h)
  where
    by : (t : Bool) → ltb k (suc n) ≡ t → (k ≤ n → sum f k ≤ sum f n) → sum f k ≤ sum f n + f n
    by true e lower = omega (arith, lower (omega (arith, ltb-true k (suc n) e)))
    by false e lower = let q : k ≡ suc n = omega (arith, ltb-false k (suc n) e) in rw q (omega arith)

-- ---- lengths
pub length-alike : (i k m : ℕ) → length (alike i k m) ≡ 2 * m
unfolding alike
length-alike i k zero = refl
length-alike i k (suc m) = length-append (alike i k m) (i ∷ k ∷ []) ∙ omega (arith, length-alike i k m)

pub length-tile : (i : ℕ) (cs : List ℕ) (k : ℕ) → length (tile_samples i cs k) ≡ 2 * sum (λ j. get_or cs j 0) k
unfolding tile_samples sum
length-tile i cs zero = refl
length-tile i cs (suc k) = length-append (tile_samples i cs k) (alike i k (get_or cs k 0)) ∙ omega (arith, length-tile i cs k, length-alike i k (get_or cs k 0))

pub length-samples : (tiles counts : List ℕ) (t : ℕ) → length (samples_to tiles counts t) ≡ 2 * units_to tiles counts t
unfolding samples_to units_to sum
length-samples tiles counts zero = refl
length-samples tiles counts (suc t) =
    length-append (samples_to tiles counts t) (tile_samples t (counts_part tiles counts t) (length (counts_part tiles counts t)))
    ∙ omega (arith, length-samples tiles counts t, whole)
  where
    whole : length (tile_samples t (counts_part tiles counts t) (length (counts_part tiles counts t))) ≡ 2 * units (counts_part tiles counts t)
    whole = unfold units in length-tile t (counts_part tiles counts t) (length (counts_part tiles counts t))
