-- Parts of slices from the front. Assumes nothing.
use mathlib.Core.Path.{◌≡◌, sym, ap, ap₂, ◌∙◌}
use Prim.Native.Nat.{ℕ, suc, ◌+◌, ◌-◌, ◌*◌, ◌≤◌, ◌<◌}
use native.Mathlib.Omega.{arith}
use mathlib.Core.List.{List}
use lib.ListN.{length, get_or, take}
use lib.Seq.{sets, get_or-take, length-take-le}
use Rattle.lists.specs.Every.{sum}
use Rattle.job.specs.Job.{Job, first_of, size_of}
use Rattle.job.specs.Gives.{Ready}
use Rattle.sheet.proofs.Inverse.{sets_front}
use Rattle.sheet_parts.specs.Front.{colours_to}

-- a part from the front has the length that was asked for
pub front_long : {A : Type 0} (n : ℕ) (l : List A) → n ≤ length l → n ≡ length (take n l)
front_long n l h = sym (length-take-le n l h)

-- a list that was written to the front is the part of its length
pub written_front : {A : Type 0} (n : ℕ) (x l : List A) → length x ≡ n → length x ≤ length l → take n (sets l 0 x) ≡ x
written_front n x l e h = ap (λ (k : ℕ). take k (sets l 0 x)) (sym e) ∙ sets_front x l h

-- where a slice begins with a job's table, its last tile ends with the job's last colour
module _ (J : Job) (R : Ready J) (tiles : List ℕ) (e : take (2 * J.T) tiles ≡ J.tiles) where
  same_at : (j : ℕ) → j < 2 * J.T → get_or tiles j 0 ≡ get_or J.tiles j 0
  same_at j l = sym (get_or-take (2 * J.T) tiles j 0 l) ∙ ap (λ (x : List ℕ). get_or x j 0) e

  last_sum : (k : ℕ) → suc k ≡ J.T → first_of tiles k + size_of tiles k ≡ length J.counts
  unfolding sum
  last_sum k f =
      ap₂ (λ (a b : ℕ). a + b) (same_at (2 * k) (omega arith) ∙ R.starts k (omega arith)) (same_at (2 * k + 1) (omega arith))
      ∙ ap (sum (size_of J.tiles)) f ∙ R.whole

  pub number : colours_to tiles J.T ≡ length J.counts
  number = last_sum (J.T - 1) (omega (arith, R.sizes.tiled))
