-- Sums that have a place for each subpalette and colour. Assumes nothing.
use Rattle.std.specs.Prelude.{ℕ, ◌≡◌, length}
use Rattle.quantizer.specs.Replacing.{Shares}

-- as many of both
pub record Wide (A : Shares) (n : ℕ) : Type 0 where
  pub had : length A.had ≡ n
  pub lost : length A.lost ≡ n
