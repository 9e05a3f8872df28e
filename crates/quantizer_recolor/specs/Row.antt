-- What the replacement of a colour in one subpalette asks. Assumes nothing.
use Rattle.std.specs.Prelude.{ℕ, ◌+◌, ◌*◌, ◌≤◌, List, length, Float}
use Rattle.quantizer.specs.Replacing.{Shares}
use Rattle.quantizer.specs.Goods.{AllGood}

-- the sums of subpalette i's colours are there and no NaN, and so are its places in the palette
pub record Row (pal : List Float) (c i : ℕ) (A : Shares) : Type 0 where
  pub some : 1 ≤ c
  pub had : i * c + c ≤ length A.had
  pub lost : i * c + c ≤ length A.lost
  pub had_good : AllGood A.had
  pub lost_good : AllGood A.lost
  pub room : 3 * (i * c + c) ≤ length pal
