-- What a colour more in one subpalette asks: sums of its row that are no NaN, and the place after the colours present. Assumes nothing.
use Rattle.std.specs.Prelude.{ℕ, ◌+◌, ◌*◌, ◌≤◌, ◌<◌, List, length, Float}
use Rattle.quantizer.specs.Goods.{AllGood}

pub record Split (pal : List Float) (c have i : ℕ) (total : List Float) : Type 0 where
  pub some : 1 ≤ have
  pub present : have ≤ c
  pub sums : i * c + c ≤ length total
  pub good : AllGood total
  pub room : 3 * (i * c + have) + 2 < length pal
