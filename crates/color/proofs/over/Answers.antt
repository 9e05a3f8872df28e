-- `color::over` meets its contract: a count up to 2 ^ 24 casts exactly. Assumes nothing.
use lib.Ieee.{binary32}
use Rattle.ieee.proofs.Goods.{count-exact}
use Rattle.color.proofs.over.Goals as goal

pub int_to_float-f : goal.int_to_float-f
int_to_float-f c = count-exact binary32 _ c.requires
