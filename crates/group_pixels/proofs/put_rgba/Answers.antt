-- `group_pixels::put_rgba` meets its contract: four stores. Assumes nothing.
use mathlib.Core.Path.{refl}
use native.Mathlib.Omega.{arith}
use lib.ListN.{length-set}
use Rattle.group_pixels.specs.Pixel.{put_rgba}
use Rattle.group_pixels.proofs.put_rgba.Goals as goal

pub bounds-s-j-2 : goal.bounds-s-j-2
bounds-s-j-2 c = simp length-set (omega arith)

pub bounds-s-j-3 : goal.bounds-s-j-3
bounds-s-j-3 c = simp length-set (omega arith)

pub returns : goal.returns
unfolding put_rgba
returns c = refl
