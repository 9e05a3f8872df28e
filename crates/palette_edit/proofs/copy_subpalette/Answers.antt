-- `palette_edit::copy_subpalette` meets its contract. The loop's invariant: the first j numbers are copied. Assumes nothing.
use Prim.Native.Nat.{◌*◌, ◌-◌}
use mathlib.Core.Path.{refl}
use lib.ListN.{length-set}
use lib.Seq.{paste-zero}
use Rattle.palette.specs.Palette.{sub_of}
use Rattle.palette_edit.proofs.Copying.{copy_turn, copy_end}
use Rattle.palette_edit.proofs.copy_subpalette.Goals as goal

pub loop-j-init : goal.loop-j-init
loop-j-init c = let a = c.args in (refl, paste-zero a.pal.now (a.to * (3 * a.c)) (sub_of a.pal.now a.c a.have a.from))

pub loop-j-preserved : goal.loop-j-preserved
loop-j-preserved c =
    let v = c.loop-j in
    (simp length-set v.invariant.0, copy_turn _ _ _ _ _ c.requires.0 c.requires.1.0 c.requires.1.1 _ _ c.loop-j-test.true v.invariant.1)

pub shape_of-pal : goal.shape_of-pal
shape_of-pal c = c.loop-j.invariant.0

pub returns : goal.returns
returns c =
    let v = c.loop-j in
    copy_end _ _ _ _ _ c.requires.0 c.requires.1.0 c.requires.1.1 _ _ v.auto.j-end c.loop-j-test.false v.invariant.1
