-- `palette_edit::copy_subpalette` meets its contract. The loop's invariant: the first j numbers are copied. Assumes nothing.
use mathlib.Core.Path.{◌≡◌}
use lib.ListN.{length}
use lib.Seq.{paste}
use Rattle.palette.specs.Palette.{sub_of}
use Rattle.palette_edit.proofs.copy_subpalette.Given as goal

abbrev pub invariant-loop-j : goal.invariant-loop-j
invariant-loop-j l = (length l.pal ≡ length l.initial.pal) × (l.pal ≡ paste l.initial.pal l.t (sub_of l.initial.pal l.c l.have l.from) l.j)
