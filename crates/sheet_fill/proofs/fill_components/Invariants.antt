-- `fill_components` meets its contract. The loop's invariant: what is left to store gives the whole. Assumes nothing.
use Prim.Native.Nat.{◌-◌, ◌+◌}
use mathlib.Core.Path.{◌≡◌}
use lib.Seq.{sets}
use Rattle.format.specs.Format.{times}
use Rattle.sheet_format.specs.Sheet.{component}
use Rattle.sheet_format.specs.Lists.{floats}
use Rattle.sheet_fill.specs.Fill.{Reads, list_at}
use Rattle.sheet_fill.proofs.fill_components.Given as goal

abbrev pub invariant-loop-i : goal.invariant-loop-i
invariant-loop-i l = (Reads (times (l.n - l.i) component) l.s l.q) × (sets l.dst (l.at + l.i) (floats (list_at (times (l.n - l.i) component) l.s l.q)) ≡ sets l.initial.dst l.at (floats (list_at (times l.n component) l.s l.p)))
