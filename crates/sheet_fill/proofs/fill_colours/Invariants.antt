-- `fill_colours` meets its contract. The loop's invariant: what is left to store, at some sum, gives the whole. Assumes nothing.
use Prim.Native.Nat.{◌-◌, ◌*◌, ◌+◌}
use lib.Seq.{sets}
use Rattle.sheet_format.specs.Sheet.{colours}
use Rattle.sheet_format.specs.Lists.{tile_counts, tile_floats}
use Rattle.sheet_fill.specs.Fill.{list_at}
use Rattle.sheet_fill.proofs.Colours.{Filling}
use Rattle.sheet_fill.proofs.fill_colours.Given as goal

abbrev pub invariant-loop-i : goal.invariant-loop-i
invariant-loop-i l =
    Filling l.e l.s (l.n - l.i) l.q (l.k + l.i) l.counts l.parts (sets l.initial.counts l.k (tile_counts (list_at (colours l.e l.n 0) l.s l.p))) (sets l.initial.parts (3 * l.k) (tile_floats (list_at (colours l.e l.n 0) l.s l.p)))
