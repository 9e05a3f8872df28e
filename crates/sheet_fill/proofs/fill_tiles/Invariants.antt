-- `fill_tiles` meets its contract. The loop's invariant: what is left to store gives the whole, and has room. Assumes nothing.
use Prim.Native.Nat.{◌-◌, ◌*◌}
use lib.Seq.{sets}
use Rattle.format.specs.Format.{times}
use Rattle.sheet_format.specs.Sheet.{tile}
use Rattle.sheet_format.specs.Lists.{all_counts, all_floats, table_of, total}
use Rattle.sheet_fill.specs.Fill.{list_at}
use Rattle.sheet_fill.proofs.Tiles.{Tiling}
use Rattle.sheet_fill.proofs.fill_tiles.Given as goal

abbrev pub invariant-loop-i : goal.invariant-loop-i
invariant-loop-i l =
    Tiling l.e l.s (l.t - l.i) l.q l.k (2 * l.i) l.table l.counts l.parts (sets l.initial.table 0 (table_of 0 (list_at (times l.t (tile l.e)) l.s l.p))) (sets l.initial.counts 0 (all_counts (list_at (times l.t (tile l.e)) l.s l.p)))
    (sets l.initial.parts 0 (all_floats (list_at (times l.t (tile l.e)) l.s l.p))) (total (list_at (times l.t (tile l.e)) l.s l.p))
