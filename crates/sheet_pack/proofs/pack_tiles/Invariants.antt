-- `pack_tiles` meets its contract. The loop's invariant: what is left to write gives the whole. Assumes nothing.
use Prim.Native.Nat.{◌+◌, ◌-◌}
use mathlib.Core.Path.{◌≡◌}
use lib.Seq.{sets}
use Rattle.lists.specs.Every.{sum}
use Rattle.bits.specs.Bits.{bits}
use Rattle.job.specs.Job.{size_of}
use Rattle.sheet_format.specs.Sheet.{tiles_size}
use Rattle.sheet_pack.specs.Packed.{tiles_from, tiles_bits}
use Rattle.sheet_pack.proofs.pack_tiles.Given as goal

abbrev pub invariant-loop-i : goal.invariant-loop-i
invariant-loop-i l =
    (l.q ≡ l.p + tiles_size l.e l.i (sum (size_of l.job.tiles.now) l.i))
    × (sets (bits l.dst) l.q (tiles_bits l.e (tiles_from l.job.tiles.now l.job.colours.now l.job.counts.now l.i (l.fn.job.sizes.t - l.i))) ≡ sets (bits l.initial.dst) l.p (tiles_bits l.e (tiles_from l.job.tiles.now l.job.colours.now l.job.counts.now 0 l.fn.job.sizes.t)))
