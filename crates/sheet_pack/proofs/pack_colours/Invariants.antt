-- `pack_colours` meets its contract. The loop's invariant: what is left to write gives the whole. Assumes nothing.
use Prim.Native.Nat.{◌+◌, ◌*◌}
use mathlib.Core.Path.{◌≡◌}
use lib.ListN.{drop}
use lib.Seq.{sets}
use Rattle.bits.specs.Bits.{bits}
use Rattle.sheet_format.specs.Sheet.{entry_size}
use Rattle.sheet_pack.specs.Packed.{colours_of, colours_bits}
use Rattle.sheet_pack.proofs.pack_colours.Given as goal

abbrev pub invariant-loop-i : goal.invariant-loop-i
invariant-loop-i l =
    (l.q ≡ l.p + entry_size l.e * l.i)
    × (sets (bits l.dst) l.q (colours_bits l.e (colours_of (drop l.i l.counts) (drop (3 * l.i) l.colours))) ≡ sets (bits l.initial.dst) l.p (colours_bits l.e (colours_of l.counts l.colours)))
