-- `pack_components` meets its contract. The loop's invariant: what is left to write gives the whole. Assumes nothing.
use Prim.Native.Nat.{◌+◌, ◌*◌}
use mathlib.Core.Path.{◌≡◌}
use lib.ListN.{drop}
use lib.Seq.{sets}
use Rattle.bits.specs.Bits.{bits}
use Rattle.sheet_format.specs.Lists.{patterns}
use Rattle.sheet_pack.specs.Packed.{words}
use Rattle.sheet_pack.proofs.pack_components.Given as goal

abbrev pub invariant-loop-x : goal.invariant-loop-x
invariant-loop-x l = (l.q ≡ l.p + 32 * l.x-index) × (sets (bits l.dst) l.q (words (patterns (drop l.x-index l.src))) ≡ sets (bits l.initial.dst) l.p (words (patterns l.src)))
