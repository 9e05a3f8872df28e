-- `gather` meets its contract. The loop's invariant: v is the number of the bytes passed. Assumes nothing.
use Prim.Native.Nat.{◌-◌}
use mathlib.Core.Path.{◌≡◌}
use lib.ListN.{take, drop}
use Rattle.bits.specs.Bits.{num, bits}
use Rattle.bits.proofs.gather.Given as goal

abbrev pub invariant-loop-j : goal.invariant-loop-j
invariant-loop-j l = l.v ≡ num (bits (take (l.j - l.first) (drop l.first l.s)))
