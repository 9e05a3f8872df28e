-- `spell` meets its contract. The loop's invariant: the bytes that are left, stored, give the whole. Assumes nothing.
use Prim.Native.Nat.{◌-◌, ◌*◌}
use mathlib.Core.Path.{◌≡◌}
use lib.Seq.{sets}
use Rattle.bits.specs.Bits.{bits, bits_of}
use Rattle.bits.proofs.spell.Given as goal

abbrev pub invariant-loop-j : goal.invariant-loop-j
invariant-loop-j l = sets (bits l.s) (8 * l.j) (bits_of (8 * (l.end - l.j)) l.x) ≡ sets (bits l.initial.s) (8 * l.first) (bits_of (8 * (l.end - l.first)) l.x)
