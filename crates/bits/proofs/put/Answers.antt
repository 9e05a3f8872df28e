-- `put` meets its contract: the bytes that the field touches are stored anew, with their other bits as they were. Assumes nothing.
use Prim.Native.Nat.{◌+◌, ◌-◌, ◌*◌, ◌/◌, ◌%◌}
use native.Mathlib.Omega.{arith}
use Rattle.bits.specs.Bits.{bits}
use Rattle.bits.proofs.Bytes.{length-bits}
use Rattle.bits.proofs.Fields.{field_lt}
use Rattle.bits.proofs.Spelled.{put_done}
use Rattle.bits.proofs.put.Goals as goal

pub joined-x-requires : goal.joined-x-requires
joined-x-requires c =
    let a = c.args in (
      omega (arith, c.get-head.ensures, field_lt (bits a.s.now) (8 * (a.p / 8)) (a.p % 8) 7 (rw length-bits (omega arith)) (omega arith)),
      omega arith,
      omega arith,
      omega (
        arith,
        c.get-tail.ensures,
        field_lt (bits a.s.now) (a.p + a.k) (8 * ((a.p + a.k + 7) / 8) - (a.p + a.k))
            (8 * ((a.p + a.k + 7) / 8) - (a.p + a.k)) (rw length-bits (omega arith)) (omega arith),
      ),
    )

pub returns : goal.returns
returns c =
    let a = c.args in
    put_done (bits a.s.now) _ a.p a.k a.v c.get-head.result c.get-tail.result c.joined-x.result
    (rw length-bits (omega arith)) c.get-head.ensures c.get-tail.ensures c.joined-x.ensures c.spell.ensures
