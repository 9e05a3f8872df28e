-- `pack_head` meets its contract: six fields, one after another. Assumes nothing.
use native.Mathlib.Omega.{arith}
use Rattle.bits.proofs.Bytes.{length-bits}
use Rattle.sheet_pack.proofs.Writes.{head_done}
use Rattle.sheet_pack.proofs.pack_head.Goals as goal

pub returns : goal.returns
returns c =
    let a = c.args in
    head_done a.e _ _ _ _ _ _ _ a.s a.c a.t a.w (rw length-bits (omega arith))
    c.put.ensures c.put-2.ensures c.put-3.ensures c.put-4.ensures c.put-5.ensures c.put-6.ensures
