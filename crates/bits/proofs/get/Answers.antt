-- `get` meets its contract: the field is a part of the number of the bytes that it touches. Assumes nothing.
use native.Mathlib.Omega.{arith}
use Rattle.bits.proofs.Gathered.{field-read}
use Rattle.bits.proofs.get.Goals as goal

pub returns : goal.returns
returns c = field-read c.args.s.now c.args.p c.args.k c.gather-v.result (omega arith) (omega arith) c.gather-v.ensures
