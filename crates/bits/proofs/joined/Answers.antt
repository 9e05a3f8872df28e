-- `joined` meets its contract: no shift loses a bit, and no sum carries past 64. Assumes nothing.
use native.Mathlib.Omega.{arith}
use Rattle.bits.proofs.Spelled.{joined_is, joined-fits}
use Rattle.bits.proofs.joined.Goals as goal

pub overflow_add-result : goal.overflow_add-result
overflow_add-result c = omega (arith, joined-fits c.args.head c.args.k c.args.v c.args.spare c.args.tail (omega arith) (omega arith) (omega arith) c.requires.3)

pub returns : goal.returns
returns c = joined_is c.args.head c.args.k c.args.v c.args.spare c.args.tail (omega arith) (omega arith) (omega arith) c.requires.3
