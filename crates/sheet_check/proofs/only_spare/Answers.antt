-- `only_spare` meets its contract: bits are clear where they spell 0. Assumes nothing.
use native.Mathlib.Omega.{arith}
use Rattle.sheet_check.proofs.Spare.{spare_some, spare_bytes}
use Rattle.sheet_check.proofs.only_spare.Goals as goal

pub returns-then-left-lt8 : goal.returns-then-left-lt8
returns-then-left-lt8 c = spare_some c.args.s.now c.args.p c.get.result (omega arith) c.get.ensures

pub returns-else-left-lt8 : goal.returns-else-left-lt8
returns-else-left-lt8 c = spare_bytes c.args.s.now c.args.p (omega arith)
