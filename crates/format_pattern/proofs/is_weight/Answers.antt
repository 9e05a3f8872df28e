-- `is_weight` meets its contract, by the test that it makes first. Assumes nothing.
use borrow.Author.Tests.{lt-ltb, le-ltb}
use Rattle.format_pattern.proofs.is_weight.Goals as goal

pub returns-then-b-gt0 : goal.returns-then-b-gt0
returns-then-b-gt0 c = rw (lt-ltb 0 c.args.b c.if-b-gt0.true)

pub returns-else-b-gt0 : goal.returns-else-b-gt0
returns-else-b-gt0 c = rw (le-ltb 0 c.args.b c.if-b-gt0.false)
