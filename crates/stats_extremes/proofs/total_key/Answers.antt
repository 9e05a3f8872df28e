-- A pattern is below 2 ^ 32, and its two halves go by the test. Assumes nothing.
use borrow.Author.Tests.{lt-ltb, le-ltb}
use native.Mathlib.Omega.{arith}
use lib.Ieee.{binary32, to_bits}
use lib.Ieee.Bits.{to_bits-lt}
use Rattle.ieee.proofs.Order.{of_true}
use Rattle.stats_extremes.proofs.total_key.Goals as goal

pub overflow_sub-result : goal.overflow_sub-result
overflow_sub-result c = omega (arith, to_bits-lt binary32 c.args.x (of_true c.well_formed.0.1))

pub returns-then-bits-lt-SIGN_32 : goal.returns-then-bits-lt-SIGN_32
returns-then-bits-lt-SIGN_32 c = rw (lt-ltb (to_bits binary32 c.args.x) 2147483648 c.if-bits-lt-SIGN_32.true)

pub returns-else-bits-lt-SIGN_32 : goal.returns-else-bits-lt-SIGN_32
returns-else-bits-lt-SIGN_32 c = rw (le-ltb (to_bits binary32 c.args.x) 2147483648 c.if-bits-lt-SIGN_32.false) (omega (arith, to_bits-lt binary32 c.args.x (of_true c.well_formed.0.1)))
