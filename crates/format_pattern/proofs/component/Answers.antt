-- `component` meets its contract: a small pattern is no NaN's. Assumes nothing.
use mathlib.Core.Path.{refl}
use native.Mathlib.Omega.{arith}
use Rattle.format_pattern.proofs.Patterns.{small_is, small_back, small_no_nan}
use Rattle.format_pattern.proofs.component.Goals as goal

pub float_from_bits-result : goal.float_from_bits-result
float_from_bits-result c = small_no_nan c.args.b c.requires

pub returns : goal.returns
returns c = (refl, small_back c.args.b (omega arith) c.requires, (small_is c.args.b (omega arith)).0 c.requires)
