-- `weight` meets its contract: a weight's pattern is no NaN's. Assumes nothing.
use mathlib.Core.Path.{refl}
use native.Mathlib.Omega.{arith}
use Rattle.format_pattern.proofs.Patterns.{weighs_is, weighs_back, weighs_no_nan}
use Rattle.format_pattern.proofs.weight.Goals as goal

pub float_from_bits-result : goal.float_from_bits-result
float_from_bits-result c = weighs_no_nan c.args.b c.requires

pub returns : goal.returns
returns c = (refl, weighs_back c.args.b (omega arith) c.requires, ((weighs_is c.args.b (omega arith)).0 c.requires).1)
