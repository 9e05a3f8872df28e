-- `refusal` meets its contract: each test decides. Assumes nothing.
use Rattle.train_samples.proofs.Accepted.{none, many, some}
use Rattle.train_samples.proofs.refusal.Goals as goal

pub returns-then-n-eq0 : goal.returns-then-n-eq0
returns-then-n-eq0 c = none _ c.if-n-eq0.true

pub returns-then-n-gt-MOST_SAMPLES : goal.returns-then-n-gt-MOST_SAMPLES
returns-then-n-gt-MOST_SAMPLES c = many _ c.if-n-eq0.false c.if-n-gt-MOST_SAMPLES.true

pub returns : goal.returns
returns c = some _ c.if-n-eq0.false c.if-n-gt-MOST_SAMPLES.false
