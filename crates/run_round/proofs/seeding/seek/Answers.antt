-- `seeding::seek` meets its contract in a round of seeding. Assumes nothing.
use mathlib.Core.Path.{◌≡◌}
use native.Mathlib.Omega.{arith}
use Rattle.run_round.proofs.SeedingRounds.{sought}
use Rattle.run_round.proofs.seeding.seek.Goals as goal

pub returns-in-Ok-Seeding : goal.returns-in-Ok-Seeding
returns-in-Ok-Seeding c =
    let zero : c.args.r.stage ≡ 0 = grind arith in
    sought _ _ _ c.args.r c.requires.whole (c.requires.more zero) _ _ zero c.worst.ensures.0 c.worst.ensures.1
