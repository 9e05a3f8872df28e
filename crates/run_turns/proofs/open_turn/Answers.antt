-- `run_turns::open_turn` meets its contract, stage by stage. Assumes nothing.
use mathlib.Core.Path.{refl}
use Rattle.run_turns.proofs.SeedingRounds.{can_double, seeded_by}
use Rattle.run_turns.proofs.GrowingRounds.{can_open, can_replace, grown_by_lem, grown-past}
use Rattle.run_turns.proofs.open_turn.Goals as goal

pub open_seeding-requires : goal.open_seeding-requires
open_seeding-requires c = can_double _ _ _ _ _ _ c.args.r c.requires c.if-turn-seeded.true

pub returns-then-turn-seeded : goal.returns-then-turn-seeded
returns-then-turn-seeded c = seeded_by c.args.job.now.sizes _ _ _ _ _ _ c.args.r _ _ _ _ c.open_seeding.ensures c.if-turn-seeded.true

pub open_growing-requires : goal.open_growing-requires
open_growing-requires c = can_open _ _ _ _ c.requires.lent _ c.if-later-grown.true

pub returns-then-later-grown : goal.returns-then-later-grown
returns-then-later-grown c = grown_by_lem _ _ _ _ c.args.r _ _ _ _ c.open_growing.ensures _ _ c.if-turn-seeded.false refl c.if-later-grown.true

pub replace_on-requires : goal.replace_on-requires
replace_on-requires c = can_replace _ _ _ _ _ _ c.args.r c.requires

pub returns : goal.returns
returns c = grown-past _ _ _ _ _ c.replace_on.ensures c.if-turn-seeded.false c.if-later-grown.false
