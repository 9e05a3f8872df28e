-- `run_turns::open_seeding` meets its contract. Assumes nothing.
use Rattle.run_record.specs.Sized.{plain}
use Rattle.run_turns.proofs.SeedingRounds.{rows, opened_by}
use Rattle.run_turns.proofs.open_seeding.Goals as goal

pub duplicate_palette-requires : goal.duplicate_palette-requires
duplicate_palette-requires c = rows c.args.z _ _ _ c.requires

pub returns : goal.returns
returns c = opened_by (plain c.args.z) _ c.args.r _ _ _ c.duplicate_palette.ensures _ c.open_round.ensures
