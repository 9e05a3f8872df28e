-- `replacing::replace_on` meets its contract. Assumes nothing.
use Rattle.run_turns.proofs.ReplacingRounds.{end_beside, replaced-more, replaced-last}
use Rattle.run_turns.proofs.replacing.replace_on.Goals as goal

pub returns-then-round-lt10 : goal.returns-then-round-lt10
returns-then-round-lt10 c = replaced-more _ _ _ _ c.args.r _ _ _ _ c.look-seen.ensures c.if-round-lt10.true _ _ _ c.open_replacing.ensures

pub returns : goal.returns
returns c =
    replaced-last _ _ _ _ c.args.r _ _ _ _ c.look-seen.ensures c.if-round-lt10.false _ _ _
    (end_beside c.args.job.now.sizes _ _ _ _ _ _ _ _ _ _ c.enter_reducing.ensures)
