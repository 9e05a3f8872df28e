-- What a host is told of an advance. Definitions only. Assumes nothing.
use Rattle.std.specs.Prelude.{ℕ}
use Rattle.answer.specs.Outcome.{Outcome, outcome}
use Rattle.answer.specs.Words.{word}
use Rattle.run_stages.specs.Calls.{Memory, Advanced}

-- the draws that it made, or a refusal's index
unfoldable pub told_advance : Outcome Advanced Memory → Outcome ℕ Memory
told_advance x = outcome (word x.answer.refusal x.answer.draws) x.after
