-- The single fit of a job of one tile: its answer, and the hints that it leaves. Definitions only. Assumes nothing.
use Rattle.std.specs.Prelude.{ℕ, List, Float, length, set, Result, Ok, Err}
use Rattle.answer.specs.Refusals.{Answered}
use Rattle.answer.specs.Outcome.{Outcome, outcome, decided}
use Rattle.stats.specs.declared.Near.{Near}
use Rattle.job.specs.Job.{Job}
use Rattle.palette_tile.specs.Tiles.{fit_at}
unfoldable pub use Rattle.fits_check.specs.One.{single_answer}

-- the call: it reads no hint and leaves the winner there; a refusal writes nothing
unfoldable pub single_def : Job → List Float → List ℕ → Outcome (Result Near Answered) (List ℕ)
single_def J palette hints =
    let e = single_answer J palette (length hints) in
    let best = fit_at J palette J.S J.C 0 in
    decided e (outcome (Ok best) (set hints 0 best.index)) (Err e) hints
