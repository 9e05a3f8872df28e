-- The single fit: what it is given, what its caller sees, what is defined of it, and what the first two demands say of that. Definitions only. Assumes nothing.
use Rattle.std.specs.Prelude.{ℕ, ◌≡◌, not, List, [], ◌∷◌, ◌++◌, length, set, Float, Result, Ok, Err}
use contract.Lifetimes.{Lfts}
use denote.Triple.Entry.{Args, Res}
use denote.Triple.Clauses.{AtExit}
use Rattle.job.specs.Job.{Job, job_in, is_empty}
use Rattle.stats.specs.declared.Near.{Near}
use Rattle.answer.specs.Refusals.{Answered, answer_in, by_number}
use Rattle.answer.specs.Outcome.{Outcome, outcome}
use Rattle.answer.specs.Rules.{Rule, rule, answer}
use Rattle.palette_tile.specs.Tiles.{fit_at, winner}
use Rattle.fits_check.specs.One.{one_rules}
use Rattle.fits_outcome.specs.Fits.{single_def}
use Rattle.demands.specs.Second.{Chosen}
use Rattle.fits.specs.contracts.single_fit as function
use Rattle.fits.proofs.single_fit.Symbol as symbol
use Rattle.contracts.specs.Answers.{Answers}
use Rattle.contracts.specs.Keeps.{Compiled}

module _ (κs : Lfts (function.signature).lifetimes) (a : Args function.signature κs) where
  -- the job and the palette, then the hints
  abbrev pub job_given : Job
  job_given = job_in a.0.now

  abbrev pub palette_given : List Float
  palette_given = a.1.0.now

  abbrev pub hints_lent : List ℕ
  hints_lent = a.1.1.0.now

  abbrev pub seen : Res function.signature κs → AtExit function.ended κs → Outcome (Result Near Answered) (List ℕ)
  seen r e = outcome (by_number r) e.1.1.0.now

  abbrev pub defined : Outcome (Result Near Answered) (List ℕ)
  defined = single_def job_given palette_given hints_lent

  abbrev rules : List Rule
  rules = one_rules job_given palette_given (length hints_lent) ++ (rule 15 (not (is_empty job_given 0)) ∷ [])

  abbrev pub answers : Outcome (Result Near Answered) (List ℕ) → Type 0
  answers = Answers answer_in (answer rules) Err hints_lent

  -- the second demand: where it answers, it answers with the choice, which becomes the hint
  abbrev pub chooses : Outcome (Result Near Answered) (List ℕ) → Type 0
  chooses x =
      let s = job_given.S in
      let c = job_given.C in
      (answer_in x.answer).number ≡ 0
      → Chosen job_given palette_given s c 0
      × (x ≡ outcome (Ok (fit_at job_given palette_given s c 0)) (set hints_lent 0 (winner job_given palette_given s c 0)))

abbrev pub compiled : Compiled (Outcome (Result Near Answered) (List ℕ))
compiled = record { ended = function.ended; seen = seen; name = symbol.name; code = symbol.code }
