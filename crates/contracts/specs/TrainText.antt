-- What the program `train` writes for the bytes of a sheet: what its text function is given, what its caller sees, what is defined of it.
-- Definitions only. Assumes nothing.
use Rattle.std.specs.Prelude.{ℕ, ◌≡◌, List}
use contract.Lifetimes.{Lfts}
use denote.Triple.Entry.{Args, Res}
use denote.Triple.Clauses.{AtExit}
use Rattle.answer.specs.Outcome.{Outcome, outcome}
use Rattle.io.specs.Counts.{IsPrefixLen}
use Rattle.train_text.specs.Train.{train_def}
use Rattle.train_text.specs.contracts.train as function
use Rattle.train_text.proofs.train.Symbol as symbol
use Rattle.contracts.specs.Keeps.{Compiled}

module _ (κs : Lfts (function.signature).lifetimes) (a : Args function.signature κs) where
  abbrev pub seen : Res function.signature κs → AtExit function.ended κs → Outcome ℕ (List ℕ)
  seen r e = outcome r e.1.0.now

  -- the text of the bytes given, in the room lent; and it lies within that room
  abbrev pub writes : Outcome ℕ (List ℕ) → Type 0
  writes x = (x ≡ train_def a.0.now a.1.0.now) × IsPrefixLen x.answer x.after

abbrev pub compiled : Compiled (Outcome ℕ (List ℕ))
compiled = record { ended = function.ended; seen = seen; name = symbol.name; code = symbol.code }
