-- Grouping: what it is given, what its caller sees, what is defined of it, and what the first demand says of that. Definitions only. Assumes nothing.
use Rattle.std.specs.Prelude.{ℕ, Result, Err}
use contract.Lifetimes.{Lfts}
use denote.Triple.Entry.{Args, Res}
use denote.Triple.Clauses.{AtExit}
use Rattle.answer.specs.Refusals.{Answered, answer_in, by_number}
use Rattle.answer.specs.Outcome.{Outcome, outcome}
use Rattle.group_refusal.specs.Refusal.{Pixels, EntryRoom, given_in, entry_room, group_answer}
use Rattle.group.specs.Group.{grouping}
use Rattle.group.specs.contracts.group as function
use Rattle.group.proofs.group.Symbol as symbol
use Rattle.contracts.specs.Answers.{Answers}
use Rattle.contracts.specs.Keeps.{Compiled}

module _ (κs : Lfts (function.signature).lifetimes) (a : Args function.signature κs) where
  abbrev pub size_given : ℕ
  size_given = a.0

  abbrev pub pixels_given : Pixels
  pixels_given = given_in a.1.0.now

  abbrev pub room_lent : EntryRoom
  room_lent =
      let h = a.1.1 in
      entry_room h.0.now h.1.0.now h.1.1.0.now h.1.1.1.0.now

  abbrev pub seen : Res function.signature κs → AtExit function.ended κs → Outcome (Result ℕ Answered) EntryRoom
  seen r e =
      let h = e.1.1 in
      outcome (by_number r) (entry_room h.0.now h.1.0.now h.1.1.0.now h.1.1.1.0.now)

  abbrev pub defined : Outcome (Result ℕ Answered) EntryRoom
  defined = grouping size_given pixels_given room_lent

  abbrev pub answers : Outcome (Result ℕ Answered) EntryRoom → Type 0
  answers = Answers answer_in (group_answer size_given pixels_given room_lent) Err room_lent

abbrev pub compiled : Compiled (Outcome (Result ℕ Answered) EntryRoom)
compiled = record { ended = function.ended; seen = seen; name = symbol.name; code = symbol.code }
