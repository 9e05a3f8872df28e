-- Grouping: what a call answers and leaves, for tiles of at most `size` pixels. Definitions only. Assumes nothing.
use Rattle.std.specs.Prelude.{ℕ, length, Result, Ok, Err}
use Rattle.answer.specs.Refusals.{Answered}
use Rattle.answer.specs.Outcome.{Outcome, outcome, decided}
use Rattle.group_refusal.specs.Refusal.{Pixels, EntryRoom, group_answer}
use Rattle.group.specs.Entries.{entries, left}

-- the number of entries written
abbrev pub entries_of : Result ℕ Answered → ℕ
entries_of (Ok n) = n
entries_of (Err e) = 0

-- ---- the call: what it answers and leaves; a refusal writes nothing
unfoldable pub grouping : ℕ → Pixels → EntryRoom → Outcome (Result ℕ Answered) EntryRoom
grouping size q m = decided (group_answer size q m) (outcome (Ok (length (entries q q.p))) (left q q.p m)) (Err (group_answer size q m)) m
