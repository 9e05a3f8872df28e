-- What the index of an answer says: for the numbers of a table which entry it names, for every other number nothing. Definitions only. Assumes nothing.
use Rattle.std.specs.Prelude.{ℕ, ◌≡◌, ◌≢◌, List, [], ◌∷◌}
use Rattle.answer.specs.Refusals.{Answered}

-- beside each number what an index has to be
abbrev pub Table : Type 1
Table = List (ℕ × (ℕ → Type 0))

abbrev pub Names : Table → Answered → Type 0
Names [] e = e.index ≡ 0
Names ((number, entry) ∷ rest) e = (e.number ≡ number → entry e.index) × (e.number ≢ number → Names rest e)

-- beside a number that is never answered
abbrev pub never : ℕ → Type 0
never index = ⊥
