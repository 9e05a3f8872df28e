-- A call's answer as docs/SCOPE.md numbers it, and each refusal's number and index. Definitions only. Assumes nothing.
use Rattle.std.specs.Prelude.{ℕ, ◌≤◌, Result, Ok, Err}
use Rattle.answer.specs.declared.Refusal.{Refusal}
use Rattle.answer.specs.declared.Refusal.TheVariants.{NoSamples, Sizes, Lengths, Weight, Tiles, Counts, Colour, Samples, Order, Record, Moment, SheetHead, SheetBytes, SameColour, EmptyTile, WorkingColour, ReducedColour, OtherSizes}

-- a number of the table, 0 where nothing is wrong, and the index of the entry at fault, 0 where the number names none
pub record Answered : Type 0 where
  pub number : ℕ
  pub index : ℕ

abbrev pub refusal : ℕ → ℕ → Answered
refusal number index = record { number = number; index = index }

-- nothing is wrong
abbrev pub nothing : Answered
nothing = refusal 0 0

abbrev pub number_of : Refusal → ℕ
number_of NoSamples = 1
number_of Sizes = 2
number_of Lengths = 3
number_of Weight = 4
number_of Tiles = 5
number_of Counts = 6
number_of (Colour i) = 7
number_of Samples = 8
number_of Order = 9
number_of Record = 10
number_of Moment = 11
number_of SheetHead = 12
number_of SheetBytes = 13
number_of SameColour = 14
number_of EmptyTile = 15
number_of (WorkingColour i) = 16
number_of (ReducedColour i) = 17
number_of OtherSizes = 20

abbrev pub index_of : Refusal → ℕ
index_of (Colour i) = i
index_of (WorkingColour i) = i
index_of (ReducedColour i) = i
index_of _ = 0

abbrev pub numbered_as : Refusal → Answered
numbered_as e = refusal (number_of e) (index_of e)

-- what is wrong
abbrev pub refusal_of : {A : Type 0} → Result A Refusal → Answered
refusal_of (Ok _) = nothing
refusal_of (Err e) = numbered_as e

-- a value, or what is wrong
abbrev pub by_number : {A : Type 0} → Result A Refusal → Result A Answered
by_number (Ok x) = Ok x
by_number (Err e) = Err (numbered_as e)

-- what is wrong in an answer that is given by its number
abbrev pub answer_in : {A : Type 0} → Result A Answered → Answered
answer_in (Ok _) = nothing
answer_in (Err e) = e

-- a value, or an index, that fits in a word beside the number
abbrev pub Few : Result ℕ Refusal → Type 0
Few (Ok value) = value ≤ 0xffff_ffff
Few (Err e) = index_of e ≤ 0xffff_ffff
