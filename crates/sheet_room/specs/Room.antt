-- Room for any sheet of 65,536 bytes, and the place of a file in lent bytes. Definitions only. Assumes nothing.
use Rattle.std.specs.Prelude.{ℕ, Bool, ◌&&◌, cond, leb}
use Rattle.answer.specs.Refusals.{Answered, refusal, nothing}

-- enough for any sheet of 65,536 bytes
unfoldable pub roomy : ℕ → ℕ → ℕ → ℕ → Bool
roomy tiles colours counts palette = leb 768 palette && (leb 2048 tiles && (leb 5140 counts && leb 15420 colours))

-- a file's n bytes into lent ones: 13 where they are too many, then 3 where they have no room
unfoldable pub place_for : ℕ → ℕ → Answered
place_for n lent = cond (leb n 65536) (cond (leb n lent) nothing (refusal 3 0)) (refusal 13 0)
