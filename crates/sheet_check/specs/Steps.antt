-- What a pass over a whole sheet answers, by the format. Definitions only. Assumes nothing.
use Rattle.std.specs.Prelude.{ℕ, Result, Ok, Err}
use Rattle.answer.specs.Refusals.{Answered}
use Rattle.format.specs.Format.{Res, fault, got, Answer, refused, accepted}
use Rattle.sheet_format.specs.Sheet.{Header, Sheet, fault_of}
use Rattle.sheet_check.specs.declared.Numbers.{Numbers}

-- the numbers at the head, or a refusal
abbrev pub Checked : Type 0
Checked = Result Numbers Answered

abbrev pub sound : ℕ → ℕ → ℕ → ℕ → Checked
sound a b t w = Ok (record { subs = a; each = b; tiles = t; weight = w })

abbrev pub head_of : Res Header → Checked
head_of (fault n i) = Err (fault_of n i)
head_of (got h r) = sound h.0 h.1.0 h.1.1.0 h.1.1.1

abbrev pub checked_of : Answer Sheet → Checked
checked_of (refused e) = Err e
checked_of (accepted x) = sound x.subs x.each x.tiles x.weight
