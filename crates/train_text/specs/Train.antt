-- What `train` writes for a sheet. Definitions only. Assumes nothing.
use Rattle.std.specs.Prelude.{ℕ, List}
use Rattle.answer.specs.Outcome.{Outcome}
use Rattle.sheet_parts.specs.Texts.{text_for, printed_in}
use Rattle.train_text.specs.Trained.{job_text}

-- a refusal's line, or what is written for the job that the sheet holds, which is read as its edition asks
abbrev pub train_text : List ℕ → List ℕ
train_text sheet = text_for (λ J p. job_text J) sheet

-- into lent bytes, which have room for any sheet or get none
abbrev pub train_def : List ℕ → List ℕ → Outcome ℕ (List ℕ)
train_def sheet found = printed_in 65536 (train_text sheet) found
