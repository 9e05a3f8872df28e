-- What a program prints for the bytes of a sheet, by what it prints for a job and its palette. Definitions only. Assumes nothing.
use Rattle.std.specs.Prelude.{ℕ, cond, List, leb, length, Float}
use Rattle.std.proofs.lemmas.List.Edits.{sets}
use Rattle.format.specs.Format.{Answer, refused, accepted}
use Rattle.answer.specs.Outcome.{Outcome, outcome}
use Rattle.job.specs.Job.{Job}
use Rattle.fit_lines.specs.Lines.{refused_line}
use Rattle.sheet_format.specs.declared.Edition.{Edition}
use Rattle.sheet_format.specs.Sheet.{Sheet, edition_of, read_sheet}
use Rattle.sheet_format.specs.Opened.{size_in}
use Rattle.sheet_format.specs.Lists.{floats}
use Rattle.sheet.specs.Sheets.{job_in}

-- a line with a refusal's number, or what f prints for the job that a sheet of an edition holds
abbrev pub sheet_text : (Job → List Float → List ℕ) → Edition → Answer Sheet → List ℕ
sheet_text f E (refused e) = refused_line e.number
sheet_text f E (accepted x) = f (job_in E x) (floats x.palette)

-- for bytes that are read as the tile size says
abbrev pub text_at : (Job → List Float → List ℕ) → ℕ → List ℕ → List ℕ
text_at f size bytes = sheet_text f (edition_of size) (read_sheet (edition_of size) bytes)

-- and as their own edition asks, which a program looks at first
abbrev pub text_for : (Job → List Float → List ℕ) → List ℕ → List ℕ
text_for f bytes = text_at f (size_in bytes) bytes

-- ---- into lent bytes, and how many that is: none are written where there is too little room for any sheet's text
unfoldable pub printed_in : ℕ → List ℕ → List ℕ → Outcome ℕ (List ℕ)
printed_in most text found = cond (leb most (length found)) (outcome (length text) (sets found 0 text)) (outcome 0 found)
