-- What `fit` prints for a sheet. Definitions only. Assumes nothing.
use Rattle.std.specs.Prelude.{ℕ, List}
use Rattle.answer.specs.Outcome.{Outcome}
use Rattle.fit_tiles.specs.Text.{fit_text}
pub use Rattle.fit_tiles.specs.Text.{most_text}
use Rattle.sheet_parts.specs.Texts.{text_for, printed_in}

-- for a sheet, which is read as its edition asks; into lent bytes, which have room for any sheet's lines or get none
abbrev pub fit_def : List ℕ → List ℕ → Outcome ℕ (List ℕ)
fit_def sheet found = printed_in most_text (text_for fit_text sheet) found
