-- What `train` writes: for a sheet with some samples and not too many, a sheet that the reader accepts, the same but for its palette, which is the trained one;
-- for anything else the line of a refusal. Assumes nothing.
use Rattle.std.specs.Prelude.{ℕ, ◌≤◌, ◌<◌, ◌≡◌, List, T, length, take}
use Rattle.std.proofs.Math.Pow.{are_bytes}
use Rattle.std.proofs.lemmas.List.Edits.{sets}
use Rattle.answer.specs.Refusals.{Answered}
use Rattle.color.specs.Color.{Bounded}
use Rattle.answer.specs.Outcome.{outcome}
use Rattle.format.specs.Format.{refused, accepted}
use Rattle.sheet_format.specs.declared.Edition.{Edition}
use Rattle.sheet_format.specs.Sheet.{Sheet, edition_of, read_sheet}
use Rattle.sheet_format.specs.Opened.{size_in}
use Rattle.sheet_format.specs.Lists.{floats, all_counts, table_of}
use Rattle.sheet.specs.Sheets.{job_in}
use Rattle.fit_lines.specs.Lines.{refused_line}
use Rattle.train_samples.specs.Samples.{units_to}
use Rattle.train_text.specs.Trained.{unit_course, trained_palette}
use Rattle.train_text.specs.Train.{train_def}

-- the samples of a sheet's job: all its counts, added up
abbrev pub samples : Sheet → ℕ
samples x = units_to (table_of 0 x.content) (all_counts x.content) x.tiles

-- y is the sheet x of an edition, trained
pub record TrainedAs (E : Edition) (x y : Sheet) : Type 0 where
  -- S, C, T, the weight, and every tile's colours with their counts: as they were, bit for bit
  pub subs : y.subs ≡ x.subs
  pub each : y.each ≡ x.each
  pub tiles : y.tiles ≡ x.tiles
  pub weight : y.weight ≡ x.weight
  pub content : y.content ≡ x.content
  -- so it holds the same job
  pub job : job_in E y ≡ job_in E x
  -- and with it the palette that training its samples gives, every component of which is at most 2 in size
  pub palette : floats y.palette ≡ trained_palette (unit_course (job_in E x))
  pub small : Bounded (floats y.palette) 2

module _ (bytes room : List ℕ) where
  -- the bytes that are written, where `bytes` are read and `room` is lent
  abbrev pub written : List ℕ
  written = take (train_def bytes room).answer (train_def bytes room).after

  -- the edition that they are read as, which a sheet says itself (Sheets, Editions)
  abbrev pub edition : Edition
  edition = edition_of (size_in bytes)

  -- they are a sheet of the same edition, which its reader accepts: x trained, in as many bytes
  pub record ReadBack (x : Sheet) : Type 0 where
    pub sheet : Sheet
    pub reads : read_sheet edition written ≡ accepted sheet
    pub trained : TrainedAs edition x sheet
    pub long : length written ≡ length bytes

  -- they are the line of refusal n
  abbrev pub Line : ℕ → Type 0
  Line n = train_def bytes room ≡ outcome (length (refused_line n)) (sets room 0 (refused_line n))

  -- a sheet with some samples and not too many is trained; a sheet with none, one with more, and what is no sheet get their number
  pub record Writes : Type 0 where
    pub sheet : (x : Sheet) → read_sheet edition bytes ≡ accepted x → 1 ≤ samples x → samples x ≤ 16384 → ReadBack x
    pub none : (x : Sheet) → read_sheet edition bytes ≡ accepted x → samples x ≡ 0 → Line 1
    pub many : (x : Sheet) → read_sheet edition bytes ≡ accepted x → 16384 < samples x → Line 2
    pub no_sheet : (e : Answered) → read_sheet edition bytes ≡ refused e → Line e.number

-- for all bytes, in room for any sheet; in less room nothing is written
pub record Trained : Type 0 where
  pub writes : (bytes room : List ℕ) → T (are_bytes bytes) → 65536 ≤ length room → Writes bytes room
  pub no_room : (bytes room : List ℕ) → length room < 65536 → train_def bytes room ≡ outcome 0 room
