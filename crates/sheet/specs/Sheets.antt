-- The public reader and writer: what each answers, and what the lent memory holds then. Definitions only. Assumes nothing.
use Rattle.std.specs.Prelude.{ℕ, Bool, true, cond, List, T, leb, length, get_or, Float, Result, Ok, Err}
use Rattle.std.proofs.lemmas.List.Edits.{sets}
use Rattle.std.specs.Float.{nan, binary32}
use Rattle.std.specs.Float.Ieee.{of_bits, fits}
use Rattle.answer.specs.Refusals.{Answered, refusal}
use Rattle.answer.specs.Outcome.{Outcome, outcome, decided}
use Rattle.format.specs.Format.{Answer, refused, accepted, encode}
use Rattle.job.specs.declared.Sizes.{Sizes}
use Rattle.job.specs.Job.{Job, sizes_of, job_of}
use Rattle.job.specs.Checks.{tile_sized, plain_answer}
use Rattle.sheet_format.specs.declared.Edition.{Edition}
use Rattle.sheet_format.specs.Sheet.{Sheet, edition_of, sheet, read_sheet}
use Rattle.sheet_format.specs.Lists.{floats, all_counts, all_floats, table_of}
use Rattle.sheet_pack.specs.Packed.{sheet_of}
unfoldable pub use Rattle.sheet_room.specs.Room.{roomy}

-- each element is a float of 32 bits, as a slice of such floats has it
abbrev pub Singles : List Float → Type 0
Singles v = (i : ℕ) → T (fits binary32 (get_or v i nan))

-- the numbers of the job that a sheet of an edition holds, and the job
abbrev pub sizes_in : Edition → Sheet → Sizes
sizes_in E x = sizes_of E.size x.subs x.each x.tiles 0 (of_bits binary32 x.weight)

abbrev pub job_in : Edition → Sheet → Job
job_in E x = job_of (sizes_in E x) (table_of 0 x.content) (all_floats x.content) (all_counts x.content)

-- ---- reading
-- the memory that a reading is lent
pub record Room : Type 0 where
  pub tiles : List ℕ
  pub colours : List Float
  pub counts : List ℕ
  pub palette : List Float

abbrev pub room : List ℕ → List Float → List ℕ → List Float → Room
room tiles colours counts palette = record { tiles = tiles; colours = colours; counts = counts; palette = palette }

-- the numbers of a job, or a refusal
abbrev pub Reading : Type 0
Reading = Result Sizes Answered

-- there is room for any sheet
abbrev pub enough : Room → Bool
enough h = roomy (length h.tiles) (length h.colours) (length h.counts) (length h.palette)

-- what is found by a reader that is told the tile size: 2 where there is no such size, then 3 for room, then what the bytes hold
abbrev pub found : ℕ → List ℕ → Room → Answer Sheet
found size bytes h =
    cond (tile_sized size) (cond (enough h) (read_sheet (edition_of size) bytes) (refused (refusal 3 0))) (refused (refusal 2 0))

-- a sheet's lists stand in the first places; what isn't filled stays
abbrev pub filled : Sheet → Room → Room
filled x h =
    room (sets h.tiles 0 (table_of 0 x.content)) (sets h.colours 0 (all_floats x.content)) (sets h.counts 0 (all_counts x.content))
    (sets h.palette 0 (floats x.palette))

abbrev pub read_into : Edition → Answer Sheet → Room → Outcome Reading Room
read_into E (refused e) h = outcome (Err e) h
read_into E (accepted x) h = outcome (Ok (sizes_in E x)) (filled x h)

unfoldable pub read_def : ℕ → List ℕ → Room → Outcome Reading Room
read_def size bytes h = read_into (edition_of size) (found size bytes h) h

-- ---- writing
-- how many bytes, or a refusal
abbrev pub Writing : Type 0
Writing = Result ℕ Answered

-- the bytes of a job's sheet, in the edition that its tile size names
abbrev pub file_of : Job → List Float → List ℕ
file_of J palette = encode (sheet (edition_of J.size)) (sheet_of J palette)

-- a file into lent bytes: 13 where it is too large, then 3 where it has no room
unfoldable pub stored_in : List ℕ → List ℕ → Outcome Writing (List ℕ)
stored_in file found =
    cond (leb (length file) 65536)
    (cond (leb (length file) (length found)) (outcome (Ok (length file)) (sets found 0 file)) (outcome (Err (refusal 3 0)) found))
    (outcome (Err (refusal 13 0)) found)

-- the job's own refusals come first; its tile size names the edition
unfoldable pub write_def : Job → List Float → List ℕ → Outcome Writing (List ℕ)
write_def J palette found =
    let e = plain_answer J palette true in
    decided e (stored_in (file_of J palette) found) (Err e) found
