-- The numbers of the sheet's reader, exactly when the table says: 0 for the bytes of a sheet that can be written, 2, 3, 12 and 13. That reader and writer undo each
-- other, and what a sheet is to a reader that is told the other edition's tile size. Assumes nothing.
use Rattle.std.specs.Prelude.{ℕ, ◌≤◌, ◌≡◌, Bool, true, not, ◌&&◌, ◌||◌, List, T, leb, ltb, eqb, length, take, Float, Ok, Err}
use Rattle.std.proofs.Math.Pow.{are_bytes}
use Rattle.std.proofs.lemmas.List.Edits.{sets}
use Rattle.std.specs.Float.{binary32}
use Rattle.std.specs.Float.Ieee.{fits}
use Rattle.answer.specs.Refusals.{refusal, answer_in}
use Rattle.answer.specs.Outcome.{outcome}
use Rattle.bits.specs.Bits.{bits}
use Rattle.format.specs.Format.{Res, fault, got, clear, encode}
use Rattle.job.specs.Job.{Job, sizes_of}
use Rattle.job.specs.Checks.{tile_sized}
use Rattle.sheet_format.specs.declared.Edition.{Edition}
use Rattle.sheet_format.specs.Sheet.{Sheet, edition_of, sheet}
use Rattle.sheet_format.specs.Lists.{floats}
use Rattle.sheet_format.specs.Opened.{misopened}
use Rattle.sheet.specs.Sheets.{Singles, job_in, Room, room, enough, read_def, write_def}
use Rattle.fit_lines.specs.Lines.{refused_line}
use Rattle.sheet_parts.specs.Texts.{text_at, text_for}

-- bytes that are a sheet's of an edition: those of one that can be written, and not too many
pub record WellFormed (E : Edition) (bytes : List ℕ) : Type 0 where
  pub is : Sheet
  pub good : T ((sheet E).good is)
  pub same : encode (sheet E) is ≡ bytes
  pub small : length bytes ≤ 65536

-- ---- the numbers
-- a field is cut short, or behind the last one there is a spare bit set, or a byte
abbrev pub unended : Res Sheet → Bool
unended (fault n i) = eqb n 13
unended (got x r) = not (ltb (length r) 8 && clear r)

module _ (size : ℕ) (bytes : List ℕ) where
  -- of a reader that is told the tile size
  abbrev pub number : Room → ℕ
  number h = (answer_in (read_def size bytes h).answer).number

  -- what the fields give, before anything is asked of what stands behind them
  abbrev pub fields : Res Sheet
  fields = (sheet (edition_of size)).parse (bits bytes)

  -- it is one of the two sizes, there is room, and the bytes are not too many
  abbrev pub readable : Room → Bool
  readable h = tile_sized size && (enough h && leb (length bytes) 65536)

  pub record Numbers (h : Room) : Type 0 where
    -- 0 exactly when there is such a tile size, and room, and the bytes are a sheet's of its edition
    pub nought : T (are_bytes bytes) → number h ≡ 0 → (tile_sized size ≡ true) × (enough h ≡ true) × WellFormed (edition_of size) bytes
    pub nought_of : tile_sized size ≡ true → enough h ≡ true → WellFormed (edition_of size) bytes → number h ≡ 0
    -- 2 exactly when there is no such tile size, else 3 exactly when there is too little room
    pub two : eqb (number h) 2 ≡ not (tile_sized size)
    pub three : eqb (number h) 3 ≡ tile_sized size && not (enough h)
    -- 12 exactly when, in bytes that are not too many, the opening or the edition is there and wrong
    pub twelve : eqb (number h) 12 ≡ readable h && misopened (edition_of size) (bits bytes)
    -- 13 exactly when they are too many, or the first fault is a field cut short, or there is more behind the last
    pub thirteen : eqb (number h) 13 ≡ tile_sized size && (enough h && (not (leb (length bytes) 65536) || unended fields))

-- ---- reader and writer undo each other, in either edition
pub record Inverse : Type 0 where
  -- what is written for a job of floats of 32 bits is read as the same job by a reader that is told its tile size; what isn't filled stays
  pub read_back : (J : Job) (palette : List Float) (old : List ℕ) (n : ℕ) (new : List ℕ) → outcome (Ok n) new ≡ write_def J palette old
      → T (fits binary32 J.weight) → Singles J.colours → Singles palette → (h : Room) → enough h ≡ true
      → read_def J.size (take n new) h
      ≡ outcome (Ok (sizes_of J.size J.S J.C J.T 0 J.weight))
      (room (sets h.tiles 0 J.tiles) (sets h.colours 0 J.colours) (sets h.counts 0 J.counts) (sets h.palette 0 palette))
  -- the job that a sheet holds is written as the same bytes
  pub write_back : (size : ℕ) (bytes : List ℕ) (W : WellFormed (edition_of size) bytes) (old : List ℕ) → length bytes ≤ length old
      → write_def (job_in (edition_of size) W.is) (floats W.is.palette) old ≡ outcome (Ok (length bytes)) (sets old 0 bytes)

-- ---- editions
abbrev pub Differ : ℕ → ℕ → Type 0
Differ size other = (tile_sized size ≡ true) × (tile_sized other ≡ true) × (size ≡ other → ⊥)

pub record Editions : Type 0 where
  -- a sheet of one edition is 12 to a reader that is told the other's tile size, and a program that is told it prints that line and no tile
  pub other : (size other : ℕ) → Differ size other → (bytes : List ℕ) → WellFormed (edition_of other) bytes → (h : Room) → enough h ≡ true
      → read_def size bytes h ≡ outcome (Err (refusal 12 0)) h
  pub no_tile : (size other : ℕ) → Differ size other → (bytes : List ℕ) → WellFormed (edition_of other) bytes → (f : Job → List Float → List ℕ)
      → text_at f size bytes ≡ refused_line 12
  -- a program that looks at the edition first reads a sheet of either as what it is
  pub either : (size : ℕ) → tile_sized size ≡ true → (bytes : List ℕ) (W : WellFormed (edition_of size) bytes) (f : Job → List Float → List ℕ)
      → text_for f bytes ≡ f (job_in (edition_of size) W.is) (floats W.is.palette)
