-- What `fit` prints last, for a sheet that the reader accepts, in either edition: its loads and its blank tiles are all its tiles. Assumes nothing.
use Rattle.std.specs.Prelude.{ℕ, ◌+◌, ◌≡◌, List, T}
use Rattle.std.proofs.Math.Pow.{are_bytes}
use Rattle.lists.specs.Every.{sum}
use Rattle.format.specs.Format.{accepted}
use Rattle.sheet_format.specs.declared.Edition.{Edition}
use Rattle.sheet_format.specs.Sheet.{Sheet, edition_of, read_sheet}
use Rattle.sheet_format.specs.Lists.{floats, table_of}
use Rattle.sheet.specs.Sheets.{job_in}
use Rattle.fit_tiles.specs.Text.{load_of, blanks_of}

-- the numbers of the lines `load 0 N`, `load 1 N`, .., added up
abbrev pub loads : Edition → Sheet → ℕ
loads E x = sum (λ k. load_of (job_in E x) (floats x.palette) k x.tiles) x.subs

-- the number of the line `blank N`
abbrev pub blanks : Sheet → ℕ
blanks x = blanks_of (table_of 0 x.content) x.tiles

pub record Loads : Type 0 where
  pub all : (size : ℕ) (bytes : List ℕ) (x : Sheet) → T (are_bytes bytes) → read_sheet (edition_of size) bytes ≡ accepted x → loads (edition_of size) x + blanks x ≡ x.tiles
