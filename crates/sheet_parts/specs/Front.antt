-- A job whose lists stand in the first places of lent slices, as a reading leaves them. Definitions only. Assumes nothing.
use Rattle.std.specs.Prelude.{ℕ, ◌+◌, ◌-◌, ◌*◌, ◌≤◌, ◌≡◌, true, List, length, take, Float}
use Rattle.job.specs.declared.Sizes.{Sizes}
use Rattle.job.specs.Job.{Job, job_of, first_of, size_of, most_tile_colours}
use Rattle.job.specs.Checks.{plain_answer}
use Rattle.palette_tile.specs.Tiles.{Shown}
use Rattle.sheet.specs.Sheets.{file_of}

-- a job and a palette that can be written as a sheet
pub record Writable (J : Job) (p : List Float) : Type 0 where
  pub passed : (plain_answer J p true).number ≡ 0
  pub small : length (file_of J p) ≤ 65536

-- the colours of the first t tiles, which stand one behind the other
abbrev pub colours_to : List ℕ → ℕ → ℕ
colours_to tiles t = first_of tiles (t - 1) + size_of tiles (t - 1)

-- the job and the palette in the first places
abbrev pub front_job : Sizes → List ℕ → List Float → List ℕ → Job
front_job z tiles colours counts =
    job_of z (take (2 * z.t) tiles) (take (3 * colours_to tiles z.t) colours) (take (colours_to tiles z.t) counts)

abbrev pub front_palette : Sizes → List Float → List Float
front_palette z palette = take (3 * (z.s * z.c)) palette

-- the slices are long enough for both, which can be written and asked for fits
pub record Front (z : Sizes) (tiles : List ℕ) (colours : List Float) (counts : List ℕ) (palette : List Float) : Type 0 where
  pub writable : Writable (front_job z tiles colours counts) (front_palette z palette)
  pub shown : Shown (front_job z tiles colours counts) (front_palette z palette) z.s z.c
  pub few : colours_to tiles z.t ≤ most_tile_colours
  pub tiled : 2 * z.t ≤ length tiles
  pub coloured : 3 * colours_to tiles z.t ≤ length colours
  pub counted : colours_to tiles z.t ≤ length counts
  pub given : 3 * (z.s * z.c) ≤ length palette
