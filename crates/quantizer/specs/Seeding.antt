-- Seeding: the first colour is the mean of the samples; the subpalette of greatest summed distance is duplicated next. One colour of each is present.
-- Definitions only. Assumes nothing.
use Rattle.std.specs.Prelude.{ℕ, cond, List, Float}
use Rattle.color.specs.declared.Oklab.{Oklab}
use Rattle.color.specs.Color.{put_at, mean_of}
use Rattle.job.specs.Job.{Job, most_subpalettes, is_empty}
use Rattle.palette_edit.specs.Edits.{sub_copied}
use Rattle.palette_tile.specs.Walk.{walk}
use Rattle.palette_tile.specs.Tiles.{fit_at}
use Rattle.quantizer.specs.Course.{Course, sample_colour}
use Rattle.quantizer.specs.Sums.{bump, zeros, sums_at, greatest}

-- the mean of the samples in order
unfoldable pub seed_mean : Course → Oklab
seed_mean K = mean_of (sample_colour K) K.n

-- into place 0
unfoldable pub seeded : Course → List Float → List Float
seeded K pal = put_at pal 0 (seed_mean K)

-- subpalette `to` becomes subpalette `from`
unfoldable pub duplicated : Job → ℕ → ℕ → List Float → List Float
duplicated J from to pal = sub_copied pal J.C 1 from to

-- a tile's distance goes to the sum of the subpalette that fits it best; an empty tile is passed over
unfoldable pub distance_step : Job → List Float → ℕ → ℕ → List Float → List Float
distance_step J pal n t d = cond (is_empty J t) d (bump d (fit_at J pal n 1 t).index (fit_at J pal n 1 t).dist)

-- over the first t tiles, by subpalette
abbrev pub distances_of : Job → List Float → ℕ → ℕ → List Float
distances_of J pal n t = walk (distance_step J pal n) (zeros most_subpalettes) t

-- the subpalette to be duplicated next: of the n present, the last of greatest summed distance. The hints left are `hints_of J pal n 1 h J.T`
unfoldable pub worst_of : Job → List Float → ℕ → ℕ
worst_of J pal n = greatest (sums_at (distances_of J pal n J.T) 0 n)
