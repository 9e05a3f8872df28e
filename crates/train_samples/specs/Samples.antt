-- The samples that `train` draws: one for each unit of count, tile by tile, colour by colour. Definitions only. Assumes nothing.
use Rattle.std.specs.Prelude.{ℕ, zero, suc, ◌≤◌, ◌<◌, List, [], ◌∷◌, ◌++◌, length, get_or}
use Rattle.lists.specs.Every.{sum}
use Rattle.job.specs.Job.{counts_part, Inside, most_tile_size, most_tiles}

-- m samples of the colour at place k of tile i, two numbers each
unfoldable pub alike : ℕ → ℕ → ℕ → List ℕ
alike i k zero = []
alike i k (suc m) = alike i k m ++ (i ∷ k ∷ [])

-- those of the first k colours of tile i, whose counts are cs
unfoldable pub tile_samples : ℕ → List ℕ → ℕ → List ℕ
tile_samples i cs zero = []
tile_samples i cs (suc k) = tile_samples i cs k ++ alike i k (get_or cs k 0)

-- all counts of a tile, added up
unfoldable pub units : List ℕ → ℕ
units cs = sum (λ k. get_or cs k 0) (length cs)

module _ (tiles counts : List ℕ) where
  -- the samples of the first t tiles
  unfoldable pub samples_to : ℕ → List ℕ
  samples_to zero = []
  samples_to (suc t) = samples_to t ++ tile_samples t (counts_part tiles counts t) (length (counts_part tiles counts t))

  -- how many they are: all counts of those tiles, added up
  unfoldable pub units_to : ℕ → ℕ
  units_to t = sum (λ i. units (counts_part tiles counts i)) t

-- what is asked of a table of t tiles: each stands in it and among the counts, and has no more pixels than any tile
pub record Countable (tiles counts : List ℕ) (t : ℕ) : Type 0 where
  pub few : t ≤ most_tiles
  pub placed : (i : ℕ) → i < t → Inside 1 tiles i (length counts)
  pub short : (i : ℕ) → i < t → length (counts_part tiles counts i) ≤ most_tile_size
  pub full : (i : ℕ) → i < t → units (counts_part tiles counts i) ≤ most_tile_size
