-- One draw: the colour nearest to a sample, in the subpalette that fits the sample's tile best, moves towards it.
-- The n subpalettes of `have` colours are present. Definitions only. Assumes nothing.
use Rattle.std.specs.Prelude.{ℕ, List, set, Float}
use Rattle.color.specs.Color.{colour_at}
use Rattle.job.specs.Job.{Job, tile_of}
use Rattle.palette.specs.Palette.{sub_of, nearest_of}
use Rattle.palette_edit.specs.Edits.{place_of, nudged_at}
use Rattle.palette_tile.specs.Tiles.{winner}

-- the place of the colour that moves for colour k of tile t
unfoldable pub target_of : Job → List Float → ℕ → ℕ → ℕ → ℕ → ℕ
target_of J pal n have t k =
    let i = winner J pal n have t in
    place_of J.C i (nearest_of (sub_of pal J.C have i) (colour_at (tile_of J t) k) J.weight).index

unfoldable pub moved : Job → List Float → ℕ → ℕ → ℕ → ℕ → Float → List Float
moved J pal n have t k alpha = nudged_at pal (target_of J pal n have t k) (colour_at (tile_of J t) k) alpha

unfoldable pub moved_hints : Job → List Float → ℕ → ℕ → ℕ → List ℕ → List ℕ
moved_hints J pal n have t h = set h t (winner J pal n have t)
