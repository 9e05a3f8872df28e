-- Replacing the weakest: in each subpalette the colour whose loss adds least gives way to a copy of the one that has most, then so does a subpalette,
-- where the loss is less than half of what the other has. Every colour is present. Nothing here reads a hint. Definitions only. Assumes nothing.
use Rattle.std.specs.Prelude.{ℕ, zero, suc, ◌+◌, ◌*◌, Bool, cond, not, ◌&&◌, List, get_or, length, set, pos, eqb, ltb, Float, Option, Some, None}
use Rattle.std.specs.Float.{nan, binary32}
use Rattle.std.specs.Float.Ieee.{mul, lt, of_int, of_bits}
use Rattle.color.specs.Color.{colour_at}
use Rattle.stats.specs.declared.Two.{Two}
use Rattle.job.specs.Job.{Job, most_subpalettes}
use Rattle.palette.specs.Palette.{Tile, sub_of}
use Rattle.palette_two.specs.PaletteTwo.{nearest_two_of}
use Rattle.palette_edit.specs.Edits.{colour_copied, sub_copied}
use Rattle.palette_tile.specs.Walk.{walk}
use Rattle.palette_tile.specs.Tiles.{tile_at, two_at}
use Rattle.quantizer.specs.declared.Swap.{Swap}
use Rattle.quantizer.specs.declared.Shares as declared
use Rattle.quantizer.specs.Sums.{bump, zeros, places, sums_at, greatest, smallest}

-- what each has, and what would be added without it
pub record Shares : Type 0 where
  pub had : List Float
  pub lost : List Float

abbrev pub shares : List Float → List Float → Shares
shares had lost = record { had = had; lost = lost }

-- those of a struct of n places
abbrev pub shares_in : {n : ℕ} → declared.Shares n → Shares
shares_in x = shares x.had x.lost

abbrev pub no_shares : ℕ → Shares
no_shares n = shares (zeros n) (zeros n)

-- ---- by subpalette, over all tiles: an empty one has distances 0, and goes to subpalette 0
abbrev pub share_with : Two → Shares → Shares
share_with r A = shares (bump A.had r.index r.dist) (bump A.lost r.index r.second)

-- the best two of all subpalettes for tile t
abbrev pub pair_at : Job → List Float → ℕ → Two
pair_at J pal t = two_at J pal J.S J.C t

-- over the first t tiles
abbrev pub shares_of : Job → List Float → ℕ → Shares
shares_of J pal t = walk (λ i. share_with (pair_at J pal i)) (no_shares most_subpalettes) t

-- the hints after the best two of the first t tiles
abbrev pub pair_hints : Job → List Float → List ℕ → ℕ → List ℕ
pair_hints J pal h t = walk (λ i g. set g i (pair_at J pal i).index) h t

-- ---- by colour
-- m pixels whose best two are r, to the colour at p
abbrev pub add_shares : Shares → ℕ → Two → ℕ → Shares
add_shares A p r m =
    let f = of_int binary32 (pos m) in
    shares (bump A.had p (mul binary32 r.dist f)) (bump A.lost p (mul binary32 r.second f))

-- the first k colours of a tile, to the colours whose sums begin at `base`
unfoldable pub tile_shares : List Float → Tile → Float → ℕ → Shares → ℕ → Shares
tile_shares s X w base A zero = A
tile_shares s X w base A (suc k) =
    let r = nearest_two_of s (colour_at X.colours k) w in
    add_shares (tile_shares s X w base A k) (base + r.index) r (get_or X.counts k 0)

-- the subpalette that tile t goes to: at one subpalette no best two is asked for
unfoldable pub owner_of : Job → List Float → ℕ → ℕ
owner_of J pal t = cond (ltb 1 J.S) (pair_at J pal t).index 0

-- tile t, to subpalette i: its colour j is at the place i * C + j
unfoldable pub spread_step : Job → List Float → ℕ → ℕ → Shares → Shares
spread_step J pal i t A = tile_shares (sub_of pal J.C J.C i) (tile_at J t) J.weight (i * J.C) A (length (tile_at J t).counts)

-- over the first t tiles, tile i to subpalette `owner i`
abbrev pub spread_of : Job → List Float → (ℕ → ℕ) → ℕ → Shares
spread_of J pal owner t = walk (λ i. spread_step J pal (owner i) i) (no_shares places) t

-- ---- what gives way to what
-- what one place would add if it were gone is less than half of what another has
abbrev pub gives_way : Float → Float → Bool
gives_way lost had = lt lost (mul binary32 (of_bits binary32 0x3f000000) had)

abbrev pub swap_at : List Float → List Float → ℕ → ℕ → Option Swap
swap_at had lost from to = cond (not (eqb to from) && gives_way (get_or lost to nan) (get_or had from nan)) (Some (record { from = from; to = to })) None

-- the last that has most, and the first without which least is lost
abbrev pub swap_of : List Float → List Float → Option Swap
swap_of had lost = swap_at had lost (greatest had) (smallest lost)

-- of the sums of `size` places from `from` on
abbrev pub swap_in : Shares → ℕ → ℕ → Option Swap
swap_in A from size = swap_of (sums_at A.had from size) (sums_at A.lost from size)

-- a colour of subpalette i, or a subpalette, is copied over another, where one gives way
unfoldable pub colour_swapped : List Float → ℕ → ℕ → Option Swap → List Float
colour_swapped pal c i None = pal
colour_swapped pal c i (Some s) = colour_copied pal c i s.from s.to

unfoldable pub sub_swapped : List Float → ℕ → Option Swap → List Float
sub_swapped pal c None = pal
sub_swapped pal c (Some s) = sub_copied pal c c s.from s.to

-- a colour in each of the first i subpalettes
unfoldable pub recoloured : Job → List Float → Shares → ℕ → List Float
recoloured J pal A zero = pal
recoloured J pal A (suc i) = colour_swapped (recoloured J pal A i) J.C i (swap_in A (i * J.C) J.C)

-- ---- the stage boundary, and the hints left
unfoldable pub colours_replaced : Job → List Float → List Float
colours_replaced J pal = cond (ltb 1 J.C) (recoloured J pal (spread_of J pal (owner_of J pal) J.T) J.S) pal

unfoldable pub sub_replaced : Job → List Float → List Float → List Float
sub_replaced J pal recoloured = cond (ltb 1 J.S) (sub_swapped recoloured J.C (swap_in (shares_of J pal J.T) 0 J.S)) recoloured

unfoldable pub replaced : Job → List Float → List Float
replaced J pal = sub_replaced J pal (colours_replaced J pal)

-- every hint becomes the winner, an empty tile's 0; at one subpalette all stay
unfoldable pub replaced_hints : Job → List Float → List ℕ → List ℕ
replaced_hints J pal h = cond (ltb 1 J.S) (pair_hints J pal h J.T) h
