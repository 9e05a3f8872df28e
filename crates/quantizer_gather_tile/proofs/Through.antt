-- A walk over a tile's colours keeps the lists whole, and tiles of a job that is shown may be gathered. Assumes nothing.
use Prim.Native.Nat.{ℕ, suc, ◌+◌, ◌*◌, ◌≤◌, ◌<◌}
use mathlib.Core.List.{List}
use native.Mathlib.Omega.{arith}
use lib.ListN.{get_or, length}
use lib.Ieee.{Float}
use Rattle.lists.specs.Every.{sum}
use Rattle.lists.proofs.Loops.{sum_rises}
use Rattle.color.specs.declared.Oklab.{Oklab}
use Rattle.color.proofs.Sizes.{nth_sized}
use Rattle.job.specs.Job.{Job, most_tile_size}
use Rattle.job.proofs.Tiles.{tile-three, tile-bounded}
use Rattle.palette.specs.Palette.{Tile, sub_of, nearest_of}
use Rattle.palette.proofs.Near.{nearest-below}
use Rattle.palette_tile.specs.Tiles.{tile_at, Shown}
use Rattle.palette_tile.proofs.Present.{part-colours, part-some}
use Rattle.quantizer.specs.Sums.{places}
use Rattle.quantizer.specs.declared.Gather.{Gather}
use Rattle.quantizer.specs.Refining.{tile_gather}
use Rattle.quantizer.proofs.Indexes.{row-placed}
use Rattle.quantizer.specs.Refines.{Gathered}
use Rattle.quantizer.proofs.Refines.{Summed, tile_summed}
use Rattle.quantizer_gather_tile.specs.Gathers.{pixels, Gathering}

-- colour k's are among all
pub pixels-part : (X : Tile) (k : ℕ) → k < length X.counts → pixels X k + get_or X.counts k 0 ≤ pixels X (length X.counts)
unfolding sum
pixels-part X k l = sum_rises (λ j. get_or X.counts j 0) (length X.counts) (suc k) l

module _ (s : List Float) (X : Tile) (w : Float) (base : ℕ) (A : Gather) (G : Gathering s X base A) where
  pub place_in : (q : Oklab) → base + (nearest_of s q w).index < places
  place_in q = omega (arith, nearest-below s q w G.some, G.place)

  pub through : (k : ℕ) → k ≤ length X.counts → Summed A (tile_gather s X w base A k) (pixels X k)
  through = tile_summed s X w base A G.held place_in (λ k. nth_sized X.colours 2 (length X.counts) k G.bounded G.three) G.few

-- tile t may go to subpalette i
pub gathering : (J : Job) (pal : List Float) → Shown J pal J.S J.C → (t : ℕ) → t < J.T → (A : Gather) → Gathered A (most_tile_size * t) → (i : ℕ) → i < J.S → Gathering (sub_of pal J.C J.C i) (tile_at J t) (i * J.C) A
gathering J pal S t l A K i m =
    record {
      some = part-some J pal J.S J.C S i m;
      place = omega (arith, row-placed J pal J.S J.C S i m, part-colours J pal J.S J.C S i m);
      three = tile-three J S.ready t l;
      bounded = tile-bounded J S.ready t l;
      held = K.held;
      few = λ p. omega (arith, K.few p, S.ready.full t l, S.ready.sizes.small, S.ready.sizes.tiles);
    }
