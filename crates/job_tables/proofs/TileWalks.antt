-- The loop over the tile table: what it holds at index i, and what a turn does. Assumes nothing.
use Prim.Native.Nat.{ℕ, ◌+◌, ◌≤◌, ◌<◌}
use mathlib.Core.Path.{◌≡◌, refl, sym, ◌∙◌}
use mathlib.Core.Bool.{Bool, true, false, not}
use mathlib.Core.List.{List}
use native.Mathlib.Omega.{arith}
use lib.Dec.{eqb}
use borrow.Author.Tests.{not-false}
use Rattle.lists.specs.Every.{every, sum}
use Rattle.lists.proofs.Loops.{sum_more, every_fails, every_more, every_end}
use Rattle.job.proofs.Ready.{test_room}
use Rattle.job.specs.Job.{size_of, first_of}
use Rattle.job.specs.Checks.{tile_test, tile_fits, tiles_fit}

pub record Tiled (size total : ℕ) (tiles : List ℕ) (at i : ℕ) : Type 0 where
  pub ends : at ≡ sum (size_of tiles) i
  pub room : at ≤ total
  pub good : every (tile_fits size total tiles) i ≡ true

module _ (size total : ℕ) (tiles : List ℕ) where
  pub tiled-start : Tiled size total tiles 0 0
  unfolding sum every
  tiled-start = record { ends = refl; room = omega arith; good = refl }

  module _ (at i : ℕ) (I : Tiled size total tiles at i) (f n : ℕ) (r : Bool) (F : f ≡ first_of tiles i) (N : n ≡ size_of tiles i) (R : r ≡ tile_test size total at f n) where
    tested : r ≡ tile_fits size total tiles i
    unfolding tile_fits
    tested = R ∙ rw (F, N, I.ends) refl

    pub tiled_fails : (t : ℕ) → not r ≡ true → i < t → false ≡ tiles_fit size total tiles t
    unfolding tiles_fit
    tiled_fails t h l = rw (← every_fails (tile_fits size total tiles) t i r tested h l)

    pub tiled-room : not r ≡ false → at + n ≤ total
    tiled-room h = test_room size total at f n (sym R ∙ not-false r h)

    pub tiled-more : not r ≡ false → Tiled size total tiles (at + n) (i + 1)
    tiled-more h =
        record {
          ends = sum_more (size_of tiles) i at n I.ends N;
          room = tiled-room h;
          good = every_more (tile_fits size total tiles) i r I.good tested h;
        }

  pub tiled_end : (at i t : ℕ) → Tiled size total tiles at i → i ≤ t → t ≤ i → eqb at total ≡ tiles_fit size total tiles t
  unfolding tiles_fit
  tiled_end at i t I l h = rw (← every_end (tile_fits size total tiles) t i I.good l h, ← same i t l h, ← I.ends)
    where
      same : (i n : ℕ) → i ≤ n → n ≤ i → i ≡ n
      same i n l h = omega arith
