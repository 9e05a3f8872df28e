-- A tile's turn, and the memory while the tiles are walked over. Assumes nothing.
use Prim.Native.Nat.{ℕ, zero, suc, ◌+◌, ◌≤◌, ◌<◌}
use mathlib.Core.Path.{◌≡◌, refl, ap, ◌∙◌}
use mathlib.Core.Bool.{Bool, true, false}
use mathlib.Core.List.{List}
use native.Mathlib.Omega.{arith}
use lib.Ieee.{Float}
use lib.ListN.{length, set, length-set}
use Rattle.stats.specs.declared.Near.{Near}
use Rattle.job.specs.Job.{Job, is_empty}
use Rattle.palette_tile.specs.Walk.{walk}
use Rattle.palette_tile.specs.Tiles.{fit_at, winner, hint_step, Paired}
use Rattle.palette_tile.proofs.Walks.{Walked, walked_more, walked_end, walked_has}
use Rattle.palette_tile.proofs.Hints.{walked_hints}
use Rattle.palette_tile.proofs.Turns.{passed_over, taken_up, hint-kept, hint-written, fit-index, fit-below}
use Rattle.assign_tiles.specs.Tiles.{TileMemory, tile_memory, subpalette_of, subpalettes, assign_step, assigned, Turn}

pub length-subpalettes : (J : Job) (palette : List Float) (found : List ℕ) (n : ℕ) → length (subpalettes J palette found n) ≡ length found
unfolding walk
length-subpalettes J palette found zero = refl
length-subpalettes J palette found (suc n) = length-set (subpalettes J palette found n) n (subpalette_of J palette n) ∙ length-subpalettes J palette found n

both : (a b c d : List ℕ) → a ≡ c → b ≡ d → tile_memory a b ≡ tile_memory c d
both a b c d e f = ap (λ (x : List ℕ). tile_memory x b) e ∙ ap (tile_memory c) f

-- ---- a tile
module _ (J : Job) (palette : List Float) (a b : List ℕ) (i : ℕ) (A : Turn J palette (tile_memory a b) i) where
  pub turn-paired : Paired J palette J.S J.C a i
  turn-paired = record { shown = A.ready.shown; tile = A.tile; each = A.ready.hints }

  -- r is what the code's test of an empty tile answers
  pub turn-none : (r : Bool) → r ≡ is_empty J i → r ≡ true → tile_memory a (set b i 0) ≡ assign_step J palette i (tile_memory a b)
  unfolding subpalette_of
  turn-none r R e = both _ _ _ _ (hint-kept J palette J.S J.C a i turn-paired r R e) (ap (set b i) (passed_over J i r R 0 (winner J palette J.S J.C i) e))

  module _ (best : Near) (f : best ≡ fit_at J palette J.S J.C i) where
    pub turn-fits : best.index < 4294967296
    turn-fits = omega (arith, fit-below J palette J.S J.C i best f A.ready.shown, A.ready.shown.ready.sizes.few)

    pub turn-some : (r : Bool) → r ≡ is_empty J i → r ≡ false → (after : List ℕ) → after ≡ set a i best.index → tile_memory after (set b i best.index) ≡ assign_step J palette i (tile_memory a b)
    unfolding subpalette_of
    turn-some r R e after g =
        both _ _ _ _ (hint-written J palette J.S J.C a i turn-paired r R e best f after g)
        (ap (set b i) (taken_up J i r R 0 (winner J palette J.S J.C i) e (fit-index J palette J.S J.C i best f)))

-- ---- the tiles: what is held before tile i
abbrev pub Filled : Job → List Float → TileMemory → TileMemory → ℕ → Type 0
Filled J palette start now i =
    Walked J.T (hint_step J palette J.S J.C) start.hints now.hints i × Walked J.T (λ k out. set out k (subpalette_of J palette k)) start.out now.out i

module _ (J : Job) (palette : List Float) (start now : TileMemory) (i : ℕ) (I : Filled J palette start now i) where
  pub filled_lengths : (length now.hints ≡ length start.hints) × (length now.out ≡ length start.out)
  filled_lengths = (walked_hints J palette J.S J.C I.0, walked_has I.1 (λ k out. length out ≡ length start.out) (λ k l. length-subpalettes J palette start.out k))

  pub filled_more : i < J.T → (next : TileMemory) → next ≡ assign_step J palette i now → Filled J palette start next (i + 1)
  filled_more l next e = (walked_more I.0 l (ap (λ (h : TileMemory). h.hints) e), walked_more I.1 l (ap (λ (h : TileMemory). h.out) e))

  pub filled_end : J.T ≤ i → now ≡ assigned J palette start J.T
  unfolding assigned
  filled_end h = both _ _ _ _ (walked_end I.0 h) (walked_end I.1 h)
