-- A turn over one tile: what its calls ask, and what it comes to; and the sums while the tiles are walked over. Assumes nothing.
use Prim.Native.Nat.{ℕ, ◌*◌}
use mathlib.Core.Path.{◌≡◌, sym, ap, ◌∙◌}
use mathlib.Core.Bool.{Bool, true, false}
use mathlib.Core.List.{List}
use lib.ListN.{length, set}
use lib.Ieee.{Float}
use Rattle.job.specs.Job.{Job, tile_of, counts_of, is_empty, most_tile_size}
use Rattle.stats.specs.declared.Near.{Near}
use Rattle.palette.specs.Palette.{tile_with, sub_of}
use Rattle.palette_tile.specs.Tiles.{tile_at, fit_at, winner, hint_step, Shown}
use Rattle.palette_tile.proofs.Present.{winner-below}
use Rattle.palette_tile.proofs.Walks.{Walked, walked_has}
use Rattle.palette_tile.proofs.Turns.{no_colours, hint-kept, hint-written, goes_same, goes_asks, fit-index}
use Rattle.quantizer.specs.declared.Gather.{Gather}
use Rattle.quantizer.specs.Refining.{nothing, tile_gather, gather_step}
use Rattle.quantizer.specs.Refines.{Gathered}
use Rattle.quantizer.proofs.Refines.{gathered}
use Rattle.quantizer_gather_tile.specs.Gathers.{Gathering}
use Rattle.quantizer_gather_tile.proofs.Through.{gathering}
use Rattle.quantizer_gather.specs.Turns.{Turned}

module _ (J : Job) (pal : List Float) (hints : List ℕ) (t : ℕ) (A : Gather) (K : Turned J pal hints t A) where
  abbrev best : ℕ
  best = winner J pal J.S J.C t

  abbrev Stepped : Gather → List ℕ → Type 0
  Stepped B after = (B ≡ gather_step J pal best t A) × (after ≡ hint_step J pal J.S J.C t hints)

  pub turn-none : (r : Bool) → r ≡ is_empty J t → r ≡ true → Stepped A hints
  unfolding gather_step tile_gather
  turn-none r R p = (
    sym (ap (tile_gather (sub_of pal J.C J.C best) (tile_at J t) J.weight (best * J.C) A) (no_colours J pal J.S J.C hints t K.paired r R p)),
    hint-kept J pal J.S J.C hints t K.paired r R p,
  )

  module _ (b : Near) (B : b ≡ fit_at J pal J.S J.C t) (sub tile : List Float) (part : List ℕ) (S : sub ≡ sub_of pal J.C J.C b.index) (E : tile ≡ tile_of J t) (C : part ≡ counts_of J t) where
    pub turn_gathering : Gathering sub (tile_with tile part) (b.index * J.C) A
    turn_gathering =
        goes_asks J pal J.C t b.index best (fit-index J pal J.S J.C t b B) sub tile part S E C (λ i s X. Gathering s X (i * J.C) A)
        (gathering J pal K.paired.shown t K.paired.tile A K.gathered best (winner-below J pal J.S J.C K.paired.shown t))

    pub turn-done : (r : Bool) → r ≡ is_empty J t → r ≡ false → (X : Gather) (after : List ℕ) → X ≡ tile_gather sub (tile_with tile part) J.weight (b.index * J.C) A (length part) → after ≡ set hints t b.index → Stepped X after
    unfolding gather_step
    turn-done r R p X after u v = (
      u ∙ goes_same J pal J.C t b.index best (fit-index J pal J.S J.C t b B) sub tile part S E C (λ i s Y. tile_gather s Y J.weight (i * J.C) A (length Y.counts)),
      hint-written J pal J.S J.C hints t K.paired r R p b B after v,
    )

-- ---- while the tiles are walked over
module _ (J : Job) (pal : List Float) (S : Shown J pal J.S J.C) {A : Gather} {t : ℕ} (W : Walked J.T (λ i. gather_step J pal (winner J pal J.S J.C i) i) nothing A t) where
  pub walked_gathered : Gathered A (most_tile_size * t)
  walked_gathered = walked_has W (λ i B. Gathered B (most_tile_size * i)) (gathered J pal S)
