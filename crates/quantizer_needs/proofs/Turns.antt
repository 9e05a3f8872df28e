-- Sums by colour over the tiles, each in the subpalette that fits it best: a tile's part in them, and those of all tiles. Assumes nothing.
use Prim.Native.Nat.{ℕ, ◌*◌, ◌≤◌}
use mathlib.Core.Path.{◌≡◌, sym, ap, ◌∙◌}
use mathlib.Core.Bool.{Bool, true, false, cond}
use mathlib.Core.List.{List}
use lib.ListN.{length, set}
use lib.Ieee.{Float}
use borrow.Author.Tests.{eq-eqb, ne_eqb}
use Rattle.job.specs.Job.{Job, tile_of, counts_of, is_empty}
use Rattle.stats.specs.declared.Near.{Near}
use Rattle.palette.specs.Palette.{tile_with, sub_of}
use Rattle.palette_tile.specs.Tiles.{tile_at, fit_at, winner, hint_step, hints_of}
use Rattle.palette_tile.proofs.Present.{winner-below}
use Rattle.palette_tile.proofs.Walks.{Walked, walked_end}
use Rattle.palette_tile.proofs.Turns.{no_colours, hint-kept, hint-written, goes_same, goes_asks, fit-index}
use Rattle.quantizer.specs.Sums.{zeros, places}
use Rattle.quantizer.specs.Growing.{tile_needs, need_step, needs_of, grown_hints}
use Rattle.quantizer_matches.specs.Matches.{Matched}
use Rattle.quantizer_matches.proofs.Asked.{tile_matched}
use Rattle.quantizer_needs.specs.Asked.{split_sums, NeedTurn}

-- ---- a tile
module _ (J : Job) (pal : List Float) (have : ℕ) (hints : List ℕ) (t : ℕ) (total : List Float) (K : NeedTurn J pal have hints t total) where
  abbrev best : ℕ
  best = winner J pal J.S have t

  abbrev Stepped : List Float → List ℕ → Type 0
  Stepped after left = (after ≡ need_step J pal have best t total) × (left ≡ hint_step J pal J.S have t hints)

  -- an empty one adds nothing
  pub turn-none : (r : Bool) → r ≡ is_empty J t → r ≡ true → Stepped total hints
  unfolding need_step tile_needs
  turn-none r R p = (
    sym (ap (tile_needs (sub_of pal J.C have best) (tile_at J t) J.weight (best * J.C) total) (no_colours J pal J.S have hints t K.paired r R p)),
    hint-kept J pal J.S have hints t K.paired r R p,
  )

  module _ (b : Near) (B : b ≡ fit_at J pal J.S have t) (sub tile : List Float) (part : List ℕ) (S : sub ≡ sub_of pal J.C have b.index) (E : tile ≡ tile_of J t) (C : part ≡ counts_of J t) where
    pub turn_matched : Matched sub (tile_with tile part) (b.index * J.C) (length total)
    turn_matched =
        goes_asks J pal have t b.index best (fit-index J pal J.S have t b B) sub tile part S E C (λ i s X. Matched s X (i * J.C) (length total))
        (tile_matched J pal J.S have K.paired.shown t K.paired.tile best (winner-below J pal J.S have K.paired.shown t) (length total) K.wide)

    pub turn-done : (r : Bool) → r ≡ is_empty J t → r ≡ false → (after : List Float) (left : List ℕ) → after
        ≡ tile_needs sub (tile_with tile part) J.weight (b.index * J.C) total (length part) → left ≡ set hints t b.index → Stepped after left
    unfolding need_step
    turn-done r R p after left u v = (
      u ∙ goes_same J pal have t b.index best (fit-index J pal J.S have t b B) sub tile part S E C (λ i s X. tile_needs s X J.weight (i * J.C) total (length X.counts)),
      hint-written J pal J.S have hints t K.paired r R p b B left v,
    )

-- ---- all tiles; none is fitted where one colour each is present
module _ (J : Job) (pal : List Float) (have : ℕ) where
  abbrev Split : List Float → List ℕ → List ℕ → Type 0
  Split total first left = (total ≡ split_sums J pal have) × (left ≡ grown_hints J pal have first)

  pub none_fitted : have ≡ 1 → (total : List Float) (first : List ℕ) → total ≡ zeros places → Split total first first
  unfolding split_sums grown_hints
  none_fitted e total first z = (
    z ∙ sym (ap (λ (b : Bool). cond b (zeros places) (needs_of J pal have J.T)) (eq-eqb have 1 e)),
    sym (ap (λ (b : Bool). cond b first (hints_of J pal J.S have first J.T)) (eq-eqb have 1 e)),
  )

  module _ {total : List Float} {t : ℕ} (W : Walked J.T (λ i. need_step J pal have (winner J pal J.S have i) i) (zeros places) total t) where
    pub all_fitted : {first hints : List ℕ} → Walked J.T (hint_step J pal J.S have) first hints t → (have ≡ 1 → ⊥) → J.T ≤ t → Split total first hints
    unfolding split_sums grown_hints
    all_fitted {first} H f h = (
      walked_end W h ∙ sym (ap (λ (b : Bool). cond b (zeros places) (needs_of J pal have J.T)) (ne_eqb have 1 f)),
      walked_end H h ∙ sym (ap (λ (b : Bool). cond b first (hints_of J pal J.S have first J.T)) (ne_eqb have 1 f)),
    )
