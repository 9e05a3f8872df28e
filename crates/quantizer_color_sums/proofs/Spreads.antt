-- Sums by colour: a tile's part in them, in the subpalette that it goes to. Assumes nothing.
use Prim.Native.Nat.{ℕ, ◌+◌, ◌*◌, ◌≤◌, ◌<◌}
use mathlib.Core.Path.{◌≡◌, refl, ◌∙◌}
use mathlib.Core.List.{List}
use lib.ListN.{length}
use lib.Ieee.{Float}
use Rattle.job.specs.Job.{Job, tile_of, counts_of}
use Rattle.palette.specs.Palette.{tile_with, sub_of}
use Rattle.palette_tile.proofs.Turns.{goes_part, goes_same, goes_asks}
use Rattle.quantizer.specs.Sums.{places}
use Rattle.quantizer.specs.Replacing.{Shares, tile_shares, owner_of, spread_step}
use Rattle.quantizer.proofs.Indexes.{owner-below}
use Rattle.quantizer_matches.specs.Matches.{Matched}
use Rattle.quantizer_matches.proofs.Asked.{tile_matched}
use Rattle.quantizer_owner.specs.Owner.{owner_in}
use Rattle.quantizer_color_sums.specs.Asked.{OwnerTurn}

module _ (J : Job) (pal : List Float) (hints : List ℕ) (t : ℕ) (K : OwnerTurn J pal hints t) where
  module _ (i : ℕ) (e : i ≡ owner_in J.S hints t) where
    mine : i ≡ owner_of J pal t
    mine = e ∙ K.owned.owner t K.tile

    below : owner_of J pal t < J.S
    below = owner-below J pal K.owned.shown t

    pub owner-part : (J.C ≤ J.C) × (i * (3 * J.C) + 3 * J.C ≤ length pal)
    owner-part = goes_part J pal J.S J.C K.owned.shown i (owner_of J pal t) mine below

    module _ (sub tile : List Float) (part : List ℕ) (S : sub ≡ sub_of pal J.C J.C i) (E : tile ≡ tile_of J t) (C : part ≡ counts_of J t) where
      pub owner_matched : Matched sub (tile_with tile part) (i * J.C) places
      owner_matched =
          goes_asks J pal J.C t i (owner_of J pal t) mine sub tile part S E C (λ k s X. Matched s X (k * J.C) places)
          (tile_matched J pal J.S J.C K.owned.shown t K.tile (owner_of J pal t) below places refl)

      pub owner-done : (A B : Shares) → B ≡ tile_shares sub (tile_with tile part) J.weight (i * J.C) A (length part) → B ≡ spread_step J pal (owner_of J pal t) t A
      unfolding spread_step
      owner-done A B h = h ∙ goes_same J pal J.C t i (owner_of J pal t) mine sub tile part S E C (λ k s X. tile_shares s X J.weight (k * J.C) A (length X.counts))
