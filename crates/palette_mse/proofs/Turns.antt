-- A turn over one tile: what its calls ask, and what it comes to; and the sum while the tiles are walked over. Assumes nothing.
use Prim.Native.Nat.{ℕ, ◌+◌, ◌*◌, ◌≤◌, ◌<◌}
use mathlib.Core.Path.{◌≡◌, ap, ◌∙◌}
use mathlib.Core.Bool.{Bool, true, false}
use mathlib.Core.List.{List}
use native.Mathlib.Omega.{arith}
use lib.ListN.{length, set}
use lib.Ieee.{Float}
use Rattle.ieee.proofs.Plus.{plus-real}
use Rattle.job.specs.Job.{Job, size_of, tile_of, counts_of, is_empty, most_tile_size}
use Rattle.job.proofs.Tiles.{counts-length}
use Rattle.stats.specs.declared.Near.{Near}
use Rattle.palette.specs.Palette.{tile_with, sub_of}
use Rattle.palette_tile.specs.Tiles.{tile_at, fit_at, winner, hint_step, Shown}
use Rattle.palette_tile.proofs.Present.{winner-below}
use Rattle.palette_tile.proofs.Walks.{Walked, walked_end, walked_has}
use Rattle.palette_tile.proofs.Hints.{walked_paired}
use Rattle.palette_tile.proofs.Turns.{passed_over, taken_up, hint-kept, hint-written, goes_same, goes_asks, fit-index}
use Rattle.palette_mse.specs.declared.Tally.{Tally}
use Rattle.palette_mse.specs.Mse.{tile_tally, tally_step, nothing, mean_error, mse_of, Summed, Turn, Meaned}
use Rattle.palette_mse.proofs.Fine.{Fine, summed, tally_fine, mean_plus}

module _ (J : Job) (pal : List Float) (n have : ℕ) (hints : List ℕ) (t : ℕ) (a : Tally) (K : Turn J pal n have hints t a) where
  abbrev best : ℕ
  best = winner J pal n have t

  abbrev Stepped : Tally → List ℕ → Type 0
  Stepped x after = (x ≡ tally_step J pal n have t a) × (after ≡ hint_step J pal n have t hints)

  matched : Tally
  matched = tile_tally (sub_of pal J.C have best) (tile_at J t) J.weight a (size_of J.tiles t)

  pub turn-none : (r : Bool) → r ≡ is_empty J t → r ≡ true → Stepped a hints
  unfolding tally_step matched
  turn-none r R p = (passed_over J t r R a matched p, hint-kept J pal n have hints t K.paired r R p)

  module _ (b : Near) (B : b ≡ fit_at J pal n have t) (sub tile : List Float) (part : List ℕ) (S : sub ≡ sub_of pal J.C have b.index) (E : tile ≡ tile_of J t) (C : part ≡ counts_of J t) where
    size : length part ≡ size_of J.tiles t
    size = ap length C ∙ counts-length J K.paired.shown.ready t K.paired.tile

    pub turn_summed : Summed sub (tile_with tile part) J.weight × (a.count + most_tile_size * length part < 18446744073709551616)
    turn_summed =
        let R = K.paired.shown.ready in (
          goes_asks J pal have t b.index best (fit-index J pal n have t b B) sub tile part S E C (λ i s X. Summed s X J.weight)
              (summed J pal n have K.paired.shown t K.paired.tile best (winner-below J pal n have K.paired.shown t)),
          omega (arith, size, K.few, K.paired.tile, R.sizes.tiles, R.short t K.paired.tile, R.sizes.small),
        )

    pub turn-done : (r : Bool) → r ≡ is_empty J t → r ≡ false → (x : Tally) (after : List ℕ) → x ≡ tile_tally sub (tile_with tile part) J.weight a (length part) → after ≡ set hints t b.index → Stepped x after
    unfolding tally_step matched
    turn-done r R p x after u v = (
      taken_up J t r R a matched p
          (u ∙ ap (tile_tally sub (tile_with tile part) J.weight a) size ∙ goes_same J pal have t b.index best (fit-index J pal n have t b B) sub tile part S E C (λ i s X. tile_tally s X J.weight a (size_of J.tiles t))),
      hint-written J pal n have hints t K.paired r R p b B after v,
    )

-- ---- the sum while the tiles are walked over
module _ (J : Job) (pal : List Float) (n have : ℕ) (S : Shown J pal n have) {a : Tally} {t : ℕ} (W : Walked J.T (tally_step J pal n have) nothing a t) where
  fine : Fine a (most_tile_size * most_tile_size * t)
  fine = walked_has W (λ t a. Fine a (most_tile_size * most_tile_size * t)) (tally_fine J pal n have S)

  pub sum-turn : {first hints : List ℕ} → length first ≡ J.T → Walked J.T (hint_step J pal n have) first hints t → t < J.T → Turn J pal n have hints t a
  sum-turn L H l = record { paired = walked_paired J pal n have H S L l; few = fine.few }

  pub sum_meaned : Meaned a
  sum_meaned =
      record {
        exact = omega (arith, fine.few, W.within, S.ready.sizes.tiles);
        real = λ z. plus-real _ (mean_plus a (most_tile_size * most_tile_size * t) (omega (arith, W.within, S.ready.sizes.tiles)) fine z);
      }

  pub sum_end : J.T ≤ t → (r : Float) → r ≡ mean_error a → r ≡ mse_of J pal n have
  unfolding mse_of
  sum_end h r e = e ∙ ap mean_error (walked_end W h)
