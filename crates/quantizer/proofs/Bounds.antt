-- Seeding, growing, replacing and a draw keep the components of a palette within their bound. Assumes nothing.
use Prim.Native.Nat.{ℕ, zero, suc, ◌+◌, ◌*◌, ◌/◌, ◌≤◌, ◌<◌}
use mathlib.Core.Path.{◌≡◌, refl, sym, ◌∙◌}
use mathlib.Core.Bool.{Bool, true, false, cond}
use mathlib.Core.List.{List}
use native.Mathlib.Nat.{le_refl, le_trans, le_of_eq, mul_left_comm}
use native.Mathlib.Omega.{arith}
use lib.ListN.{length}
use lib.Dec.{ltb}
use lib.Ieee.{Float}
use Rattle.lists.proofs.Copies.{row_room}
use Rattle.color.specs.Color.{colour_at, Sized, Bounded}
use Rattle.color.proofs.Sizes.{colour-sized, bounded_put}
use Rattle.color.proofs.Means.{mean_within}
use Rattle.job.specs.Job.{Job, size_of, tile_of}
use Rattle.job.specs.Gives.{Sampled}
use Rattle.job.proofs.Tiles.{tile-length, tile-bounded}
use Rattle.palette_edit.proofs.Kept.{place-room, length-sub_copied}
use Rattle.palette_edit.proofs.Gentle.{Gentle, nudged-bounded, colour_copied-bounded, sub_copied-bounded}
use Rattle.palette_tile.specs.Tiles.{Shown}
use Rattle.quantizer.specs.Sums.{places}
use Rattle.quantizer.specs.declared.Swap.{Swap}
use Rattle.quantizer.specs.Course.{Course, sample_tile, sample_place, sample_colour}
use Rattle.quantizer.specs.Seeding.{seed_mean, seeded, duplicated}
use Rattle.quantizer.specs.Growing.{split_of, grown_by, grown}
use Rattle.std.specs.Prelude.{Some}
use Rattle.quantizer.proofs.Swaps.{colour_either, sub_either, swap-below}
use Rattle.quantizer.specs.Replacing.{Shares, shares_of, spread_of, owner_of, swap_in, recoloured, colours_replaced, sub_replaced, replaced}
use Rattle.quantizer.specs.Drawing.{target_of, moved}
use Rattle.quantizer.specs.Lengths.{Wide}
use Rattle.quantizer.proofs.Lengths.{shares-wide, spread_wide, length-grown_by, length-colour_copied}
use Rattle.quantizer.proofs.Indexes.{split_below, shown-subs, row-placed, target_in}

-- ---- seeding
module _ (K : Course) (room : Bool) (D : Sampled K.job K.n K.samples room) where
  pub sample-sized : (i : ℕ) → i < K.n → Sized (sample_colour K i) 2
  unfolding sample_colour
  sample-sized i l =
      let t = sample_tile K i in
      colour-sized (tile_of K.job t) 2 (sample_place K i) (tile-bounded K.job D.ready t (D.tile i l))
      (third (length (tile_of K.job t)) (tile-length K.job D.ready t (D.tile i l)))
    where
      third : (z : ℕ) → z ≡ 3 * size_of K.job.tiles (sample_tile K i) → sample_place K i < z / 3
      third z e = omega (arith, D.place i l)

  pub seeded-bounded : (pal : List Float) → Bounded pal 2 → Bounded (seeded K pal) 2
  unfolding seeded seed_mean
  seeded-bounded pal B = bounded_put pal 0 (seed_mean K) 2 B (mean_within (sample_colour K) K.n D.some (omega (arith, D.few)) sample-sized)

-- a row of a palette of the job's size
module _ (J : Job) (pal : List Float) (L : length pal ≡ 3 * (J.S * J.C)) where
  rows : J.S * (3 * J.C) ≤ length pal
  rows = le_trans (le_of_eq (mul_left_comm J.S 3 J.C)) (le_of_eq (sym L))

  pub row_in : (i : ℕ) → i < J.S → i * (3 * J.C) + 3 * J.C ≤ length pal
  row_in i l = row_room i J.S (3 * J.C) (length pal) l rows

  module _ (from to : ℕ) (some : 1 ≤ J.C) (F : from < J.S) (G : to < J.S) where
    pub duplicated-bounded : (k : ℕ) → Bounded pal k → Bounded (duplicated J from to pal) k
    unfolding duplicated
    duplicated-bounded k = sub_copied-bounded pal k J.C 1 from to some (row_in from F) (row_in to G)

    pub length-duplicated : length (duplicated J from to pal) ≡ length pal
    unfolding duplicated
    length-duplicated = length-sub_copied pal J.C 1 from to some (row_in from F) (row_in to G)

-- ---- growing
module _ (J : Job) (pal : List Float) (have : ℕ) (S : Shown J pal J.S have) (k : ℕ) (B : Bounded pal k) where
  grown_by-bounded : (i : ℕ) → i ≤ J.S → Bounded (grown_by J pal have i) k
  unfolding grown_by
  grown_by-bounded zero h = B
  grown_by-bounded (suc i) h =
      colour_copied-bounded (grown_by J pal have i) k J.C i (split_of J pal have i) _ (grown_by-bounded i (omega arith))
      (place-room J.S J.C i (split_of J pal have i) (length (grown_by J pal have i)) h (omega (arith, split_below J pal have S i h, S.present)) (omega (arith, rows J pal S.room, length-grown_by J pal have i)))

  pub grown-bounded : Bounded (grown J pal have) k
  unfolding grown
  grown-bounded = grown_by-bounded J.S (le_refl J.S)

-- ---- replacing: the length and the bound
pub record Kept (pal : List Float) (k : ℕ) (after : List Float) : Type 0 where
  pub size : length after ≡ length pal
  pub bound : Bounded after k

either-kept : (pal : List Float) (k : ℕ) (b : Bool) (x y : List Float) → Kept pal k x → Kept pal k y → Kept pal k (cond b x y)
either-kept pal k true x y p q = p
either-kept pal k false x y p q = q

module _ (J : Job) (pal : List Float) (S : Shown J pal J.S J.C) (k : ℕ) (B : Bounded pal k) where
  stays : Kept pal k pal
  stays = record { size = refl; bound = B }

  module _ (A : Shares) (W : Wide A places) where
    recoloured-kept : (i : ℕ) → i ≤ J.S → Kept pal k (recoloured J pal A i)
    unfolding recoloured
    recoloured-kept zero h = stays
    recoloured-kept (suc i) h =
        let q = recoloured J pal A i in
        let before = recoloured-kept i (omega arith) in
        let row = row-placed J pal J.S J.C S i h in
        colour_either (Kept pal k) q before J.C i (swap_in A (i * J.C) J.C)
        (λ s e. record {
          size = length-colour_copied q J.C i s.from s.to ∙ before.size;
          bound = colour_copied-bounded q k J.C i s.from s.to before.bound
              (place-room J.S J.C i s.from (length q) h (swap-below A (i * J.C) J.C (omega (arith, W.had)) (omega (arith, W.lost)) S.some s e).0 (omega (arith, rows J pal S.room, before.size)));
        })

  colours-kept : Kept pal k (colours_replaced J pal)
  unfolding colours_replaced
  colours-kept = either-kept pal k (ltb 1 J.C) _ pal (recoloured-kept (spread_of J pal (owner_of J pal) J.T) (spread_wide J pal (owner_of J pal) J.T) J.S (le_refl J.S)) stays

  sub-kept : (q : List Float) → Kept pal k q → Kept pal k (sub_replaced J pal q)
  unfolding sub_replaced
  sub-kept q Q =
      either-kept pal k (ltb 1 J.S) _ q
      (sub_either (Kept pal k) q Q J.C (swap_in (shares_of J pal J.T) 0 J.S)
      (λ s e. let B = below s e in record {
        size = length-sub_copied q J.C J.C s.from s.to (le_refl J.C) (room s.from B.0) (room s.to B.1) ∙ Q.size;
        bound = sub_copied-bounded q k J.C J.C s.from s.to (le_refl J.C) (room s.from B.0) (room s.to B.1) Q.bound;
      }))
      Q
    where
      W : Wide (shares_of J pal J.T) 16
      W = shares-wide J pal J.T

      few : J.S ≤ 16
      few = shown-subs J pal J.S J.C S

      below : (s : Swap) → swap_in (shares_of J pal J.T) 0 J.S ≡ Some s → (s.from < J.S) × (s.to < J.S)
      below = swap-below (shares_of J pal J.T) 0 J.S (omega (arith, W.had, few)) (omega (arith, W.lost, few)) S.subs

      room : (i : ℕ) → i < J.S → i * (3 * J.C) + 3 * J.C ≤ length q
      room i l = row_in J q (Q.size ∙ S.room) i l

  pub replaced-kept : Kept pal k (replaced J pal)
  unfolding replaced
  replaced-kept = sub-kept (colours_replaced J pal) colours-kept

-- ---- one draw
pub moved-bounded : (J : Job) (pal : List Float) (n have : ℕ) → Shown J pal n have → (t k : ℕ) (alpha : Float) → Gentle alpha → Sized (colour_at (tile_of J t) k) 2 → Bounded (moved J pal n have t k alpha) 4
unfolding moved
moved-bounded J pal n have S t k alpha G Q = nudged-bounded pal S.bounded (target_of J pal n have t k) (colour_at (tile_of J t) k) alpha G Q (target_in J pal n have S t k)
