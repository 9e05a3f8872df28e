-- Lengths: sums keep the number of their places, palettes and hints theirs. Assumes nothing.
use Prim.Native.Nat.{ℕ, zero, suc, ◌*◌}
use mathlib.Core.Path.{◌≡◌, refl, ◌∙◌}
use mathlib.Core.Bool.{Bool, true, false, cond}
use mathlib.Core.List.{List}
use lib.ListN.{get_or, length, length-set}
use lib.Dec.{eqb, ltb}
use lib.Ieee.{Float}
use Rattle.color.specs.Color.{colour_at}
use Rattle.color.proofs.Puts.{length_put}
use Rattle.job.specs.Job.{Job, is_empty}
use Rattle.palette_tile.specs.Walk.{walk}
use Rattle.palette.specs.Palette.{Tile, sub_of}
use Rattle.palette_edit.specs.Edits.{place_of, colour_copied}
use Rattle.palette_tile.specs.Tiles.{tile_at, winner}
use Rattle.palette_tile.proofs.Hints.{length-hints}
use Rattle.quantizer.specs.Sums.{places}
use Rattle.quantizer.specs.Course.{Course}
use Rattle.quantizer.proofs.Lists.{length-bump, length-zeros}
use Rattle.quantizer.specs.Seeding.{seed_mean, seeded, distance_step, distances_of}
use Rattle.quantizer.specs.Growing.{tile_needs, need_step, needs_of, grown_by, grown, grown_hints}
use Rattle.quantizer.specs.Replacing.{Shares, shares_of, pair_hints, tile_shares, spread_step, spread_of, replaced_hints}
use Rattle.quantizer.specs.declared.Gather.{Gather}
use Rattle.quantizer.specs.Refining.{gather_of, mean_step, means_of, refined}
use Rattle.quantizer.specs.Drawing.{target_of, moved, moved_hints}
use Rattle.quantizer.specs.Lengths.{Wide}

cond-length {ℓ} : {A : Type ℓ} (b : Bool) (x y : List A) (n : ℕ) → length x ≡ n → length y ≡ n → length (cond b x y) ≡ n
cond-length true x y n p q = p
cond-length false x y n p q = q

-- ---- sums
pub length-distances : (J : Job) (pal : List Float) (n t : ℕ) → length (distances_of J pal n t) ≡ 16
unfolding walk distance_step
length-distances J pal n zero = length-zeros 16
length-distances J pal n (suc t) = cond-length (is_empty J t) _ _ 16 (length-distances J pal n t) (length-bump (distances_of J pal n t) _ _ ∙ length-distances J pal n t)

pub length-tile_needs : (s : List Float) (X : Tile) (w : Float) (base : ℕ) (d : List Float) (k : ℕ) → length (tile_needs s X w base d k) ≡ length d
unfolding tile_needs
length-tile_needs s X w base d zero = refl
length-tile_needs s X w base d (suc k) = length-bump (tile_needs s X w base d k) _ _ ∙ length-tile_needs s X w base d k

pub length_needs : (J : Job) (pal : List Float) (have t : ℕ) → length (needs_of J pal have t) ≡ places
unfolding walk need_step
length_needs J pal have zero = length-zeros places
length_needs J pal have (suc t) =
    let i = winner J pal J.S have t in
    length-tile_needs (sub_of pal J.C have i) (tile_at J t) J.weight (i * J.C) (needs_of J pal have t) (length (tile_at J t).counts) ∙ length_needs J pal have t

pub shares-wide : (J : Job) (pal : List Float) (t : ℕ) → Wide (shares_of J pal t) 16
unfolding walk
shares-wide J pal zero = record { had = length-zeros 16; lost = length-zeros 16 }
shares-wide J pal (suc t) =
    let W = shares-wide J pal t in
    record { had = length-bump (shares_of J pal t).had _ _ ∙ W.had; lost = length-bump (shares_of J pal t).lost _ _ ∙ W.lost }

pub tile-wide : (s : List Float) (X : Tile) (w : Float) (base : ℕ) (A : Shares) (n : ℕ) → Wide A n → (k : ℕ) → Wide (tile_shares s X w base A k) n
unfolding tile_shares
tile-wide s X w base A n W zero = W
tile-wide s X w base A n W (suc k) =
    let B = tile-wide s X w base A n W k in
    record { had = length-bump (tile_shares s X w base A k).had _ _ ∙ B.had; lost = length-bump (tile_shares s X w base A k).lost _ _ ∙ B.lost }

pub spread_wide : (J : Job) (pal : List Float) (owner : ℕ → ℕ) (t : ℕ) → Wide (spread_of J pal owner t) places
unfolding walk spread_step
spread_wide J pal owner zero = record { had = length-zeros places; lost = length-zeros places }
spread_wide J pal owner (suc t) = tile-wide (sub_of pal J.C J.C (owner t)) (tile_at J t) J.weight _ (spread_of J pal owner t) places (spread_wide J pal owner t) _

-- ---- hints
module _ (J : Job) (pal : List Float) (h : List ℕ) where
  pub length-pair_hints : (t : ℕ) → length (pair_hints J pal h t) ≡ length h
  unfolding walk
  length-pair_hints zero = refl
  length-pair_hints (suc t) = length-set (pair_hints J pal h t) t _ ∙ length-pair_hints t

  pub length-grown_hints : (have : ℕ) → length (grown_hints J pal have h) ≡ length h
  unfolding grown_hints
  length-grown_hints have = cond-length (eqb have 1) h _ (length h) refl (length-hints J pal J.S have h J.T)

  pub length-replaced_hints : length (replaced_hints J pal h) ≡ length h
  unfolding replaced_hints
  length-replaced_hints = cond-length (ltb 1 J.S) _ h (length h) (length-pair_hints J.T) refl

  pub length-moved_hints : (n have t : ℕ) → length (moved_hints J pal n have t h) ≡ length h
  unfolding moved_hints
  length-moved_hints n have t = length-set h t _

-- ---- palettes
pub length-seeded : (K : Course) (pal : List Float) → length (seeded K pal) ≡ length pal
unfolding seeded
length-seeded K pal = length_put pal 0 (seed_mean K)

pub length-colour_copied : (pal : List Float) (c i from to : ℕ) → length (colour_copied pal c i from to) ≡ length pal
length-colour_copied pal c i from to = length_put pal (place_of c i to) (colour_at pal (place_of c i from))

module _ (J : Job) (pal : List Float) where
  pub length-grown_by : (have i : ℕ) → length (grown_by J pal have i) ≡ length pal
  unfolding grown_by
  length-grown_by have zero = refl
  length-grown_by have (suc i) = length-colour_copied (grown_by J pal have i) J.C i _ _ ∙ length-grown_by have i

  pub length-grown : (have : ℕ) → length (grown J pal have) ≡ length pal
  unfolding grown
  length-grown have = length-grown_by have J.S

  pub length_moved : (n have t k : ℕ) (alpha : Float) → length (moved J pal n have t k alpha) ≡ length pal
  unfolding moved
  length_moved n have t k alpha = length_put pal (target_of J pal n have t k) _

length_mean : (A : Gather) (p : ℕ) (pal : List Float) → length (mean_step A p pal) ≡ length pal
unfolding mean_step
length_mean A p pal = cond-length (eqb (get_or A.cnts p 0) 0) pal _ (length pal) refl (length_put pal p _)

pub length_means : (pal : List Float) (A : Gather) (n : ℕ) → length (means_of pal A n) ≡ length pal
unfolding means_of
length_means pal A zero = refl
length_means pal A (suc n) = length_mean A n (means_of pal A n) ∙ length_means pal A n

pub length-refined : (J : Job) (pal : List Float) → length (refined J pal) ≡ length pal
unfolding refined
length-refined J pal = length_means pal (gather_of J pal J.T) (J.S * J.C)
