-- Refinement: each sum is at most 2 for each pixel counted, so the means are within 2, and a palette within 2 or more stays so. Assumes nothing.
use Prim.Native.Nat.{ℕ, zero, suc, ◌+◌, ◌*◌, ◌/◌, ◌≤◌, ◌<◌}
use mathlib.Core.Path.{◌≡◌, subst⁻¹, ◌∙◌}
use mathlib.Core.Bool.{Bool, cond}
use mathlib.Core.Logic.{◌≢◌, ◌⊎◌, inl, inr}
use mathlib.Core.List.{List}
use native.Mathlib.Nat.{le_refl, le_trans, eq-zero-or-pos}
use native.Mathlib.Decide.{ℕ_discrete}
use native.Mathlib.Omega.{arith}
use lib.ListN.{get_or, length, set, replicate, length-set, length-replicate}
use lib.Seq.{get_or-set_same, get_or-set_other}
use lib.Dec.{lit≤}
use lib.Ieee.{Float}
use borrow.Author.Tests.{eq-eqb, ne_eqb}
use Rattle.lists.specs.Every.{sum}
use Rattle.lists.proofs.Loops.{sum_rises}
use Rattle.color.specs.declared.Oklab.{Oklab}
use Rattle.color.specs.Color.{colour_at, put_at, plus_times, over_of, Sized, Bounded}
use Rattle.color.proofs.Puts.{length_put, put_here, put_elsewhere}
use Rattle.color.proofs.Sizes.{colour-sized, sized_wider, bounded_put}
use Rattle.color.proofs.Means.{times-sized, over_sized}
use Rattle.job.specs.Job.{Job, most_tile_size}
use Rattle.palette_tile.specs.Walk.{walk}
use Rattle.job.proofs.Tiles.{counts-length}
use Rattle.palette.specs.Palette.{Tile, sub_of, nearest_of}
use Rattle.palette_tile.specs.Tiles.{tile_at, winner, Shown}
use Rattle.palette_tile.proofs.Present.{winner-below, part-nearest, tile_sized_lem}
use Rattle.quantizer.specs.Sums.{zeros, places}
use Rattle.quantizer.specs.declared.Gather.{Gather}
use Rattle.quantizer.specs.Refining.{nothing, add_at, tile_gather, gather_step, gather_of, mean_step, means_of, refined}
use Rattle.quantizer.proofs.Lists.{length-zeros, zeros-bounded}
use Rattle.quantizer.proofs.Indexes.{shown-few, place-placed}
use Rattle.quantizer.specs.Refines.{Gathered, SumsWithin}

same_or_not : (a b : ℕ) → (a ≡ b) ⊎ (a ≢ b)
same_or_not a b = by (ℕ_discrete a b)
  where
    by : Dec (a ≡ b) → (a ≡ b) ⊎ (a ≢ b)
    by (yes e) = inl e
    by (no n) = inr n

-- ---- an addition
module _ (A : Gather) (H : SumsWithin A) (p : ℕ) (q : Oklab) (m : ℕ) (P : p < places) where
  pub counted : (i : ℕ) → get_or (add_at A p q m).cnts i 0 ≤ get_or A.cnts i 0 + m
  unfolding add_at
  counted i = elim (same_or_not i p) [
    | inl e ↦
        subst⁻¹ (λ (j : ℕ). get_or (set A.cnts p (get_or A.cnts p 0 + m)) j 0 ≤ get_or A.cnts j 0 + m) e
        (omega (arith, get_or-set_same A.cnts p (get_or A.cnts p 0 + m) 0 (omega (arith, H.all))))
    | inr n ↦ omega (arith, get_or-set_other A.cnts p i (get_or A.cnts p 0 + m) 0 n)
  ]

  pub held-add : Sized q 2 → get_or A.cnts p 0 + m ≤ 8388608 → SumsWithin (add_at A p q m)
  unfolding add_at
  held-add Q N =
      record {
        whole = length_put A.sums p new ∙ H.whole;
        all = length-set A.cnts p (get_or A.cnts p 0 + m) ∙ H.all;
        sized = λ i l. elim (same_or_not i p) [
          | inl e ↦ subst⁻¹ (λ (j : ℕ). Sized (colour_at (put_at A.sums p new) j) (2 * get_or (set A.cnts p (get_or A.cnts p 0 + m)) j 0)) e here
          | inr n ↦
              subst⁻¹ (λ (x : Oklab). Sized x (2 * get_or (set A.cnts p (get_or A.cnts p 0 + m)) i 0)) (put_elsewhere A.sums p new i n)
              (subst⁻¹ (λ (k : ℕ). Sized (colour_at A.sums i) (2 * k)) (get_or-set_other A.cnts p i (get_or A.cnts p 0 + m) 0 n) (H.sized i l))
        ];
      }
    where
      new : Oklab
      new = plus_times (colour_at A.sums p) q m

      here : Sized (colour_at (put_at A.sums p new) p) (2 * get_or (set A.cnts p (get_or A.cnts p 0 + m)) p 0)
      here =
          subst⁻¹ (λ (x : Oklab). Sized x (2 * get_or (set A.cnts p (get_or A.cnts p 0 + m)) p 0)) (put_here A.sums p new (omega (arith, H.whole)))
          (subst⁻¹ (λ (k : ℕ). Sized new (2 * k)) (get_or-set_same A.cnts p (get_or A.cnts p 0 + m) 0 (omega (arith, H.all)))
          (times-sized (colour_at A.sums p) q 2 (get_or A.cnts p 0) m (omega arith) (omega arith) (H.sized p P) Q))

-- ---- a tile: what its colours add to a count is at most their own counts
pub record Summed (A B : Gather) (m : ℕ) : Type 0 where
  pub held : SumsWithin B
  pub few : (i : ℕ) → get_or B.cnts i 0 ≤ get_or A.cnts i 0 + m

module _ (s : List Float) (X : Tile) (w : Float) (base : ℕ) (A : Gather) (H : SumsWithin A) (place : (q : Oklab) → base + (nearest_of s q w).index < places)
    (near : (k : ℕ) → k < length X.counts → Sized (colour_at X.colours k) 2) (few : (i : ℕ) → get_or A.cnts i 0 + sum (λ k. get_or X.counts k 0) (length X.counts) ≤ 8388608) where
  pub tile_summed : (k : ℕ) → k ≤ length X.counts → Summed A (tile_gather s X w base A k) (sum (λ k. get_or X.counts k 0) k)
  unfolding tile_gather sum
  tile_summed zero h = record { held = H; few = λ i. omega arith }
  tile_summed (suc k) h =
      let B = tile_gather s X w base A k in
      let q = colour_at X.colours k in
      let p = base + (nearest_of s q w).index in
      let m = get_or X.counts k 0 in
      let T = tile_summed k (omega arith) in
      let most : sum (λ k. get_or X.counts k 0) k + m ≤ sum (λ k. get_or X.counts k 0) (length X.counts) = sum_rises (λ k. get_or X.counts k 0) (length X.counts) (suc k) h in
      record {
        held = held-add B T.held p q m (place q) (near k h) (omega (arith, T.few p, few p));
        few = λ i. omega (arith, T.few i, counted B T.held p q m (place q) i);
      }

none-counted : (n i : ℕ) → get_or (replicate n 0) i 0 ≤ 0
none-counted zero i = omega arith
none-counted (suc n) zero = omega arith
none-counted (suc n) (suc i) = none-counted n i

pub nothing-gathered : Gathered nothing 0
nothing-gathered =
    record {
      held = record {
        whole = length-zeros (3 * places);
        all = length-replicate {A = ℕ} places 0;
        sized = λ p l. colour-sized (zeros (3 * places)) (2 * get_or (replicate places 0) p 0) p (zeros-bounded (3 * places) (2 * get_or (replicate places 0) p 0)) (third (length (zeros (3 * places))) p (length-zeros (3 * places)) l);
      };
      few = none-counted places;
    }
  where
    third : (z p : ℕ) → z ≡ 3 * places → p < places → p < z / 3
    third z p e l = omega arith

module _ (J : Job) (pal : List Float) (S : Shown J pal J.S J.C) where
  tile-colour : (t : ℕ) → t < J.T → (k : ℕ) → k < length (tile_at J t).counts → Sized (colour_at (tile_at J t).colours k) 2
  tile-colour t l k m = tile_sized_lem J pal J.S J.C S t l k (omega (arith, counts-length J S.ready t l))

  -- a place of a subpalette is one of `places`
  pub gather-place : (i : ℕ) → i < J.S → (q : Oklab) → i * J.C + (nearest_of (sub_of pal J.C J.C i) q J.weight).index < places
  gather-place i l q = place-placed J pal J.S J.C S i (nearest_of (sub_of pal J.C J.C i) q J.weight).index l (part-nearest J pal J.S J.C S i l q)

  tile-pixels : (t : ℕ) → t < J.T → sum (λ k. get_or (tile_at J t).counts k 0) (length (tile_at J t).counts) ≤ most_tile_size
  tile-pixels t l = le_trans (S.ready.full t l) S.ready.sizes.small

  pub gathered : (t : ℕ) → t ≤ J.T → Gathered (gather_of J pal t) (most_tile_size * t)
  unfolding walk gather_step
  gathered zero h = record { held = nothing-gathered.held; few = λ i. omega (arith, nothing-gathered.few i) }
  gathered (suc t) h =
      let i = winner J pal J.S J.C t in
      let G = gathered t (omega arith) in
      let most : J.T ≤ 1024 = S.ready.sizes.tiles in
      let B = tile_summed (sub_of pal J.C J.C i) (tile_at J t) J.weight (i * J.C) (gather_of J pal t) G.held (gather-place i (winner-below J pal J.S J.C S t)) (tile-colour t h)
      (λ j. omega (arith, G.few j, tile-pixels t h, most)) (length (tile_at J t).counts) (le_refl (length (tile_at J t).counts)) in
      record { held = B.held; few = λ j. omega (arith, B.few j, G.few j, tile-pixels t h) }

-- ---- the means
module _ (pal : List Float) (A : Gather) (H : SumsWithin A) (few : (p : ℕ) → get_or A.cnts p 0 ≤ 8388608) (k : ℕ) (K : 2 ≤ k) (B : Bounded pal k) where
  pub means_bounded : (n : ℕ) → n ≤ places → Bounded (means_of pal A n) k
  unfolding means_of mean_step
  means_bounded zero h = B
  means_bounded (suc p) h = elim (eq-zero-or-pos (get_or A.cnts p 0)) [
    | inl z ↦ subst⁻¹ (λ (b : Bool). Bounded (cond b (means_of pal A p) (put_at (means_of pal A p) p mean)) k) (eq-eqb (get_or A.cnts p 0) 0 z) (means_bounded p (omega arith))
    | inr g ↦
        subst⁻¹ (λ (b : Bool). Bounded (cond b (means_of pal A p) (put_at (means_of pal A p) p mean)) k) (ne_eqb (get_or A.cnts p 0) 0 (λ e. no g e))
        (bounded_put (means_of pal A p) p mean k (means_bounded p (omega arith)) (sized_wider mean 2 k K (over_sized (colour_at A.sums p) 2 (get_or A.cnts p 0) g (omega (arith, few p)) (lit≤ tt) (H.sized p h))))
  ]
    where
      mean : Oklab
      mean = over_of (colour_at A.sums p) (get_or A.cnts p 0)

      no : 0 < get_or A.cnts p 0 → get_or A.cnts p 0 ≡ 0 → ⊥
      no g e = omega arith

module _ (J : Job) (pal : List Float) (S : Shown J pal J.S J.C) where
  pub gathered-few : (p : ℕ) → get_or (gather_of J pal J.T).cnts p 0 ≤ 262144
  gathered-few p = omega (arith, (gathered J pal S J.T (le_refl J.T)).few p, S.ready.sizes.tiles)

  -- a palette within 4 stays within 4, and one within 2 stays within 2
  pub refined-bounded : (k : ℕ) → 2 ≤ k → Bounded pal k → Bounded (refined J pal) k
  unfolding refined
  refined-bounded k K B =
      means_bounded pal (gather_of J pal J.T) (gathered J pal S J.T (le_refl J.T)).held (λ p. omega (arith, gathered-few p)) k K B (J.S * J.C) (shown-few J pal J.S J.C S)
