-- One tile more: its line, and its answer where it is empty and where it is not; the lines of all, one after another. Assumes nothing.
use mathlib.Core.Path.{◌≡◌, refl, sym, ap, ap₂, subst, subst⁻¹, ◌∙◌}
use Prim.Native.Nat.{ℕ, zero, suc, ◌+◌, ◌≤◌, ◌<◌}
use native.Mathlib.Omega.{arith}
use native.Mathlib.Numerals.{add-one}
use mathlib.Core.Bool.{Bool, true, false, cond, not, true≢false}
use mathlib.Core.List.{List, ◌++◌}
use lib.Dec.{T, eqb}
use lib.ListN.{length, get_or, replicate}
use lib.Seq.{sets}
use lib.Ieee.{Float, binary32, to_bits, is_nan}
use Rattle.ieee.proofs.Plus.{plus-real}
use Rattle.assign_tiles.specs.Tiles.{subpalette_of}
use Rattle.stats.specs.declared.Near.{Near}
use Rattle.stats.specs.declared.Two.{Two}
use Rattle.stats.proofs.Scan.{least-good}
use Rattle.stats.proofs.BestTwo.{first_of}
use Rattle.job.specs.Job.{Job, size_of, is_empty}
use Rattle.palette.specs.Palette.{dist_at}
use Rattle.palette.proofs.Sums.{dist-good}
use Rattle.palette_tile.specs.Tiles.{tile_at, present_in, fit_at, winner, two_at, Shown}
use Rattle.palette_tile.proofs.Present.{first_of-two, shown-present, winner-below, tile-counted}
use Rattle.fit_lines.specs.declared.Found.{Found}
use Rattle.fit_lines.specs.Lines.{Stored, tile_line, load_line, blank_line, head_line}
use Rattle.fit_lines.proofs.Stores.{both_stored}
use Rattle.fit_tiles.specs.Text.{dist_bits, next_sub, found_of, tile_lines, load_of, load_lines, blanks_of, fit_text}

pub not_empty : (n : ℕ) (r : Bool) → r ≡ eqb n 0 → r ≡ false → 1 ≤ n
not_empty zero r e h = absurd (true≢false (sym e ∙ h))
not_empty (suc n) r e h = omega arith

module _ (J : Job) (p : List Float) where
  -- ---- what a tile's line says
  pub empty_found : (t : ℕ) (r : Bool) → r ≡ eqb (size_of J.tiles t) 0 → r ≡ true → record { sub = 0; dist = 0; next = 0 } ≡ found_of J p t
  unfolding subpalette_of dist_bits next_sub
  empty_found t r e h = by (is_empty J t) (sym e ∙ h)
    where
      by : (b : Bool) → b ≡ true
          → ◌≡◌ {A = Found} (record { sub = 0; dist = 0; next = 0 })
          (record { sub = cond b 0 (winner J p J.S J.C t); dist = cond b 0 (to_bits binary32 (fit_at J p J.S J.C t).dist); next = cond b 0 (two_at J p J.S J.C t).next })
      by true q = refl
      by false q = absurd (true≢false (sym q))

  two-fit : (t : ℕ) (b : Two) → b ≡ two_at J p J.S J.C t → first_of b ≡ fit_at J p J.S J.C t
  two-fit t b e = ap first_of e ∙ first_of-two J p J.S J.C t

  pub full-found : (t : ℕ) (r : Bool) (b : Two) → r ≡ eqb (size_of J.tiles t) 0 → r ≡ false → b ≡ two_at J p J.S J.C t
      → record { sub = b.index; dist = to_bits binary32 b.dist; next = b.next } ≡ found_of J p t
  unfolding subpalette_of dist_bits next_sub
  full-found t r b e h q = by (is_empty J t) (sym e ∙ h)
    where
      first : first_of b ≡ fit_at J p J.S J.C t
      first = two-fit t b q

      by : (z : Bool) → z ≡ false
          → ◌≡◌ {A = Found} (record { sub = b.index; dist = to_bits binary32 b.dist; next = b.next })
          (record { sub = cond z 0 (winner J p J.S J.C t); dist = cond z 0 (to_bits binary32 (fit_at J p J.S J.C t).dist); next = cond z 0 (two_at J p J.S J.C t).next })
      by true k = absurd (true≢false k)
      by false k =
          ap (λ (x : Near). record { sub = x.index; dist = to_bits binary32 x.dist; next = b.next }) first
          ∙ ap (λ (x : Two). record { sub = winner J p J.S J.C t; dist = to_bits binary32 (fit_at J p J.S J.C t).dist; next = x.next }) q

  module _ (S : Shown J p J.S J.C) where
    fit-real : (t : ℕ) → t < J.T → T (not (is_nan (fit_at J p J.S J.C t).dist))
    unfolding fit_at
    fit-real t l =
        plus-real _ (least-good (dist_at (present_in J p J.S J.C) (tile_at J t) J.weight) J.S
        (dist-good (present_in J p J.S J.C) (tile_at J t) J.weight (shown-present J p J.S J.C S) (tile-counted J p J.S J.C S t l) S.ready.weight)).pos

    pub dist-real : (t : ℕ) → t < J.T → (b : Two) → b ≡ two_at J p J.S J.C t → T (not (is_nan b.dist))
    dist-real t l b e = subst⁻¹ (λ (x : Near). T (not (is_nan x.dist))) (two-fit t b e) (fit-real t l)

    pub sub-below : (t : ℕ) → subpalette_of J p t < J.S
    unfolding subpalette_of
    sub-below t = by (is_empty J t) (winner-below J p J.S J.C S t) S.subs
      where
        by : (b : Bool) → winner J p J.S J.C t < J.S → 1 ≤ J.S → cond b 0 (winner J p J.S J.C t) < J.S
        by true w s = omega arith
        by false w s = w

  -- ---- lines
  pub lines_none : (l : List ℕ) (at : ℕ) → Stored l l at at (tile_lines J p 0)
  unfolding tile_lines
  lines_none l at = record { text = refl; place = omega arith }

  pub lines_more : (l m n : List ℕ) (at q r i : ℕ) (f : Found) → Stored l m at q (tile_lines J p i) → Stored m n q r (tile_line i f) → f ≡ found_of J p i → Stored l n at r (tile_lines J p (i + 1))
  unfolding tile_lines
  lines_more l m n at q r i f a b e = for_any (i + 1) (add-one i) (both_stored a (subst (λ (x : Found). Stored m n q r (tile_line i x)) e b))
    where
      for_any : (j : ℕ) → j ≡ suc i → Stored l n at r (tile_lines J p i ++ tile_line i (found_of J p i)) → Stored l n at r (tile_lines J p j)
      for_any j e s = record { text = s.text ∙ ap (λ (x : ℕ). sets l at (tile_lines J p x)) (sym e); place = s.place ∙ ap (λ (x : ℕ). at + length (tile_lines J p x)) (sym e) }

-- ---- the lines of the loads
pub loads-none : (f : ℕ → ℕ) (l : List ℕ) (at : ℕ) → Stored l l at at (load_lines f 0)
unfolding load_lines
loads-none f l at = record { text = refl; place = omega arith }

pub loads-more : (f : ℕ → ℕ) (l m n : List ℕ) (at q r k : ℕ) → Stored l m at q (load_lines f k) → Stored m n q r (load_line k (f k)) → Stored l n at r (load_lines f (k + 1))
unfolding load_lines
loads-more f l m n at q r k a b = for_any (k + 1) (add-one k) (both_stored a b)
  where
    for_any : (j : ℕ) → j ≡ suc k → Stored l n at r (load_lines f k ++ load_line k (f k)) → Stored l n at r (load_lines f j)
    for_any j e s = record { text = s.text ∙ ap (λ (x : ℕ). sets l at (load_lines f x)) (sym e); place = s.place ∙ ap (λ (x : ℕ). at + length (load_lines f x)) (sym e) }

pub loads-same : (f g : ℕ → ℕ) (n : ℕ) → ((k : ℕ) → f k ≡ g k) → load_lines f n ≡ load_lines g n
unfolding load_lines
loads-same f g zero h = refl
loads-same f g (suc n) h = ap₂ (λ (a b : List ℕ). a ++ b) (loads-same f g n h) (ap (load_line n) (h n))

pub zero-at : (n k : ℕ) → ◌≡◌ {A = ℕ} (get_or (replicate n 0) k 0) 0
zero-at zero k = refl
zero-at (suc n) zero = refl
zero-at (suc n) (suc k) = zero-at n k

-- ---- head, tiles, loads and the blank ones
pub all_stored : (J : Job) (p : List Float) (loads : List ℕ) (blank : ℕ) (l m n o u : List ℕ) (a b c r : ℕ) → Stored l m 0 a (head_line J.T J.S)
    → Stored m n a b (tile_lines J p J.T) → Stored n o b c (load_lines (λ k. get_or loads k 0) J.S) → Stored o u c r (blank_line blank)
    → ((k : ℕ) → get_or loads k 0 ≡ load_of J p k J.T) → blank ≡ blanks_of J.tiles J.T → Stored l u 0 r (fit_text J p)
unfolding fit_text
all_stored J p loads blank l m n o u a b c r x y z w h e =
    both_stored (both_stored (both_stored x y) (subst (Stored n o b c) (loads-same (λ k. get_or loads k 0) (λ k. load_of J p k J.T) J.S h) z))
    (subst (λ (k : ℕ). Stored o u c r (blank_line k)) e w)
