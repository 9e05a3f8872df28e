-- Places that are not in use keep theirs: a draw moves only a colour that is present, and opening a round writes only one that becomes present.
-- Assumes nothing.
use Prim.Native.Nat.{ℕ, zero, suc, ◌+◌, ◌*◌, ◌/◌, ◌%◌, ◌≤◌, ◌<◌}
use mathlib.Core.Path.{◌≡◌, refl, sym, ap, ◌∙◌}
use mathlib.Core.Logic.{◌≢◌, ◌⊎◌, inl, inr}
use mathlib.Core.List.{List}
use native.Mathlib.Nat.{mul_left_comm}
use native.Mathlib.Omega.{arith}
use lib.Arith.{digits_div, digits_mod}
use lib.ListN.{get_or, length}
use lib.Ieee.{Float, nan}
use Rattle.lists.proofs.Runs.{lt_or_gt, paste-before, paste-after}
use Rattle.lists.proofs.Copies.{part_length}
use Rattle.color.specs.Color.{colour_at}
use Rattle.color.proofs.Puts.{colour_eq, put_elsewhere}
use Rattle.job.specs.Job.{Job, tile_of}
use Rattle.palette.specs.Palette.{sub_of, nearest_of}
use Rattle.palette_edit.specs.Edits.{place_of}
use Rattle.palette_tile.specs.Tiles.{winner, Shown}
use Rattle.palette_tile.proofs.Present.{winner-below, part-nearest}
use Rattle.quantizer.specs.Seeding.{duplicated}
use Rattle.quantizer.specs.Growing.{split_of, grown_by, grown}
use Rattle.quantizer.specs.Drawing.{target_of, moved}

-- two places of rows of c are the same only in the same row and column
places : (c i j k m : ℕ) → j < c → m < c → place_of c i j ≡ place_of c k m → (i ≡ k) × (j ≡ m)
places c i j k m J M e =
    (sym (digits_div i J) ∙ ap (λ (x : ℕ). x / c) e ∙ digits_div k M, sym (digits_mod i J) ∙ ap (λ (x : ℕ). x % c) e ∙ digits_mod k M)

-- ---- seeding: the first colour of one subpalette is written
module _ (J : Job) (pal : List Float) (from to : ℕ) (some : 1 ≤ J.C) (F : from * (3 * J.C) + 3 * J.C ≤ length pal) (G : to * (3 * J.C) + 3 * J.C ≤ length pal) where
  source : length (sub_of pal J.C 1 from) ≡ 3 * 1
  source = part_length nan pal (3 * J.C) (3 * 1) from (omega arith)

  other-number : (j : ℕ) → (j < to * (3 * J.C)) ⊎ (to * (3 * J.C) + 3 ≤ j) → get_or (duplicated J from to pal) j nan ≡ get_or pal j nan
  unfolding duplicated
  other-number j h = elim h [
    | inl l ↦ paste-before nan pal (to * (3 * J.C)) (sub_of pal J.C 1 from) (3 * 1) (omega arith) (omega (arith, source)) j l
    | inr l ↦ paste-after nan pal (to * (3 * J.C)) (sub_of pal J.C 1 from) (3 * 1) (omega arith) (omega (arith, source)) j l
  ]

  pub duplicated_unused : (i c : ℕ) → c < J.C → (i ≢ to) ⊎ (c ≢ 0) → colour_at (duplicated J from to pal) (place_of J.C i c) ≡ colour_at pal (place_of J.C i c)
  duplicated_unused i c h u =
      let m = place_of J.C i c in
      colour_eq (other-number (3 * m) (side (3 * m) (omega arith) (omega arith))) (other-number (3 * m + 1) (side (3 * m + 1) (omega arith) (omega arith))) (other-number (3 * m + 2) (side (3 * m + 2) (omega arith) (omega arith)))
    where
      apart : place_of J.C i c ≢ to * J.C
      apart e = elim u [
        | inl n ↦ n (places J.C i c to 0 h some (e ∙ omega arith)).0
        | inr n ↦ n (places J.C i c to 0 h some (e ∙ omega arith)).1
      ]

      side : (k : ℕ) → 3 * place_of J.C i c < k + 1 → k < 3 * place_of J.C i c + 3 → (k < to * (3 * J.C)) ⊎ (to * (3 * J.C) + 3 ≤ k)
      side k a b = elim (lt_or_gt apart) [ inl g ↦ inl (omega (arith, mul_left_comm to 3 J.C)) | inr g ↦ inr (omega (arith, mul_left_comm to 3 J.C)) ]

-- ---- growing: the next colour of each subpalette is written
module _ (J : Job) (pal : List Float) (have i c : ℕ) (h : c < J.C) (room : have < J.C) (n : c ≢ have) where
  grown_by_unused : (m : ℕ) → colour_at (grown_by J pal have m) (place_of J.C i c) ≡ colour_at pal (place_of J.C i c)
  unfolding grown_by
  grown_by_unused zero = refl
  grown_by_unused (suc m) =
      put_elsewhere (grown_by J pal have m) (place_of J.C m have) (colour_at (grown_by J pal have m) (place_of J.C m (split_of J pal have m))) (place_of J.C i c) (λ e. n (places J.C i c m have h room e).1)
      ∙ grown_by_unused m

  pub grown_unused : colour_at (grown J pal have) (place_of J.C i c) ≡ colour_at pal (place_of J.C i c)
  unfolding grown
  grown_unused = grown_by_unused J.S

-- ---- a draw: a colour that is present moves
module _ (J : Job) (pal : List Float) (n have : ℕ) (S : Shown J pal n have) (t k : ℕ) (alpha : Float) where
  pub moved_unused : (i c : ℕ) → c < J.C → (n ≤ i) ⊎ (have ≤ c) → colour_at (moved J pal n have t k alpha) (place_of J.C i c) ≡ colour_at pal (place_of J.C i c)
  unfolding moved target_of
  moved_unused i c h u = put_elsewhere pal (place_of J.C best near) _ (place_of J.C i c) apart
    where
      best : ℕ
      best = winner J pal n have t

      near : ℕ
      near = (nearest_of (sub_of pal J.C have best) (colour_at (tile_of J t) k) J.weight).index

      best_in : best < n
      best_in = winner-below J pal n have S t

      near_in : near < have
      near_in = part-nearest J pal n have S best best_in (colour_at (tile_of J t) k)

      apart : place_of J.C i c ≢ place_of J.C best near
      apart e =
          let same = places J.C i c best near h (omega (arith, near_in, S.present)) e in
          elim u [ inl l ↦ omega (arith, same.0, best_in) | inr l ↦ omega (arith, same.1, near_in) ]
