-- Where a colour of a subpalette stands in the flat palette, and what an edit leaves: the subpalette written has the new colours,
-- every other place and every other subpalette keeps its own, and the length stays. Assumes nothing.
use Prim.Native.Nat.{ℕ, ◌+◌, ◌*◌, ◌≤◌, ◌<◌}
use mathlib.Core.Path.{◌≡◌, sym, ap, subst⁻¹, ◌∙◌}
use mathlib.Core.Logic.{◌≢◌, ◌⊎◌, inl, inr}
use mathlib.Core.List.{List}
use native.Mathlib.Nat.{mul_left_comm}
use native.Mathlib.Omega.{arith}
use lib.ListN.{get_or, length}
use lib.Seq.{ext_get_or}
use lib.Ieee.{Float, nan}
use Rattle.lists.proofs.Runs.{lt_or_gt, all-paste}
use Rattle.lists.proofs.Copies.{row_before, row_room, part_length, part_at, part_here, part_elsewhere, length-copied}
use Rattle.color.specs.declared.Oklab.{Oklab}
use Rattle.color.specs.Color.{colour_at, put_at}
use Rattle.color.proofs.Puts.{colour_eq, length_put, put_other}
use Rattle.palette.specs.Palette.{sub_of}
use Rattle.palette_edit.specs.Edits.{place_of, sub_copied}

-- ---- places
place_at : (c i j : ℕ) → 3 * place_of c i j ≡ i * (3 * c) + 3 * j
place_at c i j = let e : i * (3 * c) ≡ 3 * (i * c) = mul_left_comm i 3 c in omega arith

-- colour j below c of subpalette i below n is in a palette of n
pub place-room : (n c i j size : ℕ) → i < n → j < c → n * (3 * c) ≤ size → 3 * place_of c i j + 2 < size
place-room n c i j size l m h = omega (arith, place_at c i j, row_room i n (3 * c) size l h)

-- the numbers of the colours of a subpalette are those at its places of the whole
pub sub-colour : (pal : List Float) (c have i j : ℕ) → j < have → colour_at (sub_of pal c have i) j ≡ colour_at pal (place_of c i j)
sub-colour pal c have i j l =
    colour_eq
    (part_at nan pal (3 * c) (3 * have) i (3 * j) (omega arith) ∙ ap (λ (k : ℕ). get_or pal k nan) (sym (place_at c i j)))
    (part_at nan pal (3 * c) (3 * have) i (3 * j + 1) (omega arith) ∙ ap (λ (k : ℕ). get_or pal k nan) (one_more 1))
    (part_at nan pal (3 * c) (3 * have) i (3 * j + 2) (omega arith) ∙ ap (λ (k : ℕ). get_or pal k nan) (one_more 2))
  where
    one_more : (d : ℕ) → i * (3 * c) + (3 * j + d) ≡ 3 * place_of c i j + d
    one_more d = omega (arith, place_at c i j)

-- ---- a colour written: the other subpalettes keep theirs
pub put_other-sub : (pal : List Float) (c have i j : ℕ) (x : Oklab) (k : ℕ) → have ≤ c → j < c → k ≢ i → k * (3 * c) + 3 * c ≤ length pal → sub_of (put_at pal (place_of c i j) x) c have k ≡ sub_of pal c have k
put_other-sub pal c have i j x k H J n K =
    let s = put_at pal (place_of c i j) x in
    let size : length (sub_of s c have k) ≡ 3 * have = part_length nan s (3 * c) (3 * have) k (omega (arith, length_put pal (place_of c i j) x)) in
    let mine : length (sub_of pal c have k) ≡ 3 * have = part_length nan pal (3 * c) (3 * have) k (omega arith) in
    ext_get_or nan (sub_of s c have k) (sub_of pal c have k) (size ∙ sym mine)
    (λ m l.
    let b : m < 3 * have = omega arith in
    part_at nan s (3 * c) (3 * have) k m b ∙ put_other pal (place_of c i j) x (k * (3 * c) + m) (side m b) ∙ sym (part_at nan pal (3 * c) (3 * have) k m b))
  where
    side : (m : ℕ) → m < 3 * have → (k * (3 * c) + m < 3 * place_of c i j) ⊎ (3 * place_of c i j + 2 < k * (3 * c) + m)
    side m b = elim (lt_or_gt n) [ inl g ↦ inl (omega (arith, place_at c i j, row_before k i (3 * c) g)) | inr g ↦ inr (omega (arith, place_at c i j, row_before i k (3 * c) g)) ]

-- ---- a subpalette copied
module _ (pal : List Float) (c have from to : ℕ) (H : have ≤ c) (F : from * (3 * c) + 3 * c ≤ length pal) (G : to * (3 * c) + 3 * c ≤ length pal) where
  pub length-sub_copied : length (sub_copied pal c have from to) ≡ length pal
  length-sub_copied = length-copied nan pal (3 * c) (3 * have) from to (omega arith) (omega arith) (omega arith)

  pub sub_here : sub_of (sub_copied pal c have from to) c have to ≡ sub_of pal c have from
  sub_here = part_here nan pal (3 * c) (3 * have) from to (omega arith) (omega arith) (omega arith)

  pub sub_elsewhere : (k : ℕ) → k ≢ to → k * (3 * c) + 3 * c ≤ length pal → sub_of (sub_copied pal c have from to) c have k ≡ sub_of pal c have k
  sub_elsewhere k n K = part_elsewhere nan pal (3 * c) (3 * have) from to (omega arith) (omega arith) (omega arith) k (3 * have) n (omega arith) (omega arith)

  -- what holds of every number
  pub all-sub_copied : (P : Float → Type 0) → ((j : ℕ) → j < length pal → P (get_or pal j nan)) → (j : ℕ) → j < length (sub_copied pal c have from to) → P (get_or (sub_copied pal c have from to) j nan)
  all-sub_copied P p = all-paste nan P pal (to * (3 * c)) (sub_of pal c have from) (3 * have) (omega arith) (omega (arith, size)) p part
    where
      size : length (sub_of pal c have from) ≡ 3 * have
      size = part_length nan pal (3 * c) (3 * have) from (omega arith)

      part : (j : ℕ) → j < 3 * have → P (get_or (sub_of pal c have from) j nan)
      part j l = subst⁻¹ P (part_at nan pal (3 * c) (3 * have) from j l) (p (from * (3 * c) + j) (omega arith))
