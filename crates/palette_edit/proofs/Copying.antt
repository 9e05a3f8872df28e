-- A loop that copies the first places of one row to another, place by place; a subpalette copied so comes to the definition. Assumes nothing.
use Prim.Native.Nat.{ℕ, ◌+◌, ◌*◌, ◌≤◌, ◌<◌}
use mathlib.Core.Path.{◌≡◌, sym, ap, ◌∙◌}
use mathlib.Core.Logic.{inl, inr}
use mathlib.Core.List.{List}
use native.Mathlib.Nat.{le_antisymm, mul-le-mul_right}
use native.Mathlib.Numerals.{add-one}
use native.Mathlib.Omega.{arith}
use lib.ListN.{get_or, length, set}
use lib.Seq.{paste, paste-suc}
use lib.Ieee.{Float, nan}
use Rattle.lists.specs.Parts.{part, copied}
use Rattle.lists.proofs.Copies.{row_before, part_length, part_at}
use Rattle.lists.proofs.Runs.{lt_or_ge, paste-before, paste-after}
use Rattle.palette.specs.Palette.{sub_of}
use Rattle.palette_edit.specs.Edits.{sub_copied}

module _ {A : Type 0} (z : A) (s : List A) (stride width from to : ℕ) (W : width ≤ stride) (F : from * stride + width ≤ length s) (G : to * stride + width ≤ length s) where
  -- what a turn reads is not yet overwritten
  copy_reads : (j : ℕ) → j < width → get_or (paste s (to * stride) (part s stride width from) j) (from * stride + j) z ≡ get_or (part s stride width from) j z
  copy_reads j l =
      elim (lt_or_ge from to) [
        | inl g ↦ paste-before z s (to * stride) (part s stride width from) j (omega arith) (omega (arith, part_length z s stride width from F)) (from * stride + j) (omega (arith, row_before from to stride g))
        | inr g ↦ paste-after z s (to * stride) (part s stride width from) j (omega arith) (omega (arith, part_length z s stride width from F)) (from * stride + j) (omega (arith, mul-le-mul_right stride g))
      ]
      ∙ sym (part_at z s stride width from j l)

  -- one place more, at the code's `j + 1`
  copy_more : (l : List A) (j : ℕ) → j < width → l ≡ paste s (to * stride) (part s stride width from) j
      → set l (to * stride + j) (get_or l (from * stride + j) z) ≡ paste s (to * stride) (part s stride width from) (j + 1)
  copy_more l j h e =
      ap (λ (x : List A). set x (to * stride + j) (get_or x (from * stride + j) z)) e
      ∙ ap (set (paste s (to * stride) (part s stride width from) j) (to * stride + j)) (copy_reads j h)
      ∙ paste-suc s (to * stride) (part s stride width from) j z (omega arith) (omega (arith, part_length z s stride width from F))
      ∙ ap (paste s (to * stride) (part s stride width from)) (sym (add-one j))

  copy_done : (l : List A) (j : ℕ) → j ≤ width → width ≤ j → l ≡ paste s (to * stride) (part s stride width from) j → l ≡ copied s stride width from to
  copy_done l j p q e = e ∙ ap (paste s (to * stride) (part s stride width from)) (le_antisymm p q)

module _ (pal : List Float) (c have from to : ℕ) (H : have ≤ c) (F : from * (3 * c) + 3 * c ≤ length pal) (G : to * (3 * c) + 3 * c ≤ length pal) where
  pub copy_turn : (l : List Float) (j : ℕ) → j < 3 * have → l ≡ paste pal (to * (3 * c)) (sub_of pal c have from) j
      → set l (to * (3 * c) + j) (get_or l (from * (3 * c) + j) nan) ≡ paste pal (to * (3 * c)) (sub_of pal c have from) (j + 1)
  copy_turn l j h e = copy_more nan pal (3 * c) (3 * have) from to (omega arith) (omega arith) (omega arith) l j h e

  pub copy_end : (l : List Float) (j : ℕ) → j ≤ 3 * have → 3 * have ≤ j → l ≡ paste pal (to * (3 * c)) (sub_of pal c have from) j → l ≡ sub_copied pal c have from to
  copy_end l j p q e = copy_done nan pal (3 * c) (3 * have) from to (omega arith) (omega arith) (omega arith) l j p q e
