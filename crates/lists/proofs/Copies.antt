-- What a copy of the first places of one row to another leaves: the row written has them, every other row keeps its own.
-- Over any type of items. Assumes nothing.
use Prim.Native.Nat.{ℕ, ◌+◌, ◌*◌, ◌≤◌, ◌<◌}
use mathlib.Core.Path.{◌≡◌, sym, ◌∙◌}
use mathlib.Core.Logic.{◌≢◌, inl, inr}
use mathlib.Core.List.{List}
use native.Mathlib.Nat.{le_trans, le_of_eq, mul-le-mul_right, suc-mul}
use native.Mathlib.Omega.{arith}
use lib.ListN.{get_or, length, drop, length-take, length-drop}
use lib.Seq.{paste, get_or-take, get_or-drop, length-paste, ext_get_or}
use Rattle.lists.specs.Parts.{part, copied}
use Rattle.lists.proofs.Runs.{lt_or_gt, paste-before, paste_in, paste-after}

-- ---- row i ends where a later row j begins, or before
pub row_before : (i j stride : ℕ) → i < j → i * stride + stride ≤ j * stride
row_before i j stride l = le_trans (le_of_eq (sym (suc-mul i stride))) (mul-le-mul_right stride l)

-- row i of n rows is in the list
pub row_room : (i n stride size : ℕ) → i < n → n * stride ≤ size → i * stride + stride ≤ size
row_room i n stride size l h = le_trans (row_before i n stride l) h

-- ---- a part by its places
module _ {A : Type 0} (z : A) (s : List A) (stride width i : ℕ) where
  pub part_length : i * stride + width ≤ length s → length (part s stride width i) ≡ width
  part_length h = simp (length-take, length-drop) (omega arith)

  pub part_at : (j : ℕ) → j < width → get_or (part s stride width i) j z ≡ get_or s (i * stride + j) z
  part_at j l = get_or-take width (drop (i * stride) s) j z l ∙ get_or-drop (i * stride) s j z

module _ {A : Type 0} (z : A) (s : List A) (stride width from to : ℕ) (W : width ≤ stride) (F : from * stride + width ≤ length s) (G : to * stride + width ≤ length s) where
  source-length : length (part s stride width from) ≡ width
  source-length = part_length z s stride width from F

  pub copy_length : (j : ℕ) → j ≤ width → length (paste s (to * stride) (part s stride width from) j) ≡ length s
  copy_length j h = length-paste s (to * stride) (part s stride width from) j (omega arith) (omega (arith, source-length))

  pub length-copied : length (copied s stride width from to) ≡ length s
  length-copied = copy_length width (omega arith)

  -- the copy is there
  pub part_here : part (copied s stride width from to) stride width to ≡ part s stride width from
  part_here =
      let size : length (part (copied s stride width from to) stride width to) ≡ width = part_length z (copied s stride width from to) stride width to (omega (arith, length-copied)) in
      ext_get_or z (part (copied s stride width from to) stride width to) (part s stride width from) (size ∙ sym source-length)
      (λ j l.
      let k : j < width = omega arith in
      part_at z (copied s stride width from to) stride width to j k ∙ paste_in z s (to * stride) (part s stride width from) width G (omega (arith, source-length)) j k)

  -- and the other rows stay
  pub part_elsewhere : (k wide : ℕ) → k ≢ to → wide ≤ stride → k * stride + wide ≤ length s → part (copied s stride width from to) stride wide k ≡ part s stride wide k
  part_elsewhere k wide n w K =
      let size : length (part (copied s stride width from to) stride wide k) ≡ wide = part_length z (copied s stride width from to) stride wide k (omega (arith, length-copied)) in
      ext_get_or z (part (copied s stride width from to) stride wide k) (part s stride wide k) (size ∙ sym (part_length z s stride wide k K))
      (λ j l.
      let m : j < wide = omega arith in
      part_at z (copied s stride width from to) stride wide k j m ∙ stays j m ∙ sym (part_at z s stride wide k j m))
    where
      stays : (j : ℕ) → j < wide → get_or (copied s stride width from to) (k * stride + j) z ≡ get_or s (k * stride + j) z
      stays j m =
          elim (lt_or_gt n) [
            | inl g ↦ paste-before z s (to * stride) (part s stride width from) width G (omega (arith, source-length)) (k * stride + j) (omega (arith, row_before k to stride g))
            | inr g ↦ paste-after z s (to * stride) (part s stride width from) width G (omega (arith, source-length)) (k * stride + j) (omega (arith, row_before to k stride g))
          ]
