-- Laws of the bits of bytes: their number, and parts of them. Assumes nothing.
use mathlib.Core.Path.{◌≡◌, refl, sym, ap, ◌∙◌}
use Prim.Native.Nat.{ℕ, zero, suc, ◌+◌, ◌*◌, ◌<◌}
use native.Mathlib.Omega.{arith}
use mathlib.Core.Bool.{Bool}
use mathlib.Core.List.{List, [], ◌∷◌, ◌++◌, append_assoc}
use lib.ListN.{length, take, drop, set, length-append}
use lib.Seq.{take-append-add, drop-append-add, take-nil, drop-nil, set_split, sets, sets-eq}
use Rattle.bits.specs.Bits.{bits_of, bits}

pub length-bits : (s : List ℕ) → length (bits s) ≡ 8 * length s
length-bits [] = refl
length-bits (x ∷ s) = length-append (bits_of 8 x) (bits s) ∙ omega (arith, length-bits s)

pub bits_append : (x y : List ℕ) → bits (x ++ y) ≡ bits x ++ bits y
bits_append [] y = refl
bits_append (a ∷ x) y = ap (λ (l : List Bool). bits_of 8 a ++ l) (bits_append x y) ∙ sym (append_assoc (bits_of 8 a) (bits x) (bits y))

eight_more : (n : ℕ) → 8 * suc n ≡ 8 + 8 * n
eight_more n = omega arith

pub bits-take : (n : ℕ) (s : List ℕ) → take (8 * n) (bits s) ≡ bits (take n s)
bits-take zero s = refl
bits-take (suc n) [] = take-nil (8 * suc n)
bits-take (suc n) (x ∷ s) =
    ap (λ (i : ℕ). take i (bits (x ∷ s))) (eight_more n)
    ∙ take-append-add (bits_of 8 x) (bits s) (8 * n)
    ∙ ap (λ (l : List Bool). bits_of 8 x ++ l) (bits-take n s)

pub bits-drop : (n : ℕ) (s : List ℕ) → drop (8 * n) (bits s) ≡ bits (drop n s)
bits-drop zero s = refl
bits-drop (suc n) [] = drop-nil (8 * suc n)
bits-drop (suc n) (x ∷ s) =
    ap (λ (i : ℕ). drop i (bits (x ∷ s))) (eight_more n)
    ∙ drop-append-add (bits_of 8 x) (bits s) (8 * n)
    ∙ bits-drop n s

-- a byte stored is eight bits stored
pub bits-set : (s : List ℕ) (j y : ℕ) → j < length s → bits (set s j y) ≡ sets (bits s) (8 * j) (bits_of 8 y)
bits-set s j y h =
    let more : 8 * suc j ≡ 8 * j + 8 = omega arith in
    ap bits (set_split s j y h)
    ∙ bits_append (take j s) (y ∷ drop (suc j) s)
    ∙ ap (λ (l : List Bool). l ++ (bits_of 8 y ++ bits (drop (suc j) s))) (sym (bits-take j s))
    ∙ ap (λ (l : List Bool). take (8 * j) (bits s) ++ (bits_of 8 y ++ l)) (sym (bits-drop (suc j) s))
    ∙ ap (λ (i : ℕ). take (8 * j) (bits s) ++ (bits_of 8 y ++ drop i (bits s))) more
    ∙ sym (append_assoc (take (8 * j) (bits s)) (bits_of 8 y) (drop (8 * j + 8) (bits s)))
    ∙ sym (sets-eq (bits_of 8 y) (bits s) (8 * j) (rw (length-bits s) (omega arith)))
