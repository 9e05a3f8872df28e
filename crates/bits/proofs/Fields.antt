-- Laws of fields: how large one can be, and a written field as stores. Assumes nothing.
use mathlib.Core.Path.{◌≡◌, sym, ap, ◌∙◌}
use Prim.Native.Nat.{ℕ, suc, ◌+◌, ◌^◌, ◌≤◌, ◌<◌}
use native.Mathlib.Nat.{add-zero, suc-add, add-suc, lt_of_lt_of_le}
use native.Mathlib.Omega.{arith}
use mathlib.Core.Bool.{Bool}
use mathlib.Core.List.{List, [], ◌∷◌, ◌++◌, append_assoc}
use lib.Pow.{pow_mono}
use lib.ListN.{length, take, drop, set, length-drop}
use lib.Seq.{length-take-le, sets, sets-eq, length-sets}
use Rattle.bits.specs.Bits.{bits_of, written, field_at}
use Rattle.bits.proofs.Numbers.{length-bits_of, num-lt}

pub field_lt : (l : List Bool) (p i k : ℕ) → p + i ≤ length l → i ≤ k → field_at l p i < 2 ^ k
field_lt l p i k h g = lt_of_lt_of_le (num-lt i (take i (drop p l)) (length-take-le i (drop p l) (rw length-drop (omega arith)))) (pow_mono g)

-- stores one after another
pub sets_append : {A : Type 0} (x y : List A) (l : List A) (p : ℕ) → sets l p (x ++ y) ≡ sets (sets l p x) (p + length x) y
sets_append [] y l p = ap (λ (n : ℕ). sets l n y) (sym (add-zero p))
sets_append (a ∷ x) y l p =
    sets_append x y (set l p a) (suc p) ∙ ap (λ (n : ℕ). sets (sets (set l p a) (suc p) x) n y) (suc-add p (length x) ∙ sym (add-suc p (length x)))

pub written-sets : (l : List Bool) (p k v : ℕ) → p + k ≤ length l → written l p k v ≡ sets l p (bits_of k v)
written-sets l p k v h =
    let b : length (bits_of k v) ≡ k = length-bits_of k v in
    sym (sets-eq (bits_of k v) l p (rw b h)
    ∙ ap (λ (n : ℕ). take p l ++ bits_of k v ++ drop (p + n) l) b
    ∙ append_assoc (take p l) (bits_of k v) (drop (p + k) l))

pub length-written : (l : List Bool) (p k v : ℕ) → p + k ≤ length l → length (written l p k v) ≡ length l
length-written l p k v h = ap length (written-sets l p k v h) ∙ length-sets l p (bits_of k v)
