-- Bits are clear where they spell 0, and fewer than eight or not. Assumes nothing.
use mathlib.Core.Path.{◌≡◌, refl, sym, ap, ◌∙◌}
use Prim.Native.Nat.{ℕ, zero, suc, ◌-◌, ◌*◌, ◌%◌, ◌^◌, ◌≤◌, ◌<◌}
use native.Mathlib.Nat.{zero-div}
use native.Mathlib.Omega.{arith}
use mathlib.Core.Bool.{Bool, true, false, ◌&&◌, true≢false}
use mathlib.Core.List.{List, [], ◌∷◌}
use lib.Dec.{ltb, eqb}
use lib.ListN.{length, drop, length-drop}
use lib.Seq.{take_all}
use borrow.Author.Tests.{eq-eqb, ne_eqb, lt-ltb, le-ltb}
use Rattle.bits.specs.Bits.{bits, bits_of, num, field_at}
use Rattle.bits.proofs.Numbers.{bits_of-num}
use Rattle.bits.proofs.Bytes.{length-bits}
use Rattle.format.specs.Format.{clear}

zero_bits : (n : ℕ) → clear (bits_of n 0) ≡ true
zero_bits zero = refl
zero_bits (suc n) = ap (λ (m : ℕ). clear (eqb (m % 2) 1 ∷ bits_of n 0)) (zero-div (2 ^ n)) ∙ zero_bits n

num-clear : (l : List Bool) → clear l ≡ true → num l ≡ 0
num-clear [] h = refl
num-clear (true ∷ l) h = absurd (true≢false (sym h))
num-clear (false ∷ l) h = num-clear l h

clear-num : (l : List Bool) → clear l ≡ eqb (num l) 0
clear-num l = by (clear l) refl (num l) refl
  where
    by : (b : Bool) → clear l ≡ b → (n : ℕ) → num l ≡ n → b ≡ eqb n 0
    by true h n e = sym (eq-eqb n 0 (sym e ∙ num-clear l h))
    by false h zero e = absurd (true≢false (sym (zero_bits (length l)) ∙ ap clear (ap (bits_of (length l)) (sym e) ∙ bits_of-num (length l) l refl) ∙ h))
    by false h (suc n) e = sym (ne_eqb (suc n) 0 (omega arith))

module _ (s : List ℕ) (p : ℕ) where
  left : length (drop p (bits s)) ≡ 8 * length s - p
  left = length-drop p (bits s) ∙ ap (λ (n : ℕ). n - p) (length-bits s)

  pub spare_some : (w : ℕ) → 8 * length s - p < 8 → w ≡ field_at (bits s) p (8 * length s - p) → eqb w 0 ≡ (ltb (length (drop p (bits s))) 8 && clear (drop p (bits s)))
  spare_some w h e =
      ap (λ (n : ℕ). eqb n 0) (e ∙ ap num (take_all (8 * length s - p) (drop p (bits s)) (omega (arith, left))))
      ∙ sym (clear-num (drop p (bits s)))
      ∙ sym (ap (λ (b : Bool). b && clear (drop p (bits s))) (lt-ltb (length (drop p (bits s))) 8 (omega (arith, left))))

  pub spare_bytes : 8 ≤ 8 * length s - p → false ≡ (ltb (length (drop p (bits s))) 8 && clear (drop p (bits s)))
  spare_bytes h = sym (ap (λ (b : Bool). b && clear (drop p (bits s))) (le-ltb (length (drop p (bits s))) 8 (omega (arith, left))))
