-- Bytes stored one after another, from the front or from the back. Assumes nothing.
use mathlib.Core.Path.{◌≡◌, refl, sym, ap, ap₂, ◌∙◌}
use Prim.Native.Nat.{ℕ, zero, suc, ◌+◌, ◌-◌, ◌/◌, ◌%◌, ◌≤◌, ◌<◌}
use native.Mathlib.Omega.{arith}
use mathlib.Core.List.{List, [], ◌∷◌}
use lib.ListN.{length, set}
use lib.Seq.{sets, set_comm}
use Rattle.bits.proofs.Fields.{sets_append}
use Rattle.io.specs.Digits.{last_digits, hex_digit_ascii}
use Rattle.fit_lines.proofs.Lengths.{length_digits}

-- ---- from the back: a store behind others can come first
later : (x l : List ℕ) (p j a : ℕ) → p + length x ≤ j → sets (set l j a) p x ≡ set (sets l p x) j a
later [] l p j a h = refl
later (b ∷ x) l p j a h =
    ap (λ (m : List ℕ). sets m (suc p) x) (set_comm l j p a b (λ e. omega arith)) ∙ later x (set l p b) (suc p) j a (omega arith)

pub digits_again : (l m g : List ℕ) (b at i n : ℕ) → 0 < i → m ≡ set l (at + (i - 1)) (hex_digit_ascii (n % b)) → sets l at (last_digits b i n) ≡ g → sets m at (last_digits b (i - 1) (n / b)) ≡ g
digits_again l m g b at zero n h e inv = absurd (omega arith)
digits_again l m g b at (suc i) n h e inv =
    let z : suc i - 1 ≡ i = omega arith in
    let X : List ℕ = last_digits b i (n / b) in
    ap₂ (λ (x : List ℕ) (j : ℕ). sets x at (last_digits b j (n / b))) (e ∙ ap (λ (j : ℕ). set l (at + j) (hex_digit_ascii (n % b))) z) z
    ∙ later X l at (at + i) (hex_digit_ascii (n % b)) (omega (arith, length_digits b i (n / b)))
    ∙ sym (sets_append X (hex_digit_ascii (n % b) ∷ []) l at ∙ ap (λ (j : ℕ). set (sets l at X) (at + j) (hex_digit_ascii (n % b))) (length_digits b i (n / b)))
    ∙ inv

pub digits_end : (l g : List ℕ) (b at i n : ℕ) → i ≤ 0 → sets l at (last_digits b i n) ≡ g → l ≡ g
digits_end l g b at zero n h inv = inv
digits_end l g b at (suc i) n h inv = absurd (omega arith)
