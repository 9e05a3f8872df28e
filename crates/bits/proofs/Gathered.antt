-- The number of some bytes, byte by byte, and a field of it. Assumes nothing.
use mathlib.Core.Path.{◌≡◌, refl, sym, ap, ◌∙◌}
use Prim.Native.Nat.{ℕ, zero, suc, ◌+◌, ◌-◌, ◌*◌, ◌/◌, ◌%◌, ◌^◌, ◌≤◌, ◌<◌}
use native.Mathlib.Nat.{one-mul, lt_of_lt_of_le}
use native.Mathlib.Omega.{arith}
use mathlib.Core.Bool.{Bool}
use mathlib.Core.List.{List, [], ◌∷◌, ◌++◌}
use lib.Dec.{lit<}
use lib.Pow.{pow_mono, shl_exact}
use lib.ListN.{length, get_or, take, drop, length-drop}
use lib.Seq.{take-suc, get_or-drop, drop-drop, take-take, length-take-le}
use Rattle.bits.specs.Bits.{num, bits, field_at}
use Rattle.bits.proofs.Numbers.{num_append, num-bits_of, num-lt, num-part}
use Rattle.bits.proofs.Bytes.{length-bits, bits_append, bits-take, bits-drop}

-- the n bytes from f on
part-long : (s : List ℕ) (f n : ℕ) → f + n ≤ length s → length (take n (drop f s)) ≡ n
part-long s f n h = length-take-le n (drop f s) (rw length-drop (omega arith))

pub gathered-lt : (s : List ℕ) (f n k : ℕ) → f + n ≤ length s → 8 * n ≤ k → num (bits (take n (drop f s))) < 2 ^ k
gathered-lt s f n k h g =
    lt_of_lt_of_le (num-lt (8 * n) (bits (take n (drop f s))) (length-bits (take n (drop f s)) ∙ ap (λ (i : ℕ). 8 * i) (part-long s f n h))) (pow_mono g)

pub gather_step_lem : (s : List ℕ) (f j : ℕ) → f ≤ j → j < length s → get_or s j 0 < 256
    → num (bits (take (j - f) (drop f s))) * 256 + get_or s j 0 ≡ num (bits (take (j + 1 - f) (drop f s)))
gather_step_lem s f j l h small =
    let one : j + 1 - f ≡ suc (j - f) = omega arith in
    let there : f + (j - f) ≡ j = omega arith in
    let last : get_or (drop f s) (j - f) 0 ≡ get_or s j 0 = get_or-drop f s (j - f) 0 ∙ ap (λ (i : ℕ). get_or s i 0) there in
    sym (ap (λ (i : ℕ). num (bits (take i (drop f s)))) one
    ∙ ap (λ (x : List ℕ). num (bits x)) (take-suc (drop f s) (j - f) 0 (rw length-drop (omega arith)))
    ∙ ap (λ (x : ℕ). num (bits (take (j - f) (drop f s) ++ (x ∷ [])))) last
    ∙ ap num (bits_append (take (j - f) (drop f s)) (get_or s j 0 ∷ []))
    ∙ num_append (bits (take (j - f) (drop f s))) (bits (get_or s j 0 ∷ [])) 8 refl
    ∙ ap (λ (x : ℕ). num (bits (take (j - f) (drop f s))) * 2 ^ 8 + x) (num-bits_of 8 (get_or s j 0) small))

-- the field of k bits from p, in the bytes that it touches
pub gathered-field : (s : List ℕ) (p k e : ℕ) → p / 8 ≤ e → p + k ≤ 8 * e → e ≤ length s
    → num (bits (take (e - p / 8) (drop (p / 8) s))) / 2 ^ (8 * e - (p + k)) % 2 ^ k ≡ field_at (bits s) p k
gathered-field s p k e h room end =
    let f : ℕ = p / 8 in
    let there : 8 * (p / 8) + p % 8 ≡ p = omega arith in
    num-part (bits (take (e - f) (drop f s))) (p % 8) k (8 * e - (p + k))
    (length-bits (take (e - f) (drop f s)) ∙ ap (λ (i : ℕ). 8 * i) (part-long s f (e - f) (omega arith)) ∙ omega arith)
    ∙ ap (λ (l : List Bool). num (take k (drop (p % 8) l))) (sym (bits-take (e - f) (drop f s)) ∙ ap (take (8 * (e - f))) (sym (bits-drop f s)))
    ∙ ap num (within (8 * (e - f)) (p % 8) k (drop (8 * f) (bits s)) (omega arith))
    ∙ ap (λ (l : List Bool). num (take k l)) (drop-drop (p % 8) (8 * f) (bits s) ∙ ap (λ (i : ℕ). drop i (bits s)) there)
  where
    within : (n a k : ℕ) (l : List Bool) → a + k ≤ n → take k (drop a (take n l)) ≡ take k (drop a l)
    within n zero k l h = take-take k n l (omega arith)
    within zero (suc a) k l h = absurd (omega arith)
    within (suc n) (suc a) k [] h = refl
    within (suc n) (suc a) k (x ∷ l) h = within n a k l (omega arith)

-- a power of two, made by a shift
pub one_shl : (k : ℕ) → k ≤ 32 → (1 * 2 ^ k) % 2 ^ 64 ≡ 2 ^ k
one_shl k h = shl_exact 1 k 64 (lit< tt) (omega arith) ∙ one-mul (2 ^ k)

-- what `get` computes from the bytes' number g
module _ (s : List ℕ) (p k g : ℕ) (narrow : k ≤ 32) (room : p + k ≤ 8 * length s) (is : g ≡ num (bits (take ((p + k + 7) / 8 - p / 8) (drop (p / 8) s)))) where
  pub field-read : g / 2 ^ (8 * ((p + k + 7) / 8) - (p + k)) % ((1 * 2 ^ k) % 2 ^ 64) ≡ field_at (bits s) p k
  field-read =
      ap (λ (m : ℕ). g / 2 ^ (8 * ((p + k + 7) / 8) - (p + k)) % m) (one_shl k narrow)
      ∙ ap (λ (n : ℕ). n / 2 ^ (8 * ((p + k + 7) / 8) - (p + k)) % 2 ^ k) is
      ∙ gathered-field s p k ((p + k + 7) / 8) (omega arith) (omega arith) (omega arith)
