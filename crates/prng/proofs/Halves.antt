-- A product modulo b * b from the halves of its factors, to base b. Assumes nothing.
use Rattle.std.proofs.Common.{◌≡◌, ℕ, ◌+◌, ◌*◌, ◌/◌, ◌%◌, ◌^◌, ◌<◌, sym, ap, ◌∙◌, lt_of_le_of_lt, le_of_lt, mul_assoc, add-mul, mul-le-mul_left, mul-lt-mul_of_pos_right, div-add-mod', mul-add, mul_right_comm, mul_left_comm, arith, pow_pos, w64, Fits}
use native.Mathlib.Nat.{mod-add-mod, mul-add-mod_self_right}
use lib.Pow.{split}
use lib.Bits.{bit_and, and_mask}
use mir.Facts.{Fits-bits}

-- a factor may be reduced before a product is
mod-mul-mod : (x m c : ℕ) → x % m * c % m ≡ x * c % m
mod-mul-mod x m c =
    sym (mul-add-mod_self_right (x / m * c) m (x % m * c))
    ∙ ap (λ (y : ℕ). y % m)
    (ap (λ (y : ℕ). y + x % m * c) (mul_right_comm (x / m) c m) ∙ sym (add-mul (x / m * m) (x % m) c) ∙ ap (λ (y : ℕ). y * c) (div-add-mod' x m))

-- the product of two numbers of two digits, h l and k m, to a base
digits : (base h l k m : ℕ) → (h * base + l) * (k * base + m) ≡ h * k * (base * base) + ((h * m + l * k) * base + l * m)
digits base h l k m =
    let high : h * base * (k * base) ≡ h * k * (base * base) =
    mul_assoc h base (k * base) ∙ ap (λ (y : ℕ). h * y) (mul_left_comm base k base) ∙ sym (mul_assoc h k (base * base)) in
    simp (add-mul, mul-add) (omega (arith, high, mul_right_comm h base m, mul_assoc l k base))

-- the sum of the two cross products, and what `wrapping_mul` computes, with `lo` for how the low 32 bits of a number are taken
abbrev pub cross_of : (lo : ℕ → ℕ) (a b : ℕ) → ℕ
cross_of lo a b = a / 2 ^ 32 * lo b + lo a * (b / 2 ^ 32)

abbrev pub halves_of : (lo : ℕ → ℕ) (a b : ℕ) → ℕ
halves_of lo a b = (cross_of lo a b % 2 ^ 64 * 2 ^ 32 % 2 ^ 64 + lo a * lo b) % 2 ^ 64

by_remainder : (a b : ℕ) → halves_of (λ n. n % 2 ^ 32) a b ≡ a * b % 2 ^ 64
by_remainder a b =
    let base : ℕ = 2 ^ 32 in
    let cross : ℕ = cross_of (λ n. n % 2 ^ 32) a b in
    let low : ℕ = a % base * (b % base) in
    ap (λ (y : ℕ). (y + low) % 2 ^ 64) (mod-mul-mod cross (2 ^ 64) base)
    ∙ mod-add-mod (cross * base) (2 ^ 64) low
    ∙ sym (mul-add-mod_self_right (a / base * (b / base)) (2 ^ 64) (cross * base + low))
    ∙ ap (λ (y : ℕ). y % 2 ^ 64) (sym (digits base (a / base) (a % base) (b / base) (b % base)))
    ∙ (λ i. split a 32 i * split b 32 i % 2 ^ 64)

-- a mask of 32 ones takes the remainder by 2 ^ 32
pub halves : (a b : ℕ) → halves_of (λ n. bit_and n 0xffff_ffff) a b ≡ a * b % 2 ^ 64
halves a b = (λ i. halves_of (λ (n : ℕ). and_mask n 32 i) a b) ∙ by_remainder a b

-- a product of two halves is a word
pub half_product : {x y : ℕ} → x < 2 ^ 32 → y < 2 ^ 32 → Fits w64 (x * y)
half_product {x} {y} hx hy = Fits-bits 64 tt (lt_of_le_of_lt (mul-le-mul_left x (le_of_lt hy)) (mul-lt-mul_of_pos_right hx (pow_pos 32)))
