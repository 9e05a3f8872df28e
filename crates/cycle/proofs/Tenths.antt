-- The Rust's tenth of n is n / 10, rounded down, for each n up to 16,384. The product lies from n / 10 rounded down up to 15 / 16 above that; binary32
-- holds both ends, and rounding keeps the order. Assumes nothing.
use mathlib.Core.Path.{◌≡◌, refl, sym, ap, ◌∙◌}
use mathlib.Core.Logic.{inl, inr}
use mathlib.Core.Bool.{true, false}
use Prim.Native.Nat.{ℕ, ◌+◌, ◌*◌, ◌/◌, ◌^◌, ◌≤◌, ◌<◌, zero-le}
use native.Mathlib.Nat.{mul-one, zero-mul, add-mul, mul_assoc, div-add-mod', mod-lt, lt_of_lt_of_le, eq-zero-or-pos, div-eq_of_lt-le, min-eq_left}
use native.Mathlib.Omega.{arith}
use lib.Dec.{T, lit<, lit≤}
use lib.Pow.{pow_pos, shl_lt}
use lib.IntN.{pos}
use lib.Ieee.{Float, nan, inf, fin, binary32, up, down, round, mul, le, of_int, of_bits, to_unsigned}
use lib.Ieee.Exact.{HasValue, round_exact}
use lib.Ieee.Back.{round_whole}
use lib.Ieee.Order.{round_mono}
use lib.Ieee.Positive.{num, den, positive, den_pos, own_value, positive_of_value, values_of_le, between, mul_at}
use Rattle.cycle.specs.Tenth.{fraction, tenth}

fraction-is : HasValue fraction false 13421773 (2 ^ 27)
unfolding fraction of_bits
fraction-is = (refl, refl)

-- a positive value from q to below q + 1 is cut to q
cut : (x : Float) (q : ℕ) → T (positive x) → q ≤ 16384 → q * den x ≤ num x → num x < (q + 1) * den x → to_unsigned 64 x ≡ q
unfolding to_unsigned
cut nan q p h l u = absurd p
cut (inf s) q p h l u = absurd p
cut (fin true m e) q p h l u = absurd p
cut (fin false m e) q p h l u =
    let whole : m * up e / down e ≡ q = div-eq_of_lt-le (down e) l u in
    min-eq_left (omega arith) ∙ whole

-- a / c in binary32
abbrev near : ℕ → ℕ → Float
near a c = round binary32 false a c

-- sixteenths are held, up to far more than is asked here
sixteenths : (k : ℕ) → k < 2 ^ 20 → HasValue (near k 16) false k 16
sixteenths k h = round_exact binary32 false k 16 k 145 (lit< tt) (omega arith) (shl_lt 132 145 (lt_of_lt_of_le h (lit≤ tt))) (sym (mul_assoc k (2 ^ 145) 16))

-- x / d is at most 15 / 16 above q, so below q + 1
under_next : (x d q : ℕ) → 0 < d → x * 16 ≤ (16 * q + 15) * d → x < (q + 1) * d
under_next x d q h u = omega (arith, add-mul (16 * q) 15 d, mul_assoc 16 q d, add-mul q 1 d)

-- a fraction a / c that is at least 1 / 16, and from q up to 15 / 16 above q
module _ (q a c : ℕ) (above : 0 < c) (small : q ≤ 16384) (some : c ≤ 16 * a) (least : q * c ≤ a) (most : a * 16 ≤ (16 * q + 15) * c) where
  top-is : HasValue (near (16 * q + 15) 16) false (16 * q + 15) 16
  top-is = sixteenths (16 * q + 15) (omega arith)

  top-positive : T (positive (near (16 * q + 15) 16))
  top-positive = positive_of_value (near (16 * q + 15) 16) (16 * q + 15) 16 top-is (omega arith)

  below_top : T (le (near a c) (near (16 * q + 15) 16))
  below_top = round_mono binary32 a c (16 * q + 15) 16 above (lit< tt) most

  near_positive : T (positive (near a c))
  near_positive =
      between (near 1 16) (near a c) (near (16 * q + 15) 16)
      (positive_of_value (near 1 16) 1 16 (sixteenths 1 (lit< tt)) (lit< tt)) top-positive
      (round_mono binary32 1 16 a c (lit< tt) above (omega arith)) below_top

  from_below : 0 < q → q * den (near a c) ≤ num (near a c)
  from_below h =
      let q_is : HasValue (near q 1) false q 1 = round_whole binary32 false q (omega arith) in
      rw mul-one at
      (values_of_le (near q 1) (near a c) q 1 (num (near a c)) (den (near a c)) (positive_of_value (near q 1) q 1 q_is h) near_positive q_is (own_value (near a c) near_positive)
      (round_mono binary32 q 1 a c (lit< tt) above (rw mul-one least)))

  from_above : num (near a c) < (q + 1) * den (near a c)
  from_above =
      let sixteen : num (near a c) * 16 ≤ (16 * q + 15) * den (near a c) =
      values_of_le (near a c) (near (16 * q + 15) 16) (num (near a c)) (den (near a c)) (16 * q + 15) 16 near_positive top-positive (own_value (near a c) near_positive) top-is below_top in
      under_next (num (near a c)) (den (near a c)) q (den_pos (near a c)) sixteen

  pub near_cut : to_unsigned 64 (near a c) ≡ q
  near_cut = cut (near a c) q near_positive small (elim (eq-zero-or-pos q) [ inl z ↦ rw (z, zero-mul) zero-le | inr h ↦ from_below h ]) from_above

product : (n : ℕ) → 0 < n → n ≤ 16384 → mul binary32 fraction (of_int binary32 (pos n)) ≡ round binary32 false (13421773 * n) (2 ^ 27 * 1)
unfolding of_int
product n some small =
    let n_is : HasValue (round binary32 false n 1) false n 1 = round_whole binary32 false n (omega arith) in
    mul_at binary32 fraction (round binary32 false n 1) 13421773 (2 ^ 27) n 1
    (positive_of_value fraction 13421773 (2 ^ 27) fraction-is (lit< tt)) (positive_of_value (round binary32 false n 1) n 1 n_is some) (pow_pos 27) (lit< tt)
    fraction-is n_is

tenth-zero : tenth 0 ≡ 0
unfolding tenth fraction to_unsigned mul of_int of_bits
tenth-zero = refl

pub tenth-is : (n : ℕ) → n ≤ 16384 → tenth n ≡ n / 10
unfolding tenth
tenth-is n small =
    elim (eq-zero-or-pos n) [
      | inl z ↦ ap tenth z ∙ tenth-zero ∙ ap (λ (k : ℕ). k / 10) (sym z)
      | inr some ↦
          ap (to_unsigned 64) (product n some small)
          ∙ near_cut (n / 10) (13421773 * n) (2 ^ 27 * 1) (lit< tt) (omega arith) (omega arith) (omega (arith, div-add-mod' n 10)) (omega (arith, div-add-mod' n 10, mod-lt n {m = 10} (lit< tt)))
    ]
