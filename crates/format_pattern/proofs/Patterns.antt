-- Which patterns of 32 bits are floats of size at most 2, and weights; both ways, and a pattern's float has that pattern. Assumes nothing.
use mathlib.Core.Path.{◌≡◌, refl, sym, ap, ◌∙◌, subst}
use Prim.Native.Nat.{ℕ, zero, suc, ◌+◌, ◌*◌, ◌/◌, ◌%◌, ◌^◌, ◌≤◌, ◌<◌}
use native.Mathlib.Omega.{arith}
use mathlib.Core.Logic.{◌↔◌}
use mathlib.Core.Bool.{Bool, true, false, not, cond, true≢false}
use lib.IntN.{pos}
use lib.Dec.{T, leb, ltb, leb→le, le→leb, ltb→lt, lt→ltb, not_T}
use lib.Ieee.{Float, nan, inf, fin, binary32, of_bits, to_bits, is_nan, nan_bits, of_fields, odd, le, lt, fits, up, down, low, size, span, climb}
use lib.Ieee.Bits.{to_bits-of_bits, of_bits-fits, nan_bits_is, nan_bits_above}
use Rattle.ieee.proofs.Order.{le_fin→, le_fin←}
use Rattle.ieee.specs.Terms.{sgn, abs, key, pack, Within, zero_f}
use Rattle.ieee.proofs.Keys.{bits_are, size_small, bits→le, le→bits}
use lib.Ieee.Fits.{up_pos}
use native.Mathlib.Nat.{zero-mul, zero-div, mul-pos}
use Rattle.ieee.proofs.Bounds.{within_real}
use Rattle.format_pattern.specs.Pattern.{small, weighs}
use Rattle.format.proofs.Tests.{and_l, and_r, and_in}

-- without its sign, a pattern up to infinity's is no NaN's
pub no_nan : (b : ℕ) → b % 2 ^ 31 ≤ 0x7f80_0000 → T (not (nan_bits binary32 b))
no_nan b h =
    subst (λ (t : Bool). T (not t)) (sym (nan_bits_above binary32 b))
    (not_T (ltb 0x7f80_0000 (b % 2 ^ 31)) (λ t. omega (arith, ltb→lt 0x7f80_0000 (b % 2 ^ 31) t)))

pub real : (b : ℕ) → b % 2 ^ 31 ≤ 0x7f80_0000 → T (not (is_nan (of_bits binary32 b)))
real b h = subst (λ (t : Bool). T (not t)) (nan_bits_is binary32 b) (no_nan b h)

-- the size of a float is its pattern without the sign
size_of : (b : ℕ) → b < 2 ^ 32 → T (not (is_nan (of_bits binary32 b))) → pack binary32 (key binary32 (of_bits binary32 b)) ≡ b % 2 ^ 31
size_of b h r =
    by (sgn (of_bits binary32 b)) (pack binary32 (key binary32 (of_bits binary32 b)))
    (sym (to_bits-of_bits binary32 b h r) ∙ bits_are binary32 (of_bits binary32 b) r)
    (size_small binary32 (of_bits binary32 b) (of_bits-fits binary32 b))
  where
    by : (s : Bool) (p : ℕ) → b ≡ cond s (2 ^ 31) 0 + p → p < 2 ^ 31 → p ≡ b % 2 ^ 31
    by true p e l = omega arith
    by false p e l = omega arith

-- a size at most 2 ^ j, as a bound on fractions
within← : (x : Float) (j : ℕ) → T (le (abs x) (fin false 1 (pos j))) → Within x (2 ^ j) 1
within← nan j h = absurd (unfold le in h)
within← (inf s) j h = absurd (unfold le in h)
within← (fin s m e) j h = omega (arith, le_fin→ false m e false 1 (pos j) h)

within→ : (x : Float) (j : ℕ) → Within x (2 ^ j) 1 → T (le (abs x) (fin false 1 (pos j)))
within→ nan j h = absurd h
within→ (inf s) j h = absurd h
within→ (fin s m e) j h = le_fin← false m e false 1 (pos j) (omega arith)

-- the law of a bound: B is the pattern of 2 ^ j
module _ (B j : ℕ) (room : B ≤ 0x7f80_0000) (is : of_bits binary32 B ≡ fin false 1 (pos j)) where
  bound-size : pack binary32 (key binary32 (fin false 1 (pos j))) ≡ B
  bound-size = ap (λ (y : Float). pack binary32 (key binary32 y)) (sym is) ∙ size_of B (omega arith) (real B (omega arith)) ∙ omega arith

  pub bound← : (b : ℕ) → b < 2 ^ 32 → b % 2 ^ 31 ≤ B → Within (of_bits binary32 b) (2 ^ j) 1
  unfolding is_nan
  bound← b h l =
      let r = real b (omega arith) in
      within← (of_bits binary32 b) j
      (bits→le binary32 (of_bits binary32 b) (fin false 1 (pos j)) (of_bits-fits binary32 b) (subst (λ (y : Float). T (fits binary32 y)) is (of_bits-fits binary32 B)) r tt
      (omega (arith, size_of b h r, bound-size)))

  pub bound→ : (b : ℕ) → b < 2 ^ 32 → Within (of_bits binary32 b) (2 ^ j) 1 → b % 2 ^ 31 ≤ B
  bound→ b h w =
      omega (
        arith,
        size_of b h (within_real (of_bits binary32 b) (2 ^ j) 1 w),
        bound-size,
        le→bits binary32 (of_bits binary32 b) (fin false 1 (pos j)) (of_bits-fits binary32 b) (within→ (of_bits binary32 b) j w),
      )

two : of_bits binary32 0x4000_0000 ≡ fin false 1 (pos 1)
unfolding of_bits of_fields odd
two = refl

sixteen : of_bits binary32 0x4180_0000 ≡ fin false 1 (pos 4)
unfolding of_bits of_fields odd
sixteen = refl

-- ---- the two tests
pub small_is : (b : ℕ) → b < 2 ^ 32 → T (small b) ↔ Within (of_bits binary32 b) 2 1
small_is b h = (
  λ t. bound← 0x4000_0000 1 (omega arith) two b h (leb→le (b % 2 ^ 31) 0x4000_0000 t),
  λ w. le→leb (b % 2 ^ 31) 0x4000_0000 (bound→ 0x4000_0000 1 (omega arith) two b h w),
)

pub small_no_nan : (b : ℕ) → T (small b) → T (not (nan_bits binary32 b))
small_no_nan b t = no_nan b (omega (arith, leb→le (b % 2 ^ 31) 0x4000_0000 t))

pub small_back : (b : ℕ) → b < 2 ^ 32 → T (small b) → to_bits binary32 (of_bits binary32 b) ≡ b
small_back b h t = to_bits-of_bits binary32 b h (real b (omega (arith, leb→le (b % 2 ^ 31) 0x4000_0000 t)))

-- ---- a weight: above 0 and at most 16
sign_of : (b : ℕ) → b < 2 ^ 32 → T (not (is_nan (of_bits binary32 b))) → b ≡ cond (sgn (of_bits binary32 b)) (2 ^ 31) 0 + b % 2 ^ 31
sign_of b h r =
    sym (to_bits-of_bits binary32 b h r) ∙ bits_are binary32 (of_bits binary32 b) r
    ∙ ap (λ (n : ℕ). cond (sgn (of_bits binary32 b)) (2 ^ 31) 0 + n) (size_of b h r)

nought : (n : ℕ) → n ≡ 0 → pack binary32 n ≡ 0
unfolding size span climb
nought n e = ap (pack binary32) e

positive : (x : Float) → sgn x ≡ false → T (not (is_nan x)) → (pack binary32 (key binary32 x) ≡ 0 → ⊥) → T (lt zero_f x)
unfolding lt is_nan key size
positive nan s r p = r
positive (inf true) s r p = absurd (true≢false s)
positive (inf false) s r p = tt
positive (fin true m e) s r p = absurd (true≢false s)
positive (fin false zero e) s r p =
    absurd (p (nought (0 * up e * 2 ^ low binary32 / down e) (ap (λ (n : ℕ). n * 2 ^ low binary32 / down e) (zero-mul (up e)) ∙ zero-div (down e))))
positive (fin false (suc m) e) s r p =
    lt→ltb (0 * 1 * down e) (suc m * up e * 1) (let g : 0 < suc m * up e = mul-pos (omega arith) (up_pos e) in let z : 0 * 1 * down e ≡ 0 = zero-mul (down e) in omega arith)

plus : (x : Float) → T (lt zero_f x) → Within x 16 1 → sgn x ≡ false
unfolding lt
plus nan t w = absurd w
plus (inf s) t w = absurd w
plus (fin true m e) t w = absurd t
plus (fin false m e) t w = refl

some : (n : ℕ) → T (lt zero_f (of_bits binary32 n)) → 0 < n
unfolding lt of_bits of_fields odd
some zero t = absurd t
some (suc n) t = omega arith

pub weighs_is : (b : ℕ) → b < 2 ^ 32 → T (weighs b) ↔ (T (lt zero_f (of_bits binary32 b)) × Within (of_bits binary32 b) 16 1)
weighs_is b h = (to, from)
  where
    clear : (s : Bool) → b < 2 ^ 31 → b ≡ cond s (2 ^ 31) 0 + b % 2 ^ 31 → s ≡ false
    clear true l e = absurd (omega arith)
    clear false l e = refl

    to : T (weighs b) → T (lt zero_f (of_bits binary32 b)) × Within (of_bits binary32 b) 16 1
    to t =
        let z : 0 < b = ltb→lt 0 b (and_l (ltb 0 b) (leb b 0x4180_0000) t) in
        let l : b ≤ 0x4180_0000 = leb→le b 0x4180_0000 (and_r (ltb 0 b) (leb b 0x4180_0000) t) in
        let r = real b (omega arith) in (
          positive (of_bits binary32 b) (clear (sgn (of_bits binary32 b)) (omega arith) (sign_of b h r)) r (λ p. omega (arith, size_of b h r)),
          bound← 0x4180_0000 4 (omega arith) sixteen b h (omega arith),
        )

    from : T (lt zero_f (of_bits binary32 b)) × Within (of_bits binary32 b) 16 1 → T (weighs b)
    from w =
        let r = within_real (of_bits binary32 b) 16 1 w.1 in
        let e : b ≡ b % 2 ^ 31 = sign_of b h r ∙ ap (λ (s : Bool). cond s (2 ^ 31) 0 + b % 2 ^ 31) (plus (of_bits binary32 b) w.0 w.1) ∙ omega arith in
        and_in (ltb 0 b) (leb b 0x4180_0000) (lt→ltb 0 b (some b w.0))
        (le→leb b 0x4180_0000 (omega (arith, bound→ 0x4180_0000 4 (omega arith) sixteen b h w.1)))

pub weighs_no_nan : (b : ℕ) → T (weighs b) → T (not (nan_bits binary32 b))
weighs_no_nan b t = no_nan b (omega (arith, leb→le b 0x4180_0000 (and_r (ltb 0 b) (leb b 0x4180_0000) t)))

pub weighs_back : (b : ℕ) → b < 2 ^ 32 → T (weighs b) → to_bits binary32 (of_bits binary32 b) ≡ b
weighs_back b h t = to_bits-of_bits binary32 b h (within_real (of_bits binary32 b) 16 1 ((weighs_is b h).0 t).1)
