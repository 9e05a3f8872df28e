-- Bounds from tests, bounds as tests, and closer bounds where signs are known. Assumes nothing.
use mathlib.Core.Path.{◌≡◌, sym, ap, ◌∙◌, subst}
use mathlib.Core.Logic.{inl, inr}
use Prim.Native.Nat.{ℕ, ◌+◌, ◌-◌, ◌*◌, ◌^◌, ◌≤◌, ◌<◌, zero-le}
use native.Mathlib.Nat.{le_trans, le_of_eq, zero-mul, mul-zero, mul-one, one-mul, mul-pos, mul_comm, mul_assoc, mul_right_comm, mul-le-mul_right, sub-le, add-mul}
use mathlib.Core.Bool.{true, false, not}
use lib.Dec.{T, ltb, lit<}
use lib.Ieee.{Float, nan, inf, fin, Format, prec, up, down, round, sum, add, sub, mul, le, lt, is_nan}
use lib.Ieee.Fits.{down_pos}
use lib.Ieee.Positive.{through}
use Rattle.ieee.proofs.Order.{factor_zero, zero-times, le_fin→}
use Rattle.ieee.proofs.Total.{not_lt→le}
use Rattle.ieee.specs.Terms.{plus, zero_f, Minus0, Within, AtLeast, Exact}
use Rattle.ieee.proofs.Plus.{mul-plus}
use Rattle.ieee.proofs.NonNeg.{nonneg_split, plus→nonneg, null→nonneg}
use Rattle.ieee.proofs.Within.{whole-exact, cond-within, round-within, mul-within, add-whole}

pub within_real : (x : Float) (k d : ℕ) → Within x k d → T (not (is_nan x))
unfolding is_nan
within_real nan k d w = absurd w
within_real (inf s) k d w = absurd w
within_real (fin s m e) k d w = tt

-- ---- between two values of size k / d at most
zero-within : (a c k d : ℕ) → 0 < c → a * c ≡ 0 → a * d ≤ k
zero-within a c k d C e = le_trans (le_of_eq (zero-times a d (factor_zero a c C (le_of_eq e)))) zero-le

pub between : (lo x hi : Float) (k d : ℕ) → Within lo k d → Within hi k d → T (le lo x) → T (le x hi) → Within x k d
between lo nan hi k d v w h g = absurd (unfold le in g)
between nan (inf true) hi k d v w h g = absurd v
between (inf s) (inf true) hi k d v w h g = absurd v
between (fin s m e) (inf true) hi k d v w h g = absurd (unfold le in h)
between lo (inf false) nan k d v w h g = absurd w
between lo (inf false) (inf t) k d v w h g = absurd w
between lo (inf false) (fin t n b) k d v w h g = absurd (unfold le in g)
between lo (fin false m e) nan k d v w h g = absurd w
between lo (fin false m e) (inf t) k d v w h g = absurd w
between lo (fin false m e) (fin false n b) k d v w h g = through (m * up e) (n * up b) k (down e) (down b) d (down_pos b) (le_fin→ false m e false n b g) w
between lo (fin false m e) (fin true n b) k d v w h g = zero-within (m * up e) (down b) (k * down e) d (down_pos b) (le_fin→ false m e true n b g).0
between nan (fin true m e) hi k d v w h g = absurd v
between (inf s) (fin true m e) hi k d v w h g = absurd v
between (fin false n b) (fin true m e) hi k d v w h g = zero-within (m * up e) (down b) (k * down e) d (down_pos b) (le_fin→ false n b true m e h).1
between (fin true n b) (fin true m e) hi k d v w h g = through (m * up e) (n * up b) k (down e) (down b) d (down_pos b) (le_fin→ true n b true m e h) v

-- what a clamp's two failed tests leave
pub clamped : (lo x hi : Float) (k d : ℕ) → Within lo k d → Within hi k d → T (not (is_nan x)) → T (not (lt x lo)) → T (not (lt hi x)) → Within x k d
clamped lo x hi k d v w r h g = between lo x hi k d v w (not_lt→le x lo r (within_real lo k d v) h) (not_lt→le hi x (within_real hi k d w) r g)

-- ---- the difference of two values whose signs are clear is no larger than the larger
sum_apart : (f : Format) (a b c k d : ℕ) → 0 < c → Exact f k d → a * d ≤ k * c → b * d ≤ k * c → Within (sum f false a true b c) k d
unfolding sum
sum_apart f a b c k d C E h g =
    cond-within (ltb a b) (round f true (b - a) c) (round f false (a - b) c) k d
    (round-within f true (b - a) c k d C E (le_trans (mul-le-mul_right d (sub-le b a)) g))
    (round-within f false (a - b) c k d C E (le_trans (mul-le-mul_right d (sub-le a b)) h))

scale : (x d k p q : ℕ) → x * d ≤ k * p → x * q * d ≤ k * (p * q)
scale x d k p q h = le_trans (le_of_eq (mul_right_comm x q d)) (le_trans (mul-le-mul_right q h) (le_of_eq (mul_assoc k p q)))

scale_turned : (x d k p q : ℕ) → x * d ≤ k * p → x * q * d ≤ k * (q * p)
scale_turned x d k p q h = subst (λ (z : ℕ). x * q * d ≤ k * z) (mul_comm p q) (scale x d k p q h)

pub sub-plus-within : (f : Format) (x y : Float) (k d : ℕ) → Exact f k d → T (plus x) → T (plus y) → Within x k d → Within y k d → Within (sub f x y) k d
unfolding sub
sub-plus-within f nan y k d E p q v w = absurd p
sub-plus-within f (inf s) y k d E p q v w = absurd v
sub-plus-within f (fin true m e) y k d E p q v w = absurd p
sub-plus-within f (fin false m e) nan k d E p q v w = absurd q
sub-plus-within f (fin false m e) (inf t) k d E p q v w = absurd w
sub-plus-within f (fin false m e) (fin true n b) k d E p q v w = absurd q
sub-plus-within f (fin false m e) (fin false n b) k d E p q v w =
    sum_apart f (m * up e * down b) (n * up b * down e) (down e * down b) k d (mul-pos (down_pos e) (down_pos b)) E
    (scale (m * up e) d k (down e) (down b) v) (scale_turned (n * up b) d k (down b) (down e) w)

-- ---- a lower bound from a test: what is not below a value of size b / q, above 0, has that size at least
pub at_least : (lo y : Float) (k d b q : ℕ) → T (plus lo) → AtLeast lo b q → Within y k d → T (le lo y) → T (plus y) → AtLeast y b q
at_least nan y k d b q p a w h r = absurd p
at_least (inf s) y k d b q p a w h r = absurd a
at_least (fin true n g) y k d b q p a w h r = absurd p
at_least (fin false n g) nan k d b q p a w h r = absurd w
at_least (fin false n g) (inf t) k d b q p a w h r = absurd w
at_least (fin false n g) (fin true m e) k d b q p a w h r = absurd r
at_least (fin false n g) (fin false m e) k d b q p a w h r =
    through b (n * up g) (m * up e) q (down g) (down e) (down_pos g) a (le_fin→ false n g false m e h)

-- ---- a product of values that are not below zero is not
pub mul_nonneg : (f : Format) (x y : Float) (a p b q : ℕ) → 0 < p → 0 < q → Within x a p → Within y b q → T (le zero_f x) → T (le zero_f y) → T (le zero_f (mul f x y))
mul_nonneg f x y a p b q p0 q0 v w h g =
    elim (nonneg_split x h) [
      | inl s ↦
          elim (nonneg_split y g) [
            | inl t ↦ plus→nonneg (mul f x y) (both x y s t v w)
            | inr t ↦ null→nonneg (mul f x y) (mul-within f x y a p 0 1 0 1 p0 (lit< tt) (whole-exact f 0 zero-le) (le_of_eq (mul-one (a * 0) ∙ mul-zero a ∙ sym (zero-mul (p * 1)))) v (no_size y t))
          ]
      | inr s ↦ null→nonneg (mul f x y) (mul-within f x y 0 1 b q 0 1 (lit< tt) q0 (whole-exact f 0 zero-le) (le_of_eq (mul-one (0 * b) ∙ zero-mul b ∙ sym (zero-mul (1 * q)))) (no_size x s) w)
    ]
  where
    no_size : (z : Float) → Minus0 z → Within z 0 1
    no_size nan m = m
    no_size (inf u) m = m
    no_size (fin u n d) m = le_trans (le_of_eq (mul-one (n * up d) ∙ m.1)) zero-le

    both : (z u : Float) → T (plus z) → T (plus u) → Within z a p → Within u b q → T (plus (mul f z u))
    both nan u i j k l = absurd i
    both (inf c) u i j k l = absurd k
    both (fin true n d) u i j k l = absurd i
    both (fin false n d) nan i j k l = absurd j
    both (fin false n d) (inf c) i j k l = absurd l
    both (fin false n d) (fin true m e) i j k l = absurd j
    both (fin false n d) (fin false m e) i j k l = mul-plus f n d m e false

-- ---- a running sum: after n terms of size k at most it is n * k at most
pub run : (f : Format) (s x : Float) (n k : ℕ) → (n + 1) * k ≤ 2 ^ prec f → Within s (n * k) 1 → Within x k 1 → Within (add f s x) ((n + 1) * k) 1
run f s x n k h v w = subst (λ (z : ℕ). Within (add f s x) z 1) (sym e) (add-whole f s x (n * k) k (subst (λ (z : ℕ). z ≤ 2 ^ prec f) e h) v w)
  where
    e : (n + 1) * k ≡ n * k + k
    e = add-mul n 1 k ∙ ap (λ (z : ℕ). n * k + z) (one-mul k)
