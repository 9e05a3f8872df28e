-- `Within x k d`: x is finite, and its size is at most k / d. What an operation on such values keeps, by monotone rounding: a bound that the format holds (`Exact`) on the true result is a bound on the rounded one.
-- Assumes nothing.
use mathlib.Core.Path.{◌≡◌, sym, subst}
use Prim.Native.Nat.{ℕ, ◌+◌, ◌-◌, ◌*◌, ◌^◌, ◌≤◌, ◌<◌}
use native.Mathlib.Nat.{le_trans, le_of_eq, lt_of_lt_of_le, lt_irrefl, mul-one, one-mul, mul-pos, mul_assoc, mul_comm, mul_left_comm}
use native.Mathlib.Nat.{mul_right_comm, mul-le-mul, mul-le-mul_right, le_of_mul-le-mul_right, mul-mul-mul_comm, add-mul, add-le-add, le-add_right, le-add_left, sub-le}
use native.Mathlib.Omega.{arith}
use mathlib.Core.Bool.{Bool, true, false, ◌&&◌, beq, cond, true≢false}
use lib.IntN.{ℤ, pos}
use lib.Dec.{T, ltb, eqb, eqb→eq, lit<}
use lib.Pow.{pow_pos}
use lib.Ieee.{Float, nan, inf, fin, Format, prec, low, up, down, round, sum, add, sub, neg, mul, div, le, fits, unlike, of_int}
use lib.Ieee.Fits.{down_pos, round_is}
use lib.Ieee.Exact.{HasValue, units_val}
use lib.Ieee.Order.{transfer, round_mono, kept, drop}
use lib.Ieee.Positive.{first_pos, through}
use lib.Ieee.Scale.{grid, overflow, finite, round_val, round_under}
use lib.Ieee.Back.{round_whole}
use Rattle.ieee.proofs.Order.{le_fin→}
use Rattle.ieee.specs.Terms.{plus, Within, Exact, AtLeast}
use Rattle.ieee.proofs.Plus.{round-plus}
use Rattle.ieee.proofs.Self.{self}

-- ---- what is exact: a whole number up to 2 ^ prec, a value that fits, a closed fraction by computation
pub whole-exact : (f : Format) (n : ℕ) → n ≤ 2 ^ prec f → Exact f n 1
whole-exact f n h = record { above = lit< tt; exact = round_whole f false n h }

pub fits-exact : (f : Format) (s : Bool) (m : ℕ) (e : ℤ) → T (fits f (fin s m e)) → Exact f (m * up e) (down e)
fits-exact f s m e h = record { above = down_pos e; exact = self f s false m e h }

-- ---- a larger bound
pub wider : (x : Float) (k d l c : ℕ) → 0 < d → k * c ≤ l * d → Within x k d → Within x l c
wider nan k d l c D h w = w
wider (inf s) k d l c D h w = w
wider (fin s m e) k d l c D h w =
    le_of_mul-le-mul_right
    (le_trans (le_of_eq (mul_right_comm (m * up e) c d))
    (le_trans (mul-le-mul_right c w)
    (le_trans (le_of_eq (mul_right_comm k (down e) c))
    (le_trans (mul-le-mul_right (down e) h) (le_of_eq (mul_right_comm l d (down e)))))))
    D

-- ---- the one law of rounding
-- r is below a value R = k / d, so r is finite
below-finite : (r R : Float) (k d : ℕ) → HasValue R false k d → T (plus r) → T (le r R) → T (finite r)
below-finite nan R k d v p h = p
below-finite (inf true) R k d v p h = p
below-finite (inf false) nan k d v p h = absurd v
below-finite (inf false) (inf t) k d v p h = absurd v
below-finite (inf false) (fin t n g) k d v p h = absurd (unfold le in h)
below-finite (fin s m e) R k d v p h = tt

-- r = a / c ≤ R = k / d
cross : (r R : Float) (a c k d : ℕ) → HasValue r false a c → HasValue R false k d → T (le r R) → a * d ≤ k * c
cross nan R a c k d v w h = absurd v
cross (inf s) R a c k d v w h = absurd v
cross (fin true m e) R a c k d v w h = absurd (true≢false v.0)
cross (fin false m e) nan a c k d v w h = absurd w
cross (fin false m e) (inf t) a c k d v w h = absurd w
cross (fin false m e) (fin true n g) a c k d v w h = absurd (true≢false w.0)
cross (fin false m e) (fin false n g) a c k d v w h =
    transfer a k c d (m * up e) (n * up g) (down e) (down g) (down_pos e) (down_pos g) (sym v.1) (sym w.1) (le_fin→ false m e false n g h)

val→within : (x : Float) (s : Bool) (a c k d : ℕ) → 0 < c → HasValue x s a c → a * d ≤ k * c → Within x k d
val→within nan s a c k d C v h = absurd v
val→within (inf t) s a c k d C v h = absurd v
val→within (fin t m e) s a c k d C v h = wider (fin t m e) a c k d C h (le_of_eq v.1)

round-val_s : (f : Format) (s : Bool) (a c : ℕ) → grid f a c < overflow f → HasValue (round f s a c) s (grid f a c) (2 ^ low f)
round-val_s f s a c h = rw round_is (units_val f s (kept (prec f) (a * 2 ^ low f) c) (drop (prec f) (a * 2 ^ low f) c) h)

pub round-within : (f : Format) (s : Bool) (a c k d : ℕ) → 0 < c → Exact f k d → a * d ≤ k * c → Within (round f s a c) k d
round-within f s a c k d C E h =
    let r = round f false a c in
    let R = round f false k d in
    let l : T (le r R) = round_mono f a c k d C E.above h in
    let g : grid f a c < overflow f = round_under f a c (below-finite r R k d E.exact (round-plus f a c) l) in
    val→within (round f s a c) s (grid f a c) (2 ^ low f) k d (pow_pos (low f)) (round-val_s f s a c g)
    (cross r R (grid f a c) (2 ^ low f) k d (round_val f a c g) E.exact l)

pub cond-within : (b : Bool) (x y : Float) (k d : ℕ) → Within x k d → Within y k d → Within (cond b x y) k d
cond-within true x y k d p q = p
cond-within false x y k d p q = q

-- ---- the sum: |x| ≤ a / p and |y| ≤ b / q, and a / p + b / q ≤ k / d
sum-within : (f : Format) (s : Bool) (a : ℕ) (t : Bool) (b c k d : ℕ) → 0 < c → Exact f k d → (a + b) * d ≤ k * c → Within (sum f s a t b c) k d
unfolding sum
sum-within f s a t b c k d C E h =
    cond-within (beq s t) (round f s (a + b) c) (cond (ltb a b) (round f t (b - a) c) (round f (s && ltb b a) (a - b) c)) k d (round-within f s (a + b) c k d C E h)
    (cond-within (ltb a b) (round f t (b - a) c) (round f (s && ltb b a) (a - b) c) k d
    (round-within f t (b - a) c k d C E (le_trans (mul-le-mul_right d (le_trans (sub-le b a) (le-add_left b a))) h))
    (round-within f (s && ltb b a) (a - b) c k d C E (le_trans (mul-le-mul_right d (le_trans (sub-le a b) (le-add_right a b))) h)))

sum_cross : (X P Y Q a p b q k d : ℕ) → 0 < p → 0 < q → X * p ≤ a * P → Y * q ≤ b * Q → (a * q + b * p) * d ≤ k * (p * q) → (X * Q + Y * P) * d ≤ k * (P * Q)
sum_cross X P Y Q a p b q k d p0 q0 h g w =
    let l : (X * Q + Y * P) * (p * q) ≡ X * p * (Q * q) + Y * q * (P * p) = simp (add-mul, mul_assoc, mul_comm, mul_left_comm) in
    let r : a * P * (Q * q) + b * Q * (P * p) ≡ (a * q + b * p) * (P * Q) = simp (add-mul, mul_assoc, mul_comm, mul_left_comm) in
    through (X * Q + Y * P) (a * q + b * p) k (P * Q) (p * q) d (mul-pos p0 q0)
    (le_trans (le_of_eq l) (le_trans (add-le-add (mul-le-mul_right (Q * q) h) (mul-le-mul_right (P * p) g)) (le_of_eq r)))
    w

pub add-within : (f : Format) (x y : Float) (a p b q k d : ℕ) → 0 < p → 0 < q → Exact f k d → (a * q + b * p) * d ≤ k * (p * q) → Within x a p → Within y b q → Within (add f x y) k d
unfolding add
add-within f nan y a p b q k d p0 q0 E h v w = absurd v
add-within f (inf s) y a p b q k d p0 q0 E h v w = absurd v
add-within f (fin s m e) nan a p b q k d p0 q0 E h v w = absurd w
add-within f (fin s m e) (inf t) a p b q k d p0 q0 E h v w = absurd w
add-within f (fin s m e) (fin t n g) a p b q k d p0 q0 E h v w =
    sum-within f s (m * up e * down g) t (n * up g * down e) (down e * down g) k d (mul-pos (down_pos e) (down_pos g)) E
    (sum_cross (m * up e) (down e) (n * up g) (down g) a p b q k d p0 q0 v w h)

pub neg-within : (x : Float) (k d : ℕ) → Within x k d → Within (neg x) k d
unfolding neg
neg-within nan k d w = w
neg-within (inf s) k d w = w
neg-within (fin s m e) k d w = w

pub sub_within : (f : Format) (x y : Float) (a p b q k d : ℕ) → 0 < p → 0 < q → Exact f k d → (a * q + b * p) * d ≤ k * (p * q) → Within x a p → Within y b q → Within (sub f x y) k d
unfolding sub
sub_within f x y a p b q k d p0 q0 E h v w = add-within f x (neg y) a p b q k d p0 q0 E h v (neg-within y b q w)

-- ---- the product: a / p * (b / q) ≤ k / d
product_cross : (X P Y Q a p b q k d : ℕ) → 0 < p → 0 < q → X * p ≤ a * P → Y * q ≤ b * Q → a * b * d ≤ k * (p * q) → X * Y * d ≤ k * (P * Q)
product_cross X P Y Q a p b q k d p0 q0 h g w =
    through (X * Y) (a * b) k (P * Q) (p * q) d (mul-pos p0 q0)
    (le_trans (le_of_eq (mul-mul-mul_comm X Y p q)) (le_trans (mul-le-mul h g) (le_of_eq (mul-mul-mul_comm a P b Q))))
    w

pub mul-within : (f : Format) (x y : Float) (a p b q k d : ℕ) → 0 < p → 0 < q → Exact f k d → a * b * d ≤ k * (p * q) → Within x a p → Within y b q → Within (mul f x y) k d
unfolding mul
mul-within f nan y a p b q k d p0 q0 E h v w = absurd v
mul-within f (inf s) y a p b q k d p0 q0 E h v w = absurd v
mul-within f (fin s m e) nan a p b q k d p0 q0 E h v w = absurd w
mul-within f (fin s m e) (inf t) a p b q k d p0 q0 E h v w = absurd w
mul-within f (fin s m e) (fin t n g) a p b q k d p0 q0 E h v w =
    round-within f (unlike s t) (m * up e * (n * up g)) (down e * down g) k d (mul-pos (down_pos e) (down_pos g)) E
    (product_cross (m * up e) (down e) (n * up g) (down g) a p b q k d p0 q0 v w h)

-- ---- the quotient, by a value of size b / q at least
quotient_cross : (X P Y Q a p b q k d : ℕ) → 0 < p → 0 < b → X * p ≤ a * P → b * Q ≤ Y * q → a * q * d ≤ k * (p * b) → X * Q * d ≤ k * (Y * P)
quotient_cross X P Y Q a p b q k d p0 b0 h g w =
    let l : X * Q * (p * b) ≡ X * p * (b * Q) = simp (mul_assoc, mul_comm, mul_left_comm) in
    let r : a * P * (Y * q) ≡ a * q * (Y * P) = simp (mul_assoc, mul_comm, mul_left_comm) in
    through (X * Q) (a * q) k (Y * P) (p * b) d (mul-pos p0 b0)
    (le_trans (le_of_eq l) (le_trans (mul-le-mul h g) (le_of_eq r)))
    w

-- b / q above 0, so Y is
not_none : (Y Q b q : ℕ) → 0 < b → 0 < Q → b * Q ≤ Y * q → 0 < Y
not_none Y Q b q b0 Q0 g = first_pos Y q (lt_of_lt_of_le (mul-pos b0 Q0) g)

pub div-within : (f : Format) (x y : Float) (a p b q k d : ℕ) → 0 < p → 0 < b → Exact f k d → a * q * d ≤ k * (p * b) → Within x a p → AtLeast y b q → Within (div f x y) k d
unfolding div
div-within f nan y a p b q k d p0 b0 E h v w = absurd v
div-within f (inf s) y a p b q k d p0 b0 E h v w = absurd v
div-within f (fin s m e) nan a p b q k d p0 b0 E h v w = absurd w
div-within f (fin s m e) (inf t) a p b q k d p0 b0 E h v w = absurd w
div-within f (fin s m e) (fin t n g) a p b q k d p0 b0 E h v w =
    let y0 : 0 < n * up g = not_none (n * up g) (down g) b q b0 (down_pos g) w in
    no (eqb n 0) (eqb→eq n 0) (first_pos n (up g) y0)
    (round-within f (unlike s t) (m * up e * down g) (n * up g * down e) k d (mul-pos y0 (down_pos e)) E
    (quotient_cross (m * up e) (down e) (n * up g) (down g) a p b q k d p0 b0 v w h))
  where
    no : (z : Bool) → (T z → n ≡ 0) → 0 < n → Within (round f (unlike s t) (m * up e * down g) (n * up g * down e)) k d
        → Within (cond z (cond (eqb m 0) nan (inf (unlike s t))) (round f (unlike s t) (m * up e * down g) (n * up g * down e))) k d
    no true e0 n0 r = absurd (lt_irrefl 0 (subst (λ (i : ℕ). 0 < i) (e0 tt) n0))
    no false e0 n0 r = r

-- ---- a value that is a / c exactly
pub value-within : (x : Float) (s : Bool) (a c : ℕ) → HasValue x s a c → Within x a c
value-within nan s a c v = v
value-within (inf t) s a c v = v
value-within (fin t m e) s a c v = le_of_eq v.1

pub value_at-least : (x : Float) (s : Bool) (a c : ℕ) → HasValue x s a c → AtLeast x a c
value_at-least nan s a c v = v
value_at-least (inf t) s a c v = v
value_at-least (fin t m e) s a c v = le_of_eq (sym v.1)

pub int_value : (f : Format) (n : ℕ) → n ≤ 2 ^ prec f → HasValue (of_int f (pos n)) false n 1
unfolding of_int
int_value f n h = round_whole f false n h

-- ---- whole bounds
one_each : (a b : ℕ) → (a * 1 + b * 1) * 1 ≤ (a + b) * (1 * 1)
one_each a b = omega arith

pub add-whole : (f : Format) (x y : Float) (a b : ℕ) → a + b ≤ 2 ^ prec f → Within x a 1 → Within y b 1 → Within (add f x y) (a + b) 1
add-whole f x y a b h = add-within f x y a 1 b 1 (a + b) 1 (lit< tt) (lit< tt) (whole-exact f (a + b) h) (one_each a b)

pub sub-whole : (f : Format) (x y : Float) (a b : ℕ) → a + b ≤ 2 ^ prec f → Within x a 1 → Within y b 1 → Within (sub f x y) (a + b) 1
sub-whole f x y a b h = sub_within f x y a 1 b 1 (a + b) 1 (lit< tt) (lit< tt) (whole-exact f (a + b) h) (one_each a b)

pub mul-whole : (f : Format) (x y : Float) (a b : ℕ) → a * b ≤ 2 ^ prec f → Within x a 1 → Within y b 1 → Within (mul f x y) (a * b) 1
mul-whole f x y a b h = mul-within f x y a 1 b 1 (a * b) 1 (lit< tt) (lit< tt) (whole-exact f (a * b) h) (omega arith)

pub div-whole : (f : Format) (x : Float) (k n : ℕ) → 0 < n → n ≤ 2 ^ prec f → k ≤ 2 ^ prec f → Within x (k * n) 1 → Within (div f x (of_int f (pos n))) k 1
div-whole f x k n n0 h g w =
    div-within f x (of_int f (pos n)) (k * n) 1 n 1 k 1 (lit< tt) n0 (whole-exact f k g) (le_of_eq (simp (mul-one, one-mul))) w
    (value_at-least (of_int f (pos n)) false n 1 (int_value f n h))
