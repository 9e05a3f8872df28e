-- The values whose sign is clear and that are no `nan`: what `add`, `mul` and a square keep; and a rounded sum of two of them is no smaller than either. Assumes nothing.
use mathlib.Core.Path.{◌≡◌, refl}
use Prim.Native.Nat.{ℕ, suc, ◌+◌, ◌*◌, ◌^◌, ◌≤◌}
use native.Mathlib.Nat.{le_trans, le_of_eq, mul-pos, mul_assoc, mul_comm, mul-le-mul_right, le-add_right}
use mathlib.Core.Bool.{Bool, true, false, not, cond, true≢false}
use lib.IntN.{ℤ}
use lib.Dec.{T, ltb}
use lib.Ieee.{Float, nan, inf, fin, Format, prec, emax, low, up, down, odd, units, round, sum, add, mul, le, fits, is_nan}
use lib.Ieee.Fits.{down_pos, round_is}
use lib.Ieee.Exact.{HasValue, odd_sign}
use lib.Ieee.Order.{le_of_values, round_mono}
use Rattle.ieee.proofs.Order.{trans}
use Rattle.ieee.proofs.Self.{self}
use Rattle.ieee.specs.Terms.{plus}

pub value-plus : (x : Float) (a c : ℕ) → HasValue x false a c → T (plus x)
value-plus nan a c v = absurd v
value-plus (inf s) a c v = absurd v
value-plus (fin true m e) a c v = absurd (true≢false v.0)
value-plus (fin false m e) a c v = tt

units-plus : (f : Format) (q k : ℕ) → T (plus (units f false q k))
unfolding units
units-plus f q k = by (ltb (q * 2 ^ k) (2 ^ (low f + suc (emax f))))
  where
    by : (b : Bool) → T (plus (cond b (odd (suc (prec f)) false q k (low f)) (inf false)))
    by true = value-plus (odd (suc (prec f)) false q k (low f)) (q * 2 ^ k) (2 ^ low f) (odd_sign (suc (prec f)) false q k (low f))
    by false = tt

pub round-plus : (f : Format) (a c : ℕ) → T (plus (round f false a c))
round-plus f a c = rw round_is (units-plus f _ _)

-- ---- what keeps the sign clear
pub add-plus : (f : Format) (x y : Float) → T (plus x) → T (plus y) → T (plus (add f x y))
unfolding add sum
add-plus f nan y p q = absurd p
add-plus f (inf true) y p q = absurd p
add-plus f (inf false) nan p q = absurd q
add-plus f (inf false) (inf true) p q = absurd q
add-plus f (inf false) (inf false) p q = tt
add-plus f (inf false) (fin t n d) p q = tt
add-plus f (fin true m e) y p q = absurd p
add-plus f (fin false m e) nan p q = absurd q
add-plus f (fin false m e) (inf t) p q = q
add-plus f (fin false m e) (fin true n d) p q = absurd q
add-plus f (fin false m e) (fin false n d) p q = round-plus f (m * up e * down d + n * up d * down e) (down e * down d)

-- a product of finite values; 0 times an infinity is a nan
pub mul-plus : (f : Format) (m : ℕ) (e : ℤ) (n : ℕ) (d : ℤ) (s : Bool) → T (plus (mul f (fin s m e) (fin s n d)))
unfolding mul
mul-plus f m e n d true = round-plus f (m * up e * (n * up d)) (down e * down d)
mul-plus f m e n d false = round-plus f (m * up e * (n * up d)) (down e * down d)

pub square_plus : (f : Format) (x : Float) → T (not (is_nan x)) → T (plus (mul f x x))
square_plus f nan h = absurd (unfold is_nan in h)
square_plus f (inf true) h = unfold mul in tt
square_plus f (inf false) h = unfold mul in tt
square_plus f (fin s m e) h = mul-plus f m e m e s

-- ---- a sum is no smaller than what it adds to
more : (a b p q : ℕ) → a * (p * q) ≤ (a * q + b * p) * p
more a b p q = le_trans (le_of_eq (simp (mul_assoc, mul_comm))) (mul-le-mul_right p (le-add_right (a * q) (b * p)))

pub add-clear : (f : Format) (m : ℕ) (e : ℤ) (n : ℕ) (d : ℤ) → add f (fin false m e) (fin false n d) ≡ round f false (m * up e * down d + n * up d * down e) (down e * down d)
unfolding add sum
add-clear f m e n d = refl

pub le-add : (f : Format) (x y : Float) → T (fits f x) → T (plus x) → T (plus y) → T (le x (add f x y))
le-add f nan y h p q = absurd p
le-add f (inf true) y h p q = absurd p
le-add f (inf false) nan h p q = absurd q
le-add f (inf false) (inf true) h p q = absurd q
le-add f (inf false) (inf false) h p q = unfold add le in tt
le-add f (inf false) (fin t n d) h p q = unfold add le in tt
le-add f (fin true m e) y h p q = absurd p
le-add f (fin false m e) nan h p q = absurd q
le-add f (fin false m e) (inf true) h p q = absurd q
le-add f (fin false m e) (inf false) h p q = unfold add le in tt
le-add f (fin false m e) (fin true n d) h p q = absurd q
le-add f (fin false m e) (fin false n d) h p q =
    let a = m * up e in
    let c = down e in
    let r = round f false a c in
    trans (fin false m e) r (add f (fin false m e) (fin false n d))
    (le_of_values (fin false m e) r a c a c (down_pos e) (down_pos e) (refl, refl) (self f false false m e h) (le_of_eq refl))
    (rw add-clear (round_mono f a c (a * down d + n * up d * c) (c * down d) (down_pos e) (mul-pos (down_pos e) (down_pos d)) (more a (n * up d) c (down d))))

pub plus-real : (x : Float) → T (plus x) → T (not (is_nan x))
unfolding is_nan
plus-real nan h = h
plus-real (inf s) h = tt
plus-real (fin s m e) h = tt
