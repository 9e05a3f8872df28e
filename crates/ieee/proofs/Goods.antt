-- What gives a value that the format holds, no `nan`, with the sign clear (`Good`): squares, sums, products with a factor above 0, quotients rounded. Assumes nothing.
use Prim.Native.Nat.{ℕ, zero, suc, ◌+◌, ◌-◌, ◌*◌, ◌^◌, ◌≤◌, ◌<◌}
use mathlib.Core.Path.{◌≡◌, subst, subst⁻¹}
use mathlib.Core.Bool.{Bool, true, false, not, ◌&&◌, cond, beq}
use native.Mathlib.Omega.{arith}
use lib.Dec.{T, ltb, eqb, ltb→lt, le→leb}
use lib.IntN.{pos}
use lib.Ieee.{Float, nan, inf, fin, Format, prec, emax, low, odd, units, round, neg, sum, add, sub, mul, of_int, in_float, is_nan}
use lib.Ieee.Fits.{add-fits, mul-fits, inf-fits, round-fits, round_is}
use lib.Ieee.Scale.{finite}
use lib.Ieee.Positive.{positive, positive_of_value}
use lib.Ieee.Back.{round_whole}
use borrow.Author.Tests.{ne_eqb}
use Rattle.ieee.specs.Terms.{plus, Good}
use Rattle.ieee.proofs.Plus.{round-plus, add-plus, square_plus}
use Rattle.ieee.proofs.Rings.{mul_commutes}

-- ---- no `nan`
units-real : (f : Format) (s : Bool) (q k : ℕ) → T (not (is_nan (units f s q k)))
unfolding units
units-real f s q k = by (ltb (q * 2 ^ k) (2 ^ (low f + suc (emax f))))
  where
    digits : (d q k l : ℕ) → T (not (is_nan (odd d s q k l)))
    digits d zero k l = unfold odd is_nan in tt
    digits d (suc q) k l = unfold odd is_nan in tt

    by : (b : Bool) → T (not (is_nan (cond b (odd (suc (prec f)) s q k (low f)) (inf s))))
    by true = digits (suc (prec f)) q k (low f)
    by false = unfold is_nan in tt

pub round-real : (f : Format) (s : Bool) (a c : ℕ) → T (not (is_nan (round f s a c)))
round-real f s a c = rw round_is (units-real f s _ _)

cond-real : (b : Bool) (x y : Float) → T (not (is_nan x)) → T (not (is_nan y)) → T (not (is_nan (cond b x y)))
cond-real true x y p q = p
cond-real false x y p q = q

sum-real : (f : Format) (s : Bool) (a : ℕ) (t : Bool) (b c : ℕ) → T (not (is_nan (sum f s a t b c)))
unfolding sum
sum-real f s a t b c =
    cond-real (beq s t) _ _ (round-real f s (a + b) c) (cond-real (ltb a b) _ _ (round-real f t (b - a) c) (round-real f (s && ltb b a) (a - b) c))

pub add-real : (f : Format) (x y : Float) → T (finite x) → T (finite y) → T (not (is_nan (add f x y)))
unfolding add
add-real f nan y p q = absurd p
add-real f (inf s) y p q = absurd p
add-real f (fin s m e) nan p q = absurd q
add-real f (fin s m e) (inf t) p q = absurd q
add-real f (fin s m e) (fin t n d) p q = sum-real f s _ t _ _

neg-finite : (x : Float) → T (finite x) → T (finite (neg x))
unfolding neg
neg-finite nan p = p
neg-finite (inf s) p = p
neg-finite (fin s m e) p = p

pub sub-real : (f : Format) (x y : Float) → T (finite x) → T (finite y) → T (not (is_nan (sub f x y)))
unfolding sub
sub-real f x y p q = add-real f x (neg y) p (neg-finite y q)

-- ---- a factor that is finite and above 0
no_nan : (m : ℕ) → T (ltb 0 m) → T (plus (cond (eqb m 0) nan (inf false)))
no_nan m p = subst⁻¹ (λ (b : Bool). T (plus (cond b nan (inf false)))) (ne_eqb m 0 (λ (e : m ≡ 0). above m (ltb→lt 0 m p) e)) tt
  where
    above : (m : ℕ) → 0 < m → m ≡ 0 → ⊥
    above m h e = omega arith

pub scaled_plus : (f : Format) (x y : Float) → T (positive x) → T (plus y) → T (plus (mul f x y))
unfolding mul
scaled_plus f nan y p q = absurd p
scaled_plus f (inf s) y p q = absurd p
scaled_plus f (fin true m e) y p q = absurd p
scaled_plus f (fin false m e) nan p q = absurd q
scaled_plus f (fin false m e) (inf true) p q = absurd q
scaled_plus f (fin false m e) (inf false) p q = no_nan m p
scaled_plus f (fin false m e) (fin true n d) p q = absurd q
scaled_plus f (fin false m e) (fin false n d) p q = round-plus f _ _

module _ (f : Format) where
  pub square_good : (x : Float) → T (not (is_nan x)) → Good f (mul f x x)
  square_good x p = record { fit = mul-fits f x x; pos = square_plus f x p }

  pub add-good : (x y : Float) → Good f x → Good f y → Good f (add f x y)
  add-good x y p q = record { fit = add-fits f x y; pos = add-plus f x y p.pos q.pos }

  pub scaled_good : (x y : Float) → T (positive x) → Good f y → Good f (mul f x y)
  scaled_good x y p q = record { fit = mul-fits f x y; pos = scaled_plus f x y p q.pos }

  pub times-good : (x y : Float) → Good f x → T (positive y) → Good f (mul f x y)
  times-good x y p q = subst (Good f) (mul_commutes f y x) (scaled_good y x q p)

  pub inf-good : Good f (inf false)
  inf-good = record { fit = inf-fits f false; pos = tt }

  pub round-good : (a c : ℕ) → Good f (round f false a c)
  round-good a c = record { fit = round-fits f false a c; pos = round-plus f a c }

  pub whole-good : (n : ℕ) → Good f (of_int f (pos n))
  unfolding of_int
  whole-good n = round-good n 1

  -- a whole number that the format holds: above 0 as a value, and a cast that loses nothing
  pub count-positive : (n : ℕ) → 1 ≤ n → n ≤ 2 ^ prec f → T (positive (of_int f (pos n)))
  unfolding of_int
  count-positive n a b = positive_of_value (round f false n 1) n 1 (round_whole f false n b) a

  pub count-exact : (n : ℕ) → n ≤ 2 ^ prec f → T (in_float f (pos n))
  unfolding in_float
  count-exact n h = le→leb n (2 ^ prec f) h
