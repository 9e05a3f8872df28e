-- What of a ring's laws rounding leaves: sums and products commute, a square has no sign, x - y and y - x have one square, and 0 and 1 are neutral. Assumes nothing.
use mathlib.Core.Path.{◌≡◌, refl, sym, ap, ◌∙◌}
use Prim.Native.Nat.{ℕ, zero, suc, ◌+◌, ◌-◌, ◌*◌, ◌^◌, ◌≤◌, ◌<◌}
use native.Mathlib.Nat.{add_comm, mul_comm, mul-one, zero-mul, add-zero}
use native.Mathlib.Omega.{arith}
use mathlib.Core.Bool.{Bool, true, false, not, ◌&&◌, beq, cond}
use lib.IntN.{ℤ, pos}
use lib.Dec.{T, ltb, eqb, ltb→lt, nltb→le}
use lib.Ieee.{Float, nan, inf, fin, Format, prec, emax, low, odd, units, up, down, round, sum, add, sub, neg, mul, fits, unlike}
use lib.Ieee.Fits.{round_is}
use Rattle.ieee.proofs.Self.{round_self}
use Rattle.ieee.proofs.Plus.{add-clear}
use Rattle.ieee.specs.Terms.{sq}

beq_comm : (s t : Bool) → beq s t ≡ beq t s
beq_comm true true = refl
beq_comm true false = refl
beq_comm false true = refl
beq_comm false false = refl

pub mul_commutes : (f : Format) (x y : Float) → mul f x y ≡ mul f y x
unfolding mul
mul_commutes f nan nan = refl
mul_commutes f nan (inf t) = refl
mul_commutes f nan (fin t n d) = refl
mul_commutes f (inf s) nan = refl
mul_commutes f (inf s) (inf t) = ap (λ (b : Bool). inf (not b)) (beq_comm s t)
mul_commutes f (inf s) (fin t n d) = ap (λ (b : Bool). cond (eqb n 0) nan (inf (not b))) (beq_comm s t)
mul_commutes f (fin s m e) nan = refl
mul_commutes f (fin s m e) (inf t) = ap (λ (b : Bool). cond (eqb m 0) nan (inf (not b))) (beq_comm s t)
mul_commutes f (fin s m e) (fin t n d) =
    ap (λ (b : Bool). round f (not b) (m * up e * (n * up d)) (down e * down d)) (beq_comm s t)
    ∙ ap (λ (z : ℕ). round f (unlike t s) z (down e * down d)) (mul_comm (m * up e) (n * up d))
    ∙ ap (λ (z : ℕ). round f (unlike t s) (n * up d * (m * up e)) z) (mul_comm (down e) (down d))

-- the two tests a < b and b < a are not both passed, and where neither is, a = b
both : (x y : ℕ) → x < y → y < x → ⊥
both x y g h = omega arith

level : (x y : ℕ) → y ≤ x → x ≤ y → x - y ≡ y - x
level x y g h = omega arith

apart : (f : Format) (s : Bool) (a b c : ℕ) → cond (ltb a b) (round f (not s) (b - a) c) (round f (s && ltb b a) (a - b) c) ≡ cond (ltb b a) (round f s (a - b) c) (round f (not s && ltb a b) (b - a) c)
apart f s a b c = by s (ltb a b) (ltb b a) (ltb→lt a b) (ltb→lt b a) (nltb→le a b) (nltb→le b a)
  where
    by : (s u v : Bool) → (T u → a < b) → (T v → b < a) → (T (not u) → b ≤ a) → (T (not v) → a ≤ b)
        → cond u (round f (not s) (b - a) c) (round f (s && v) (a - b) c) ≡ cond v (round f s (a - b) c) (round f (not s && u) (b - a) c)
    by s true true p q r t = absurd (both a b (p tt) (q tt))
    by true true false p q r t = refl
    by false true false p q r t = refl
    by true false true p q r t = refl
    by false false true p q r t = refl
    by true false false p q r t = ap (λ (z : ℕ). round f false z c) (level a b (r tt) (t tt))
    by false false false p q r t = ap (λ (z : ℕ). round f false z c) (level a b (r tt) (t tt))

sum_comm : (f : Format) (s : Bool) (a : ℕ) (t : Bool) (b c : ℕ) → sum f s a t b c ≡ sum f t b s a c
unfolding sum
sum_comm f true a true b c = ap (λ (z : ℕ). round f true z c) (add_comm a b)
sum_comm f true a false b c = apart f true a b c
sum_comm f false a true b c = apart f false a b c
sum_comm f false a false b c = ap (λ (z : ℕ). round f false z c) (add_comm a b)

pub add_commutes : (f : Format) (x y : Float) → add f x y ≡ add f y x
unfolding add
add_commutes f nan nan = refl
add_commutes f nan (inf t) = refl
add_commutes f nan (fin t n d) = refl
add_commutes f (inf s) nan = refl
add_commutes f (inf true) (inf true) = refl
add_commutes f (inf true) (inf false) = refl
add_commutes f (inf false) (inf true) = refl
add_commutes f (inf false) (inf false) = refl
add_commutes f (inf s) (fin t n d) = refl
add_commutes f (fin s m e) nan = refl
add_commutes f (fin s m e) (inf t) = refl
add_commutes f (fin s m e) (fin t n d) =
    sum_comm f s (m * up e * down d) t (n * up d * down e) (down e * down d)
    ∙ ap (λ (z : ℕ). sum f t (n * up d * down e) s (m * up e * down d) z) (mul_comm (down e) (down d))

pub square_neg : (f : Format) (x : Float) → mul f (neg x) (neg x) ≡ mul f x x
unfolding mul neg
square_neg f nan = refl
square_neg f (inf true) = refl
square_neg f (inf false) = refl
square_neg f (fin true m e) = refl
square_neg f (fin false m e) = refl

-- ---- neutral values
pub add-zero_f : (f : Format) (m : ℕ) (e : ℤ) → T (fits f (fin false m e)) → add f (fin false m e) (fin false 0 (pos 0)) ≡ fin false m e
add-zero_f f m e h = rw add-clear (simp (mul-one, zero-mul, add-zero) (round_self f false m e h))

pub mul_one_f : (f : Format) (x : Float) → T (fits f x) → mul f x (fin false 1 (pos 0)) ≡ x
mul_one_f f nan h = unfold mul in refl
mul_one_f f (inf true) h = unfold mul in refl
mul_one_f f (inf false) h = unfold mul in refl
mul_one_f f (fin true m e) h = unfold mul in simp mul-one (round_self f true m e h)
mul_one_f f (fin false m e) h = unfold mul in simp mul-one (round_self f false m e h)

-- ---- the square of a difference
pub odd-neg : (d : ℕ) (s : Bool) (q k l : ℕ) → odd d (not s) q k l ≡ neg (odd d s q k l)
unfolding odd neg
odd-neg d s zero k l = refl
odd-neg d s (suc q) k l = refl

units-neg : (f : Format) (s : Bool) (q k : ℕ) → units f (not s) q k ≡ neg (units f s q k)
unfolding units neg
units-neg f s q k = by (ltb (q * 2 ^ k) (2 ^ (low f + suc (emax f))))
  where
    by : (b : Bool) → cond b (odd (suc (prec f)) (not s) q k (low f)) (inf (not s)) ≡ neg (cond b (odd (suc (prec f)) s q k (low f)) (inf s))
    by true = odd-neg (suc (prec f)) s q k (low f)
    by false = refl

pub round-neg : (f : Format) (s : Bool) (a c : ℕ) → round f (not s) a c ≡ neg (round f s a c)
round-neg f s a c = round_is f (not s) a c ∙ units-neg f s _ _ ∙ ap neg (sym (round_is f s a c))

sq-round : (f : Format) (s t : Bool) (a c : ℕ) → sq f (round f s a c) ≡ sq f (round f t a c)
sq-round f true true a c = refl
sq-round f true false a c = ap (sq f) (round-neg f false a c) ∙ square_neg f (round f false a c)
sq-round f false true a c = ap (sq f) (round-neg f true a c) ∙ square_neg f (round f true a c)
sq-round f false false a c = refl

sq_apart : (f : Format) (s : Bool) (a b c : ℕ) → sq f (cond (ltb a b) (round f (not s) (b - a) c) (round f (s && ltb b a) (a - b) c)) ≡ sq f (cond (ltb b a) (round f (not s) (a - b) c) (round f (s && ltb a b) (b - a) c))
sq_apart f s a b c = by (ltb a b) (ltb b a) (ltb→lt a b) (ltb→lt b a) (nltb→le a b) (nltb→le b a)
  where
    by : (u v : Bool) → (T u → a < b) → (T v → b < a) → (T (not u) → b ≤ a) → (T (not v) → a ≤ b)
        → sq f (cond u (round f (not s) (b - a) c) (round f (s && v) (a - b) c)) ≡ sq f (cond v (round f (not s) (a - b) c) (round f (s && u) (b - a) c))
    by true true p q r t = absurd (both a b (p tt) (q tt))
    by true false p q r t = sq-round f (not s) (s && true) (b - a) c
    by false true p q r t = sq-round f (s && true) (not s) (a - b) c
    by false false p q r t = ap (λ (z : ℕ). sq f (round f (s && false) z c)) (level a b (r tt) (t tt))

sq-sum : (f : Format) (s : Bool) (a : ℕ) (t : Bool) (b c : ℕ) → sq f (sum f s a (not t) b c) ≡ sq f (sum f t b (not s) a c)
unfolding sum
sq-sum f true a true b c = sq_apart f true a b c
sq-sum f true a false b c = sq-round f true false (a + b) c ∙ ap (λ (z : ℕ). sq f (round f false z c)) (add_comm a b)
sq-sum f false a true b c = sq-round f false true (a + b) c ∙ ap (λ (z : ℕ). sq f (round f true z c)) (add_comm a b)
sq-sum f false a false b c = sq_apart f false a b c

sub-fin : (f : Format) (s : Bool) (m : ℕ) (e : ℤ) (t : Bool) (n : ℕ) (d : ℤ) → sub f (fin s m e) (fin t n d) ≡ sum f s (m * up e * down d) (not t) (n * up d * down e) (down e * down d)
unfolding sub
sub-fin f s m e t n d = refl

sub-inf : (f : Format) (s t : Bool) → sq f (sub f (inf s) (inf t)) ≡ sq f (sub f (inf t) (inf s))
unfolding sub mul
sub-inf f true true = refl
sub-inf f true false = refl
sub-inf f false true = refl
sub-inf f false false = refl

sub-one : (f : Format) (s t : Bool) (n : ℕ) (d : ℤ) → sq f (sub f (inf s) (fin t n d)) ≡ sq f (sub f (fin t n d) (inf s))
unfolding sub mul
sub-one f true t n d = refl
sub-one f false t n d = refl

pub sq-sub : (f : Format) (x y : Float) → sq f (sub f x y) ≡ sq f (sub f y x)
sq-sub f nan nan = refl
sq-sub f nan (inf t) = unfold sub mul in refl
sq-sub f nan (fin t n d) = unfold sub mul in refl
sq-sub f (inf s) nan = unfold sub mul in refl
sq-sub f (inf s) (inf t) = sub-inf f s t
sq-sub f (inf s) (fin t n d) = sub-one f s t n d
sq-sub f (fin s m e) nan = unfold sub mul in refl
sq-sub f (fin s m e) (inf t) = sym (sub-one f t s m e)
sq-sub f (fin s m e) (fin t n d) =
    ap (sq f) (sub-fin f s m e t n d)
    ∙ sq-sum f s (m * up e * down d) t (n * up d * down e) (down e * down d)
    ∙ ap (λ (z : ℕ). sq f (sum f t (n * up d * down e) (not s) (m * up e * down d) z)) (mul_comm (down e) (down d))
    ∙ ap (sq f) (sym (sub-fin f t n d s m e))
