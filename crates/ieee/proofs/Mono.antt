-- Rounding keeps the order at either sign, and so a sum and a difference of finite values grow with the first operand. Assumes nothing.
use mathlib.Core.Path.{◌≡◌, refl, sym, ap, ◌∙◌, subst}
use Prim.Native.Nat.{ℕ, ◌+◌, ◌-◌, ◌*◌, ◌≤◌, ◌<◌, zero-le}
use native.Mathlib.Nat.{le_trans, le_of_eq, zero-mul, mul-pos, mul_assoc, mul_left_comm, mul-le-mul_right, add-mul}
use native.Mathlib.Omega.{arith}
use mathlib.Core.Bool.{Bool, true, false, not, ◌&&◌, beq, cond}
use lib.IntN.{ℤ, pos}
use lib.Dec.{T, ltb, ltb→lt, nltb→le}
use lib.Ieee.{Float, nan, inf, fin, Format, up, down, round, sum, add, neg, le}
use lib.Ieee.Fits.{down_pos}
use lib.Ieee.Order.{round_mono}
use lib.Ieee.Scale.{finite}
use Rattle.ieee.proofs.Order.{factor_zero, Sle, le_fin→, le_fin←, trans}
use Rattle.ieee.proofs.Plus.{round-plus}
use Rattle.ieee.specs.Terms.{zero_f}
use Rattle.ieee.proofs.NonNeg.{plus→nonneg, null→nonneg}
use Rattle.ieee.proofs.Within.{whole-exact, round-within}
use Rattle.ieee.proofs.Rings.{round-neg}

-- ---- the order turned round
flip : (s : Bool) (a : ℕ) (t : Bool) (b : ℕ) → Sle s a t b → Sle (not t) b (not s) a
flip false a false b h = h
flip false a true b h = (h.1, h.0)
flip true a false b h = tt
flip true a true b h = h

pub neg_anti : (x y : Float) → T (le x y) → T (le (neg y) (neg x))
unfolding neg
neg_anti nan y h = absurd (unfold le in h)
neg_anti (inf s) nan h = absurd (unfold le in h)
neg_anti (inf true) (inf true) h = unfold le in tt
neg_anti (inf true) (inf false) h = unfold le in tt
neg_anti (inf false) (inf true) h = absurd (unfold le in h)
neg_anti (inf false) (inf false) h = unfold le in tt
neg_anti (inf true) (fin t n d) h = unfold le in tt
neg_anti (inf false) (fin t n d) h = absurd (unfold le in h)
neg_anti (fin s m e) nan h = absurd (unfold le in h)
neg_anti (fin s m e) (inf true) h = absurd (unfold le in h)
neg_anti (fin s m e) (inf false) h = unfold le in tt
neg_anti (fin s m e) (fin t n d) h = le_fin← (not t) n d (not s) m e (flip s (m * up e * down d) t (n * up d * down e) (le_fin→ s m e t n d h))

-- ---- rounding, at either sign
null : (f : Format) (s : Bool) (a b : ℕ) → 0 < b → a ≡ 0 → T (le zero_f (round f s a b))
null f s a b B z = null→nonneg (round f s a b) (round-within f s a b 0 1 B (whole-exact f 0 zero-le) (omega arith))

pub round_mono± : (f : Format) (s : Bool) (a b : ℕ) (t : Bool) (c d : ℕ) → 0 < b → 0 < d → Sle s (a * d) t (c * b) → T (le (round f s a b) (round f t c d))
round_mono± f false a b false c d B D h = round_mono f a b c d B D h
round_mono± f true a b true c d B D h =
    subst (λ (z : Float). T (le z (round f true c d))) (sym (round-neg f false a b))
    (subst (λ (z : Float). T (le (neg (round f false a b)) z)) (sym (round-neg f false c d)) (neg_anti (round f false c d) (round f false a b) (round_mono f c d a b D B h)))
round_mono± f true a b false c d B D h =
    trans (round f true a b) (neg zero_f) (round f false c d)
    (subst (λ (z : Float). T (le z (neg zero_f))) (sym (round-neg f false a b)) (neg_anti zero_f (round f false a b) (plus→nonneg (round f false a b) (round-plus f a b))))
    (unfold neg in trans (fin true 0 (pos 0)) zero_f (round f false c d) (le_fin← true 0 (pos 0) false 0 (pos 0) tt) (plus→nonneg (round f false c d) (round-plus f c d)))
round_mono± f false a b true c d B D h =
    trans (round f false a b) (neg zero_f) (round f true c d)
    (subst (λ (z : Float). T (le z (neg zero_f))) (sym (round-neg f true a b)) (neg_anti zero_f (round f true a b) (null f true a b B (factor_zero a d D (le_of_eq h.0)))))
    (unfold neg in trans (fin true 0 (pos 0)) zero_f (round f true c d) (le_fin← true 0 (pos 0) false 0 (pos 0) tt) (null f true c d D (factor_zero c b B (le_of_eq h.1))))

-- ---- a signed number is its part above 0 less its part below 0
abbrev above : Bool → ℕ → ℕ
above true a = 0
above false a = a

abbrev beneath : Bool → ℕ → ℕ
beneath true a = a
beneath false a = 0

sle→parts : (s : Bool) (a : ℕ) (t : Bool) (b : ℕ) → Sle s a t b → above s a + beneath t b ≤ above t b + beneath s a
sle→parts false a false b h = omega arith
sle→parts false a true b h = omega arith
sle→parts true a false b h = omega arith
sle→parts true a true b h = omega arith

parts→sle : (s : Bool) (a : ℕ) (t : Bool) (b : ℕ) → above s a + beneath t b ≤ above t b + beneath s a → Sle s a t b
parts→sle false a false b h = omega arith
parts→sle false a true b h = omega arith
parts→sle true a false b h = tt
parts→sle true a true b h = omega arith

above-mul : (s : Bool) (a k : ℕ) → above s a * k ≡ above s (a * k)
above-mul true a k = zero-mul k
above-mul false a k = refl

beneath_mul : (s : Bool) (a k : ℕ) → beneath s a * k ≡ beneath s (a * k)
beneath_mul true a k = refl
beneath_mul false a k = zero-mul k

-- ---- the sum of two signed numbers: its sign and its size
abbrev sum_sign : Bool → ℕ → Bool → ℕ → Bool
sum_sign s a t b = cond (beq s t) s (cond (ltb a b) t (s && ltb b a))

abbrev sum_size : Bool → ℕ → Bool → ℕ → ℕ
sum_size s a t b = cond (beq s t) (a + b) (cond (ltb a b) (b - a) (a - b))

sum_is : (f : Format) (s : Bool) (a : ℕ) (t : Bool) (b c : ℕ) → sum f s a t b c ≡ round f (sum_sign s a t b) (sum_size s a t b) c
unfolding sum
sum_is f s a t b c = by (beq s t) (ltb a b)
  where
    by : (u v : Bool) → cond u (round f s (a + b) c) (cond v (round f t (b - a) c) (round f (s && ltb b a) (a - b) c)) ≡ round f (cond u s (cond v t (s && ltb b a))) (cond u (a + b) (cond v (b - a) (a - b))) c
    by true v = refl
    by false true = refl
    by false false = refl

sum-parts : (s : Bool) (a : ℕ) (t : Bool) (b : ℕ) → above (sum_sign s a t b) (sum_size s a t b) + beneath s a + beneath t b ≡ beneath (sum_sign s a t b) (sum_size s a t b) + above s a + above t b
sum-parts true a true b = omega arith
sum-parts false a false b = omega arith
sum-parts true a false b = by (ltb a b) (ltb b a) (ltb→lt a b) (ltb→lt b a) (nltb→le a b) (nltb→le b a)
  where
    by : (u v : Bool) → (T u → a < b) → (T v → b < a) → (T (not u) → b ≤ a) → (T (not v) → a ≤ b)
        → above (cond u false (true && v)) (cond u (b - a) (a - b)) + a + 0 ≡ beneath (cond u false (true && v)) (cond u (b - a) (a - b)) + 0 + b
    by true v p q r w = let h : a < b = p tt in omega arith
    by false true p q r w = let h : b < a = q tt in omega arith
    by false false p q r w = let h : b ≤ a = r tt in let g : a ≤ b = w tt in omega arith
sum-parts false a true b = by (ltb a b) (ltb→lt a b) (nltb→le a b)
  where
    by : (u : Bool) → (T u → a < b) → (T (not u) → b ≤ a) → above (cond u true false) (cond u (b - a) (a - b)) + 0 + b ≡ beneath (cond u true false) (cond u (b - a) (a - b)) + a + 0
    by true p r = let h : a < b = p tt in omega arith
    by false p r = let h : b ≤ a = r tt in omega arith

scaled : (s t u : Bool) (a b n k : ℕ) → above u n + beneath s a + beneath t b ≡ beneath u n + above s a + above t b → above u (n * k) + beneath s (a * k) + beneath t (b * k) ≡ beneath u (n * k) + above s (a * k) + above t (b * k)
scaled s t u a b n k e =
    let l : (above u n + beneath s a + beneath t b) * k ≡ above u (n * k) + beneath s (a * k) + beneath t (b * k) = simp (add-mul, above-mul, beneath_mul) in
    let r : (beneath u n + above s a + above t b) * k ≡ beneath u (n * k) + above s (a * k) + above t (b * k) = simp (add-mul, above-mul, beneath_mul) in
    sym l ∙ ap (λ (z : ℕ). z * k) e ∙ r

scaled_le : (s t : Bool) (a b k : ℕ) → above s a + beneath t b ≤ above t b + beneath s a → above s (a * k) + beneath t (b * k) ≤ above t (b * k) + beneath s (a * k)
scaled_le s t a b k h =
    let l : (above s a + beneath t b) * k ≡ above s (a * k) + beneath t (b * k) = simp (add-mul, above-mul, beneath_mul) in
    let r : (above t b + beneath s a) * k ≡ above t (b * k) + beneath s (a * k) = simp (add-mul, above-mul, beneath_mul) in
    le_trans (le_of_eq (sym l)) (le_trans (mul-le-mul_right k h) (le_of_eq r))

cancel : (p n q m a b c d e g : ℕ) → p + a + e ≡ n + b + g → q + c + e ≡ m + d + g → b + c ≤ d + a → p + m ≤ q + n
cancel p n q m a b c d e g h k l = omega arith

sums : (s t r : Bool) (X Z Y p o q : ℕ) → Sle s (X * o) t (Z * p)
    → Sle (sum_sign s (X * q) r (Y * p)) (sum_size s (X * q) r (Y * p) * (o * q)) (sum_sign t (Z * q) r (Y * o)) (sum_size t (Z * q) r (Y * o) * (p * q))
sums s t r X Z Y p o q h =
    let u = sum_sign s (X * q) r (Y * p) in
    let n = sum_size s (X * q) r (Y * p) in
    let v = sum_sign t (Z * q) r (Y * o) in
    let k = sum_size t (Z * q) r (Y * o) in
    let first = scaled s r u (X * q) (Y * p) n (o * q) (sum-parts s (X * q) r (Y * p)) in
    let second = scaled t r v (Z * q) (Y * o) k (p * q) (sum-parts t (Z * q) r (Y * o)) in
    let left : X * q * (o * q) ≡ X * o * (q * q) = simp (mul_assoc, mul_left_comm) in
    let right : Z * q * (p * q) ≡ Z * p * (q * q) = simp (mul_assoc, mul_left_comm) in
    let b : Y * p * (o * q) ≡ Y * o * (p * q) = simp (mul_assoc, mul_left_comm) in
    let l = scaled_le s t (X * o) (Z * p) (q * q) (sle→parts s (X * o) t (Z * p) h) in
    parts→sle u (n * (o * q)) v (k * (p * q))
    (cancel (above u (n * (o * q))) (beneath u (n * (o * q))) (above v (k * (p * q))) (beneath v (k * (p * q)))
    (beneath s (X * o * (q * q))) (above s (X * o * (q * q))) (beneath t (Z * p * (q * q))) (above t (Z * p * (q * q))) (beneath r (Y * o * (p * q))) (above r (Y * o * (p * q)))
    (rw (left, b) at first) (rw right at second) l)

add-fin : (f : Format) (s : Bool) (m : ℕ) (e : ℤ) (t : Bool) (n : ℕ) (d : ℤ) → add f (fin s m e) (fin t n d)
    ≡ round f (sum_sign s (m * up e * down d) t (n * up d * down e)) (sum_size s (m * up e * down d) t (n * up d * down e)) (down e * down d)
unfolding add
add-fin f s m e t n d = sum_is f s (m * up e * down d) t (n * up d * down e) (down e * down d)

pub add_mono : (f : Format) (x z y : Float) → T (finite x) → T (finite z) → T (finite y) → T (le x z) → T (le (add f x y) (add f z y))
add_mono f nan z y p q r h = absurd p
add_mono f (inf s) z y p q r h = absurd p
add_mono f (fin s m e) nan y p q r h = absurd q
add_mono f (fin s m e) (inf t) y p q r h = absurd q
add_mono f (fin s m e) (fin w k c) nan p q r h = absurd r
add_mono f (fin s m e) (fin w k c) (inf t) p q r h = absurd r
add_mono f (fin s m e) (fin w k c) (fin t n d) p q r h =
    rw (add-fin f s m e t n d, add-fin f w k c t n d)
    (round_mono± f (sum_sign s (m * up e * down d) t (n * up d * down e)) (sum_size s (m * up e * down d) t (n * up d * down e)) (down e * down d)
    (sum_sign w (k * up c * down d) t (n * up d * down c)) (sum_size w (k * up c * down d) t (n * up d * down c)) (down c * down d)
    (mul-pos (down_pos e) (down_pos d)) (mul-pos (down_pos c) (down_pos d))
    (sums s w t (m * up e) (k * up c) (n * up d) (down e) (down c) (down d) (le_fin→ s m e w k c h)))
