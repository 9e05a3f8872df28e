-- Values that are not below zero, -0 among them: `T (le zero x)`, which is what a test `x < 0.0` that fails leaves of an x that is no `nan`. Sums keep it, and no sum is below what it adds to. Assumes nothing.
use mathlib.Core.Path.{◌≡◌, refl, sym, ◌∙◌, subst}
use mathlib.Core.Logic.{◌⊎◌, inl, inr}
use Prim.Native.Nat.{ℕ, ◌+◌, ◌-◌, ◌*◌, ◌≤◌, ◌<◌, zero-le}
use native.Mathlib.Nat.{le_refl, le_of_eq, not-le_of_lt, zero-mul, mul-one, mul-pos, mul_assoc, mul_comm}
use native.Mathlib.Omega.{arith}
use mathlib.Core.Bool.{Bool, true, false, ◌&&◌, cond}
use lib.IntN.{ℤ, pos}
use lib.Dec.{T, ltb, ltb→lt}
use lib.Ieee.{Float, nan, inf, fin, Format, up, down, round, sum, add, le, fits}
use lib.Ieee.Fits.{down_pos}
use lib.Ieee.Order.{le_of_values, round_mono}
use Rattle.ieee.proofs.Order.{zero-times, trans, le_fin→, le_fin←}
use Rattle.ieee.proofs.Self.{self}
use Rattle.ieee.specs.Terms.{plus, Within, zero_f, Minus0}
use Rattle.ieee.proofs.Plus.{round-plus, add-plus, le-add}
use Rattle.ieee.proofs.Within.{whole-exact, round-within}

pub plus→nonneg : (x : Float) → T (plus x) → T (le zero_f x)
plus→nonneg nan h = absurd h
plus→nonneg (inf true) h = absurd h
plus→nonneg (inf false) h = unfold le in tt
plus→nonneg (fin true m e) h = absurd h
plus→nonneg (fin false m e) h = le_fin← false 0 (pos 0) false m e (subst (λ (z : ℕ). z ≤ m * up e * 1) (sym (zero-mul (down e))) zero-le)

-- a value of size 0
pub null→nonneg : (x : Float) → Within x 0 1 → T (le zero_f x)
null→nonneg nan h = absurd h
null→nonneg (inf s) h = absurd h
null→nonneg (fin false m e) h = plus→nonneg (fin false m e) tt
null→nonneg (fin true m e) h = le_fin← false 0 (pos 0) true m e (zero-mul (down e), none (m * up e * 1) (down e) h)
  where
    none : (a d : ℕ) → a ≤ 0 * d → a ≡ 0
    none a d k = omega arith

pub nonneg_split : (x : Float) → T (le zero_f x) → T (plus x) ⊎ Minus0 x
nonneg_split nan h = absurd (unfold le in h)
nonneg_split (inf true) h = absurd (unfold le in h)
nonneg_split (inf false) h = inl tt
nonneg_split (fin false m e) h = inl tt
nonneg_split (fin true m e) h = inr (refl, sym (mul-one (m * up e)) ∙ (le_fin→ false 0 (pos 0) true m e h).1)

pub under_nonneg : (x y : Float) → Minus0 x → T (le zero_f y) → T (le x y)
under_nonneg nan y h k = absurd h
under_nonneg (inf s) y h k = absurd h
under_nonneg (fin s m e) y h k = trans (fin s m e) zero_f y (subst (λ (b : Bool). T (le (fin b m e) zero_f)) (sym h.0) (le_fin← true m e false 0 (pos 0) tt)) k

-- ---- the sums that have a -0
sum_right : (f : Format) (a b c : ℕ) → b ≤ a → sum f false a true b c ≡ round f false (a - b) c
unfolding sum
sum_right f a b c h = by (ltb a b) (ltb→lt a b)
  where
    by : (t : Bool) → (T t → a < b) → cond t (round f true (b - a) c) (round f false (a - b) c) ≡ round f false (a - b) c
    by true k = absurd (not-le_of_lt (k tt) h)
    by false k = refl

sum_left : (f : Format) (a b c : ℕ) → a ≡ 0 → T (plus (sum f true a false b c))
unfolding sum
sum_left f a b c h = by (ltb a b) (ltb b a) (ltb→lt b a)
  where
    by : (t u : Bool) → (T u → b < a) → T (plus (cond t (round f false (b - a) c) (round f (true && u) (a - b) c)))
    by true u k = round-plus f (b - a) c
    by false false k = round-plus f (a - b) c
    by false true k = absurd (never (k tt))
      where
        never : b < a → ⊥
        never l = omega arith

sum_both : (f : Format) (a b c : ℕ) → 0 < c → a ≡ 0 → b ≡ 0 → Within (sum f true a true b c) 0 1
unfolding sum
sum_both f a b c C p q = round-within f true (a + b) c 0 1 C (whole-exact f 0 zero-le) (omega arith)

add_nonneg_fin : (f : Format) (s : Bool) (m : ℕ) (e : ℤ) (t : Bool) (n : ℕ) (d : ℤ) → T (le zero_f (fin s m e)) → T (le zero_f (fin t n d)) → T (le zero_f (add f (fin s m e) (fin t n d)))
unfolding add
add_nonneg_fin f false m e false n d h k = plus→nonneg _ (add-plus f (fin false m e) (fin false n d) tt tt)
add_nonneg_fin f false m e true n d h k =
    let z : n * up d * down e ≡ 0 = zero-times (n * up d) (down e) (sym (mul-one (n * up d)) ∙ (le_fin→ false 0 (pos 0) true n d k).1) in
    rw (sum_right f (m * up e * down d) (n * up d * down e) (down e * down d) (omega arith)) (plus→nonneg _ (round-plus f (m * up e * down d - n * up d * down e) (down e * down d)))
add_nonneg_fin f true m e false n d h k =
    plus→nonneg _ (sum_left f (m * up e * down d) (n * up d * down e) (down e * down d) (zero-times (m * up e) (down d) (sym (mul-one (m * up e)) ∙ (le_fin→ false 0 (pos 0) true m e h).1)))
add_nonneg_fin f true m e true n d h k =
    null→nonneg _ (sum_both f (m * up e * down d) (n * up d * down e) (down e * down d) (mul-pos (down_pos e) (down_pos d))
    (zero-times (m * up e) (down d) (sym (mul-one (m * up e)) ∙ (le_fin→ false 0 (pos 0) true m e h).1))
    (zero-times (n * up d) (down e) (sym (mul-one (n * up d)) ∙ (le_fin→ false 0 (pos 0) true n d k).1)))

pub add_nonneg : (f : Format) (x y : Float) → T (le zero_f x) → T (le zero_f y) → T (le zero_f (add f x y))
add_nonneg f nan y h k = absurd (unfold le in h)
add_nonneg f (inf true) y h k = absurd (unfold le in h)
add_nonneg f (inf false) nan h k = absurd (unfold le in k)
add_nonneg f (inf false) (inf true) h k = absurd (unfold le in k)
add_nonneg f (inf false) (inf false) h k = unfold add le in tt
add_nonneg f (inf false) (fin t n d) h k = unfold add le in tt
add_nonneg f (fin s m e) nan h k = absurd (unfold le in k)
add_nonneg f (fin s m e) (inf true) h k = absurd (unfold le in k)
add_nonneg f (fin s m e) (inf false) h k = unfold add le in tt
add_nonneg f (fin s m e) (fin t n d) h k = add_nonneg_fin f s m e t n d h k

-- ---- a sum is no smaller than what it adds to, with -0 allowed
keep : (a b p q : ℕ) → b ≡ 0 → a * (p * q) ≤ (a * q - b) * p
keep a b p q z = subst (λ (x : ℕ). a * (p * q) ≤ x * p) (same (a * q) b z) (le_of_eq (simp (mul_assoc, mul_comm)))
  where
    same : (x y : ℕ) → y ≡ 0 → x ≡ x - y
    same x y e = omega arith

le-add_minus0 : (f : Format) (m : ℕ) (e : ℤ) (n : ℕ) (d : ℤ) → T (fits f (fin false m e)) → n * up d ≡ 0 → T (le (fin false m e) (add f (fin false m e) (fin true n d)))
unfolding add
le-add_minus0 f m e n d h z0 =
    let a = m * up e in
    let c = down e in
    let r = round f false a c in
    let z : n * up d * c ≡ 0 = zero-times (n * up d) c z0 in
    rw (sum_right f (m * up e * down d) (n * up d * down e) (down e * down d) (omega arith))
    (trans (fin false m e) r (round f false (a * down d - n * up d * c) (c * down d))
    (le_of_values (fin false m e) r a c a c (down_pos e) (down_pos e) (refl, refl) (self f false false m e h) (le_refl (a * c)))
    (round_mono f a c (a * down d - n * up d * c) (c * down d) (down_pos e) (mul-pos (down_pos e) (down_pos d)) (keep a (n * up d * c) c (down d) z)))

right_minus0 : (f : Format) (x y : Float) → T (fits f x) → T (plus x) → Minus0 y → T (le x (add f x y))
right_minus0 f x nan h p z = absurd z
right_minus0 f x (inf t) h p z = absurd z
right_minus0 f nan (fin t n d) h p z = absurd p
right_minus0 f (inf true) (fin t n d) h p z = absurd p
right_minus0 f (inf false) (fin t n d) h p z = unfold add le in tt
right_minus0 f (fin true m e) (fin t n d) h p z = absurd p
right_minus0 f (fin false m e) (fin t n d) h p z = subst (λ (b : Bool). T (le (fin false m e) (add f (fin false m e) (fin b n d)))) (sym z.0) (le-add_minus0 f m e n d h z.1)

pub le-add_nonneg : (f : Format) (x y : Float) → T (fits f x) → T (le zero_f x) → T (le zero_f y) → T (le x (add f x y))
le-add_nonneg f x y h p q =
    elim (nonneg_split x p) [
      | inl a ↦ elim (nonneg_split y q) [ inl b ↦ le-add f x y h a b | inr b ↦ right_minus0 f x y h a b ]
      | inr a ↦ under_nonneg x (add f x y) a (add_nonneg f x y p q)
    ]
