-- `le` is a total order on what is no `nan`, and `lt` is its strict part. Assumes nothing.
use mathlib.Core.Path.{◌≡◌, refl, sym, ◌∙◌, subst}
use mathlib.Core.Logic.{◌⊎◌, inl, inr}
use Prim.Native.Nat.{ℕ, ◌+◌, ◌*◌, ◌≤◌, ◌<◌}
use native.Mathlib.Nat.{le_of_eq, eq-zero-or-pos}
use native.Mathlib.Omega.{arith}
use mathlib.Core.Bool.{Bool, true, false, not, ◌||◌, beq}
use lib.Dec.{T, leb, eqb, ltb→lt, lt→ltb, leb→le, nleb→lt, eqb→eq, T_not, not_T}
use lib.Ieee.{Float, nan, inf, fin, up, down, below, level, lt, eq, le, is_nan}
use lib.Ieee.Fits.{and_l, and_r}
use Rattle.ieee.proofs.Order.{or_l, or_r, or_split, same_test, Sle, sle, sle→, sle←, trans, le→right, le_fin←}

-- ---- a test is true or false
pub decide : (b : Bool) → T b ⊎ T (not b)
decide true = inl tt
decide false = inr tt

le_or_lt : (a b : ℕ) → (a ≤ b) ⊎ (b < a)
le_or_lt a b = elim (decide (leb a b)) [ inl t ↦ inl (leb→le a b t) | inr t ↦ inr (nleb→lt a b t) ]

-- ---- ±a < ±b or ±b ≤ ±a, and not both
below_or : (s : Bool) (a : ℕ) (t : Bool) (b : ℕ) → T (below s a t b) ⊎ Sle t b s a
below_or false a false b = elim (le_or_lt b a) [ inl h ↦ inr h | inr h ↦ inl (lt→ltb a b h) ]
below_or false a true b = inr tt
below_or true a false b = elim (eq-zero-or-pos (a + b)) [ inl h ↦ inr (omega arith) | inr h ↦ inl (lt→ltb 0 (a + b) h) ]
below_or true a true b = elim (le_or_lt a b) [ inl h ↦ inr h | inr h ↦ inl (lt→ltb b a h) ]

below-not : (s : Bool) (a : ℕ) (t : Bool) (b : ℕ) → T (below s a t b) → Sle t b s a → ⊥
below-not false a false b h k = omega (arith, ltb→lt a b h)
below-not false a true b h k = h
below-not true a false b h k = omega (arith, ltb→lt 0 (a + b) h)
below-not true a true b h k = omega (arith, ltb→lt b a h)

not_sle : (s : Bool) (a : ℕ) (t : Bool) (b : ℕ) → below s a t b ≡ not (sle t b s a)
not_sle s a t b = same_test (below s a t b) (not (sle t b s a)) (λ (h : T (below s a t b)). not_T (sle t b s a) (λ (k : T (sle t b s a)). below-not s a t b h (sle→ t b s a k)))
    (λ (h : T (not (sle t b s a))). elim (below_or s a t b) [ inl l ↦ l | inr k ↦ absurd (T_not (sle t b s a) h (sle← t b s a k)) ])

-- ---- the strict order is what the other way round is not
pub lt-is : (x y : Float) → T (not (is_nan x)) → T (not (is_nan y)) → lt x y ≡ not (le y x)
unfolding lt le is_nan
lt-is nan y p q = absurd p
lt-is (inf s) nan p q = absurd q
lt-is (inf true) (inf true) p q = refl
lt-is (inf true) (inf false) p q = refl
lt-is (inf false) (inf true) p q = refl
lt-is (inf false) (inf false) p q = refl
lt-is (inf true) (fin t n d) p q = refl
lt-is (inf false) (fin t n d) p q = refl
lt-is (fin s m e) nan p q = absurd q
lt-is (fin s m e) (inf true) p q = refl
lt-is (fin s m e) (inf false) p q = refl
lt-is (fin s m e) (fin t n d) p q = not_sle s (m * up e * down d) t (n * up d * down e)

pub lt→le : (x y : Float) → T (lt x y) → T (le x y)
unfolding le
lt→le x y h = or_l (lt x y) (eq x y) h

pub le→left : (x y : Float) → T (le x y) → T (not (is_nan x))
unfolding le is_nan
le→left nan y h = h
le→left (inf s) y h = tt
le→left (fin s m e) y h = tt

pub lt→not_le : (x y : Float) → T (lt x y) → T (le y x) → ⊥
lt→not_le x y h k = T_not (le y x) (subst T (lt-is x y (le→right y x k) (le→left y x k)) h) k

pub not_lt→le : (x y : Float) → T (not (is_nan x)) → T (not (is_nan y)) → T (not (lt x y)) → T (le y x)
not_lt→le x y p q h = elim (decide (le y x)) [ inl t ↦ t | inr t ↦ absurd (T_not (lt x y) h (subst T (sym (lt-is x y p q)) t)) ]

pub total : (x y : Float) → T (not (is_nan x)) → T (not (is_nan y)) → T (le x y) ⊎ T (lt y x)
total x y p q = elim (decide (lt y x)) [ inl t ↦ inr t | inr t ↦ inl (not_lt→le y x q p t) ]

pub refl-le : (x : Float) → T (not (is_nan x)) → T (le x x)
refl-le x p = elim (total x x p p) [ inl t ↦ t | inr t ↦ lt→le x x t ]

pub lt-le_trans : (x y z : Float) → T (lt x y) → T (le y z) → T (lt x z)
lt-le_trans x y z h k =
    elim (decide (lt x z)) [ inl t ↦ t | inr t ↦ absurd (lt→not_le x y h (trans y z x k (not_lt→le x z (le→left x y (lt→le x y h)) (le→right y z k) t))) ]

pub le_lt_trans : (x y z : Float) → T (le x y) → T (lt y z) → T (lt x z)
le_lt_trans x y z h k =
    elim (decide (lt x z)) [ inl t ↦ t | inr t ↦ absurd (lt→not_le y z k (trans z x y (not_lt→le x z (le→left x y h) (le→right y z (lt→le y z k)) t) h)) ]

-- ---- both ways round: equal
pub antisym : (x y : Float) → T (le x y) → T (le y x) → T (eq x y)
antisym x y h k = elim (or_split (lt x y) (eq x y) (opened x y h)) [ inl l ↦ absurd (lt→not_le x y l k) | inr e ↦ e ]
  where
    opened : (x y : Float) → T (le x y) → T (lt x y || eq x y)
    opened x y t = unfold le in t

-- ---- equal: both ways round
pub eq→le : (x y : Float) → T (eq x y) → T (le x y)
unfolding le
eq→le x y h = or_r (lt x y) (eq x y) h

level→ : (s : Bool) (a : ℕ) (t : Bool) (b : ℕ) → T (level s a t b) → Sle t b s a
level→ s a t b h = by s t (eqb→eq a b (and_l (eqb a b) (beq s t || eqb a 0) h)) (and_r (eqb a b) (beq s t || eqb a 0) h)
  where
    by : (s t : Bool) → a ≡ b → T (beq s t || eqb a 0) → Sle t b s a
    by true true e k = le_of_eq e
    by true false e k = let z : a ≡ 0 = eqb→eq a 0 k in (sym e ∙ z, z)
    by false true e k = tt
    by false false e k = le_of_eq (sym e)

pub eq→ge : (x y : Float) → T (eq x y) → T (le y x)
eq→ge nan y h = absurd (unfold eq in h)
eq→ge (inf s) nan h = absurd (unfold eq in h)
eq→ge (inf true) (inf true) h = unfold le in tt
eq→ge (inf true) (inf false) h = absurd (unfold eq in h)
eq→ge (inf false) (inf true) h = absurd (unfold eq in h)
eq→ge (inf false) (inf false) h = unfold le in tt
eq→ge (inf s) (fin t n d) h = absurd (unfold eq in h)
eq→ge (fin s m e) nan h = absurd (unfold eq in h)
eq→ge (fin s m e) (inf t) h = absurd (unfold eq in h)
eq→ge (fin s m e) (fin t n d) h = le_fin← t n d s m e (level→ s (m * up e * down d) t (n * up d * down e) (unfold eq in h))
