-- Rust's `total_cmp` on what is no `nan`: by the sign, then by the size; and by a number made of the bit pattern. Assumes nothing.
use mathlib.Core.Path.{◌≡◌, refl, sym, ap, ◌∙◌, subst}
use mathlib.Core.Logic.{◌⊎◌, inl, inr}
use Prim.Native.Nat.{ℕ, suc, ◌+◌, ◌-◌, ◌*◌, ◌≤◌, ◌<◌}
use native.Mathlib.Nat.{le_of_lt, le_antisymm}
use native.Mathlib.Omega.{arith}
use mathlib.Core.Bool.{Bool, true, false, not, cond}
use lib.Dec.{T, nleb→lt, leb, ltb, leb→le, le→leb, ltb→lt, nltb→le}
use lib.Ieee.{Float, nan, inf, fin, Format, top, neg, lt, le, fits, is_nan, to_bits, of_bits}
use lib.Ieee.Bits.{of_bits-to_bits, to_bits-lt}
use Rattle.ieee.proofs.Order.{same_test, le_fin→, le_fin←}
use Rattle.ieee.proofs.Total.{decide, lt→not_le, lt-is}
use Rattle.std.specs.Float.{is_sign_negative, total_cmp}
use Rattle.std.specs.Ordering.{is_le}
use Rattle.std.specs.declared.cmp.Ordering.{Ordering}
use Rattle.std.specs.declared.cmp.Ordering.TheVariants.{Less, Equal, Greater}
use Rattle.std.proofs.lemmas.Bool.{false≢true}
use Rattle.ieee.specs.Terms.{sgn, abs, key, pack, zero_f, tle, key_of}
use Rattle.ieee.proofs.Keys.{bits_are, le-is-bits, size_small}

-- ---- the bits as a number: those with the sign set turned round, below those with it clear
key-clear : (t b n : ℕ) → b ≡ 0 + n → n < t → cond (ltb b t) (b + t) (2 * t - suc b) ≡ t + n
key-clear t b n e h = by (ltb b t) (nltb→le b t)
  where
    by : (z : Bool) → (T (not z) → t ≤ b) → cond z (b + t) (2 * t - suc b) ≡ t + n
    by true k = omega arith
    by false k = let l : t ≤ b = k tt in omega arith

key_set : (t b n : ℕ) → b ≡ t + n → n < t → cond (ltb b t) (b + t) (2 * t - suc b) ≡ t - suc n
key_set t b n e h = by (ltb b t) (ltb→lt b t)
  where
    by : (z : Bool) → (T z → b < t) → cond z (b + t) (2 * t - suc b) ≡ t - suc n
    by true k = let l : b < t = k tt in omega arith
    by false k = omega arith

-- ±n before ±l, by the keys
order : (s u : Bool) (t n l : ℕ) → n < t → l < t → cond s (cond u (leb l n) true) (cond u false (leb n l)) ≡ leb (cond s (t - suc n) (t + n)) (cond u (t - suc l) (t + l))
order false false t n l p q = same_test (leb n l) (leb (t + n) (t + l)) (λ (h : T (leb n l)). le→leb (t + n) (t + l) (omega (arith, leb→le n l h))) (λ (h : T (leb (t + n) (t + l))). le→leb n l (omega (arith, leb→le (t + n) (t + l) h)))
order false true t n l p q = same_test false (leb (t + n) (t - suc l)) (λ (h : ⊥). absurd h) (λ (h : T (leb (t + n) (t - suc l))). omega (arith, leb→le (t + n) (t - suc l) h))
order true false t n l p q = same_test true (leb (t - suc n) (t + l)) (λ (h : Unit {0}). le→leb (t - suc n) (t + l) (omega arith)) (λ (h : T (leb (t - suc n) (t + l))). tt)
order true true t n l p q = same_test (leb l n) (leb (t - suc n) (t - suc l)) (λ (h : T (leb l n)). le→leb (t - suc n) (t - suc l) (omega (arith, leb→le l n h)))
    (λ (h : T (leb (t - suc n) (t - suc l))). le→leb l n (omega (arith, leb→le (t - suc n) (t - suc l) h)))

key-is : (f : Format) (x : Float) (s : Bool) → sgn x ≡ s → T (fits f x) → T (not (is_nan x)) → key_of f (to_bits f x) ≡ cond s (top f - suc (pack f (key f x))) (top f + pack f (key f x))
key-is f x true e h p = key_set (top f) (to_bits f x) (pack f (key f x)) (bits_are f x p ∙ ap (λ (b : Bool). cond b (top f) 0 + pack f (key f x)) e) (size_small f x h)
key-is f x false e h p = key-clear (top f) (to_bits f x) (pack f (key f x)) (bits_are f x p ∙ ap (λ (b : Bool). cond b (top f) 0 + pack f (key f x)) e) (size_small f x h)

pub tle-is-key : (f : Format) (x y : Float) → T (fits f x) → T (fits f y) → T (not (is_nan x)) → T (not (is_nan y)) → tle x y ≡ leb (key_of f (to_bits f x)) (key_of f (to_bits f y))
tle-is-key f x y h k p q =
    let n = pack f (key f x) in
    let l = pack f (key f y) in
    ap (λ (z : Bool). cond (sgn x) (cond (sgn y) z true) (cond (sgn y) false (le (abs x) (abs y)))) (le-is-bits f y x k h q p)
    ∙ ap (λ (z : Bool). cond (sgn x) (cond (sgn y) (leb l n) true) (cond (sgn y) false z)) (le-is-bits f x y h k p q)
    ∙ order (sgn x) (sgn y) (top f) n l (size_small f x h) (size_small f y k)
    ∙ ap (λ (z : ℕ). leb z (cond (sgn y) (top f - suc l) (top f + l))) (sym (key-is f x (sgn x) refl h p))
    ∙ ap (λ (z : ℕ). leb (key_of f (to_bits f x)) z) (sym (key-is f y (sgn y) refl k q))

-- ---- `total_cmp`'s order and `<=`: it refines it, and two values that fit and are level in it are the same
pub tle→le : (x y : Float) → T (not (is_nan x)) → T (not (is_nan y)) → T (tle x y) → T (le x y)
tle→le nan y p q h = absurd (unfold is_nan in p)
tle→le (inf s) nan p q h = absurd (unfold is_nan in q)
tle→le (inf true) (inf true) p q h = unfold le in tt
tle→le (inf true) (inf false) p q h = unfold le in tt
tle→le (inf false) (inf true) p q h = absurd h
tle→le (inf false) (inf false) p q h = h
tle→le (inf true) (fin t n d) p q h = unfold le in tt
tle→le (inf false) (fin true n d) p q h = absurd h
tle→le (inf false) (fin false n d) p q h = h
tle→le (fin s m e) nan p q h = absurd (unfold is_nan in q)
tle→le (fin true m e) (inf true) p q h = absurd (unfold le in h)
tle→le (fin false m e) (inf true) p q h = absurd h
tle→le (fin s m e) (inf false) p q h = unfold le in tt
tle→le (fin false m e) (fin false n d) p q h = h
tle→le (fin false m e) (fin true n d) p q h = absurd h
tle→le (fin true m e) (fin false n d) p q h = le_fin← true m e false n d tt
tle→le (fin true m e) (fin true n d) p q h = le_fin← true m e true n d (le_fin→ false n d false m e h)

key_inj : (t a b : ℕ) → a < 2 * t → b < 2 * t → cond (ltb a t) (a + t) (2 * t - suc a) ≡ cond (ltb b t) (b + t) (2 * t - suc b) → a ≡ b
key_inj t a b p q = by (ltb a t) (ltb b t) (ltb→lt a t) (nltb→le a t) (ltb→lt b t) (nltb→le b t)
  where
    by : (u v : Bool) → (T u → a < t) → (T (not u) → t ≤ a) → (T v → b < t) → (T (not v) → t ≤ b) → cond u (a + t) (2 * t - suc a) ≡ cond v (b + t) (2 * t - suc b) → a ≡ b
    by true true c d e g h = omega arith
    by true false c d e g h = let i : t ≤ b = g tt in omega arith
    by false true c d e g h = let i : t ≤ a = d tt in omega arith
    by false false c d e g h = omega arith

-- what `total_cmp` answers of two of which none is less
abbrev by_signs : Float → Float → Ordering
by_signs x y = cond (is_sign_negative x) (cond (is_sign_negative y) Equal Less) (cond (is_sign_negative y) Greater Equal)

level_is : (x y : Float) → T (not (is_nan x)) → T (not (is_nan y)) → T (le x y) → is_le (by_signs x y) ≡ tle x y
unfolding le is_nan is_sign_negative
level_is nan y p q h = absurd p
level_is (inf s) nan p q h = absurd q
level_is (inf true) (inf true) p q h = refl
level_is (inf true) (inf false) p q h = refl
level_is (inf false) (inf true) p q h = refl
level_is (inf false) (inf false) p q h = refl
level_is (inf true) (fin true n d) p q h = refl
level_is (inf true) (fin false n d) p q h = refl
level_is (inf false) (fin true n d) p q h = refl
level_is (inf false) (fin false n d) p q h = absurd h
level_is (fin s m e) nan p q h = absurd q
level_is (fin true m e) (inf true) p q h = absurd h
level_is (fin true m e) (inf false) p q h = refl
level_is (fin false m e) (inf true) p q h = refl
level_is (fin false m e) (inf false) p q h = refl
level_is (fin true m e) (fin false n d) p q h = refl
level_is (fin false m e) (fin true n d) p q h = refl
level_is (fin false m e) (fin false n d) p q h = same_test true (le (fin false m e) (fin false n d)) (λ (_ : Unit {0}). h) (λ (_ : T (le (fin false m e) (fin false n d))). tt)
level_is (fin true m e) (fin true n d) p q h =
    same_test true (le (fin false n d) (fin false m e)) (λ (_ : Unit {0}). le_fin← false n d false m e (le_fin→ true m e true n d h))
    (λ (_ : T (le (fin false n d) (fin false m e))). tt)

module _ (f : Format) (x y : Float) (h : T (fits f x)) (k : T (fits f y)) (p : T (not (is_nan x))) (q : T (not (is_nan y))) where
  pub tle-total : T (tle x y) ⊎ T (tle y x)
  tle-total =
      let a = key_of f (to_bits f x) in
      let b = key_of f (to_bits f y) in
      elim (decide (leb a b)) [
        | inl t ↦ inl (subst T (sym (tle-is-key f x y h k p q)) t)
        | inr t ↦ inr (subst T (sym (tle-is-key f y x k h q p)) (le→leb b a (le_of_lt (nleb→lt a b t))))
      ]

  pub lt→tle : T (lt x y) → T (tle x y)
  lt→tle l = elim tle-total [ inl t ↦ t | inr t ↦ absurd (lt→not_le x y l (tle→le y x q p t)) ]

  pub tle_antisym : T (tle x y) → T (tle y x) → x ≡ y
  tle_antisym l r =
      let a = to_bits f x in
      let b = to_bits f y in
      let u : key_of f a ≤ key_of f b = leb→le (key_of f a) (key_of f b) (subst T (tle-is-key f x y h k p q) l) in
      let v : key_of f b ≤ key_of f a = leb→le (key_of f b) (key_of f a) (subst T (tle-is-key f y x k h q p) r) in
      sym (of_bits-to_bits f x h) ∙ ap (of_bits f) (key_inj (top f) a b (to_bits-lt f x h) (to_bits-lt f y k) (le_antisymm u v)) ∙ of_bits-to_bits f y k

  -- ---- the library's `total_cmp`
  pub total_is : is_le (total_cmp x y) ≡ tle x y
  total_is = by (lt x y) (lt y x) (le x y) lt→tle (λ (l : T (lt y x)) (t : T (tle x y)). lt→not_le y x l (tle→le x y p q t)) (lt-is y x q p) (level_is x y p q)
    where
      by : (b c l : Bool) → (T b → T (tle x y)) → (T c → T (tle x y) → ⊥) → c ≡ not l → (T l → is_le (by_signs x y) ≡ tle x y)
          → is_le (cond b Less (cond c Greater (by_signs x y))) ≡ tle x y
      by true c l rises falls e level = same_test true (tle x y) rises (λ (_ : T (tle x y)). tt)
      by false true l rises falls e level = same_test false (tle x y) (λ (z : ⊥). absurd z) (falls tt)
      by false false true rises falls e level = level tt
      by false false false rises falls e level = absurd (false≢true e)

-- ---- -0 comes before +0
pub minus_zero-first : (tle (neg zero_f) zero_f ≡ true) × (tle zero_f (neg zero_f) ≡ false)
unfolding neg
minus_zero-first = (refl, refl)
