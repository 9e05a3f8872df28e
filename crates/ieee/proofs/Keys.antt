-- The size of a value as a number, its key: how many of the format's smallest values it is, an infinity as the first size that overflows.
-- The bit pattern is made of the sign and the key, so a value that fits is given by them. Where the sign is clear (`Good`) `lt`, `eq` and `le` are those of the keys, so that `omega` reads the order.
-- Assumes nothing.
use mathlib.Core.Path.{◌≡◌, refl, sym, ap, ◌∙◌, subst}
use mathlib.Core.Logic.{inl, inr}
use Prim.Native.Nat.{ℕ, zero, suc, ◌+◌, ◌-◌, ◌*◌, ◌/◌, ◌%◌, ◌^◌, ◌≤◌, ◌<◌, zero-le}
use native.Mathlib.Nat.{le_refl, le_trans, le_of_eq, lt_of_le_of_lt, le_antisymm, eq-or-lt_of_le, zero-add, add_assoc}
use native.Mathlib.Nat.{mul_comm, mul_assoc, mul_right_comm, mul-le-mul_right, mul-suc, suc-mul, le-div_iff_mul-le, div-le_of_le-mul, mul-div_cancel}
use native.Mathlib.Omega.{arith}
use mathlib.Core.Bool.{Bool, true, false, not, cond}
use lib.IntN.{ℤ}
use lib.Dec.{T, leb, ltb, eqb, leb→le, le→leb, nleb→lt, ltb→lt, lt→ltb, eqb→eq, not_T}
use lib.Pow.{pow-add, pow_pos, shr_mono}
use lib.Ieee.{Float, nan, inf, fin, Format, binary32, binary64, prec, emax, low, up, down, size, hid, ones, top, lt, eq, le, fits, is_nan, to_bits, of_bits}
use lib.Ieee.Digits.{size-lt, size-le, size_reaches}
use lib.Ieee.Exact.{HasValue}
use lib.Ieee.Fits.{down_pos, kept-lt, two, two-le_pos, eq→eqb}
use lib.Ieee.Nearest.{div_mono}
use lib.Ieee.Bits.{of_bits-to_bits}
use Rattle.ieee.proofs.Order.{same_test, le_fin→}
use Rattle.ieee.proofs.Total.{total, refl-le, lt→le, lt-is, antisym, eq→le, eq→ge}
use Rattle.ieee.proofs.Self.{fits_under}
use Rattle.ieee.specs.Terms.{plus, sgn, abs, pack, Good, key}
use Rattle.ieee.proofs.Plus.{plus-real}

pack-top : (f : Format) → pack f (2 ^ (low f + suc (emax f))) ≡ ones f * hid f
unfolding size
pack-top binary32 = refl
pack-top binary64 = refl

twice : (f : Format) → 2 ^ prec f ≡ hid f + hid f
twice binary32 = refl
twice binary64 = refl

pub bits_are : (f : Format) (x : Float) → T (not (is_nan x)) → to_bits f x ≡ cond (sgn x) (top f) 0 + pack f (key f x)
unfolding to_bits is_nan key
bits_are f nan h = absurd h
bits_are f (inf s) h = ap (λ (z : ℕ). cond s (top f) 0 + z) (sym (pack-top f))
bits_are f (fin s m e) h =
    let n = m * up e * 2 ^ low f / down e in
    add_assoc (cond s (top f) 0) ((size n - prec f) * hid f) (n / 2 ^ (size n - prec f))

-- a value of a of the smallest ones
pub value-key : (f : Format) (x : Float) (s : Bool) (a : ℕ) → HasValue x s a (2 ^ low f) → key f x ≡ a
unfolding key
value-key f nan s a v = absurd v
value-key f (inf t) s a v = absurd v
value-key f (fin t m e) s a v = ap (λ (z : ℕ). z / down e) v.1 ∙ mul-div_cancel a (down_pos e)

-- ---- more units, a larger pattern
fewer : (x y p : ℕ) → x ≤ y → x - p ≤ y - p
fewer x y p h = omega arith

all_in_use : (z p : ℕ) → 0 < p → 0 < z - p → p - 1 + (z - p) < z
all_in_use z p P h = omega arith

step : (a b h x y : ℕ) → a + h ≤ b → x < h + h → h ≤ y → a + x ≤ b + y
step a b h x y p q r = omega arith

pub pack_mono : (f : Format) (n l : ℕ) → n ≤ l → pack f n ≤ pack f l
pack_mono f n l h =
    let p = prec f in
    let j = size n - p in
    let k = size l - p in
    elim (eq-or-lt_of_le (fewer (size n) (size l) p (size-le n (size l) (lt_of_le_of_lt h (size-lt l))))) [
      | inl e ↦ subst (λ (i : ℕ). i * hid f + n / 2 ^ i ≤ pack f l) (sym e) (low_part (k * hid f) (n / 2 ^ k) (l / 2 ^ k) (shr_mono k h))
      | inr g ↦
          step (j * hid f) (k * hid f) (hid f) (n / 2 ^ j) (l / 2 ^ k)
          (le_trans (le_of_eq (sym (suc-mul j (hid f)))) (mul-le-mul_right (hid f) g))
          (subst (λ (i : ℕ). n / 2 ^ j < i) (twice f) (kept-lt p n))
          ((le-div_iff_mul-le (pow_pos k)).1 (le_trans (le_of_eq (sym (pow-add 2 (p - 1) k))) (size_reaches l (p - 1 + k) (all_in_use (size l) p (two-le_pos p (two f)) (lt_of_le_of_lt zero-le g)))))
    ]
  where
    low_part : (a x y : ℕ) → x ≤ y → a + x ≤ a + y
    low_part a x y g = omega arith

-- ---- on sizes
abs-fits : (f : Format) (x : Float) → T (fits f x) → T (fits f (abs x))
unfolding fits
abs-fits f nan h = tt
abs-fits f (inf s) h = tt
abs-fits f (fin s zero e) h = h
abs-fits f (fin s (suc m) e) h = h

abs-real : (x : Float) → T (not (is_nan x)) → T (not (is_nan (abs x)))
unfolding is_nan
abs-real nan h = h
abs-real (inf s) h = tt
abs-real (fin s m e) h = tt

under_top : (f : Format) (s : Bool) (m : ℕ) (e : ℤ) → T (fits f (fin s m e)) → m * up e * 2 ^ low f / down e ≤ 2 ^ (low f + suc (emax f))
under_top f s m e h =
    div-le_of_le-mul (down e)
    (le_trans (mul-le-mul_right (2 ^ low f) (fits_under f s m e h))
    (le_of_eq
    (ap (λ (z : ℕ). z * 2 ^ low f) (mul_comm (2 ^ suc (emax f)) (down e)) ∙ mul_assoc (down e) (2 ^ suc (emax f)) (2 ^ low f) ∙ ap (λ (z : ℕ). down e * z)
    (mul_comm (2 ^ suc (emax f)) (2 ^ low f) ∙ sym (pow-add 2 (low f) (suc (emax f)))))))

pub key-top : (f : Format) (x : Float) → T (fits f x) → key f x ≤ key f (inf false)
unfolding key
key-top f nan h = zero-le
key-top f (inf s) h = le_refl (2 ^ (low f + suc (emax f)))
key-top f (fin s m e) h = under_top f s m e h

pub key_mono : (f : Format) (x y : Float) → T (fits f x) → T (le (abs x) (abs y)) → key f x ≤ key f y
unfolding key
key_mono f nan y h k = zero-le
key_mono f (inf s) nan h k = absurd (unfold le in k)
key_mono f (inf s) (inf t) h k = le_refl (2 ^ (low f + suc (emax f)))
key_mono f (inf s) (fin t n d) h k = absurd (unfold le in k)
key_mono f (fin s m e) nan h k = absurd (unfold le in k)
key_mono f (fin s m e) (inf t) h k = under_top f s m e h
key_mono f (fin s m e) (fin t n d) h k =
    div_mono (m * up e * 2 ^ low f) (down e) (n * up d * 2 ^ low f) (down d) (down_pos e) (down_pos d)
    (le_trans (le_of_eq (mul_right_comm (m * up e) (2 ^ low f) (down d)))
    (le_trans (mul-le-mul_right (2 ^ low f) (le_fin→ false m e false n d k)) (le_of_eq (mul_right_comm (n * up d) (down e) (2 ^ low f)))))

abs-key : (f : Format) (x : Float) → key f (abs x) ≡ key f x
unfolding key
abs-key f nan = refl
abs-key f (inf s) = refl
abs-key f (fin s m e) = refl

clear : (x : Float) → sgn (abs x) ≡ false
clear nan = refl
clear (inf s) = refl
clear (fin s m e) = refl

abs-bits : (f : Format) (x : Float) → T (not (is_nan x)) → to_bits f (abs x) ≡ pack f (key f x)
abs-bits f x h =
    bits_are f (abs x) (abs-real x h)
    ∙ ap (λ (b : Bool). cond b (top f) 0 + pack f (key f (abs x))) (clear x)
    ∙ zero-add (pack f (key f (abs x)))
    ∙ ap (pack f) (abs-key f x)

-- ---- a value that fits is given by its sign and its key
abs_unique : (f : Format) (x y : Float) → T (fits f x) → T (fits f y) → T (not (is_nan x)) → T (not (is_nan y)) → pack f (key f x) ≡ pack f (key f y) → abs x ≡ abs y
abs_unique f x y h k p q e =
    sym (of_bits-to_bits f (abs x) (abs-fits f x h)) ∙ ap (of_bits f) (abs-bits f x p ∙ e ∙ sym (abs-bits f y q)) ∙ of_bits-to_bits f (abs y) (abs-fits f y k)

-- the order of the sizes is that of the patterns, and of the keys
pub bits→le : (f : Format) (x y : Float) → T (fits f x) → T (fits f y) → T (not (is_nan x)) → T (not (is_nan y)) → pack f (key f x) ≤ pack f (key f y) → T (le (abs x) (abs y))
bits→le f x y h k p q l =
    elim (total (abs x) (abs y) (abs-real x p) (abs-real y q)) [
      | inl t ↦ t
      | inr g ↦
          let e : pack f (key f x) ≡ pack f (key f y) = le_antisymm l (pack_mono f (key f y) (key f x) (key_mono f y x k (lt→le (abs y) (abs x) g))) in
          subst (λ (z : Float). T (le (abs x) z)) (abs_unique f x y h k p q e) (refl-le (abs x) (abs-real x p))
    ]

pub le→bits : (f : Format) (x y : Float) → T (fits f x) → T (le (abs x) (abs y)) → pack f (key f x) ≤ pack f (key f y)
le→bits f x y h k = pack_mono f (key f x) (key f y) (key_mono f x y h k)

pub le-is-bits : (f : Format) (x y : Float) → T (fits f x) → T (fits f y) → T (not (is_nan x)) → T (not (is_nan y)) → le (abs x) (abs y) ≡ leb (pack f (key f x)) (pack f (key f y))
le-is-bits f x y h k p q =
    same_test (le (abs x) (abs y)) (leb (pack f (key f x)) (pack f (key f y)))
    (λ (t : T (le (abs x) (abs y))). le→leb (pack f (key f x)) (pack f (key f y)) (le→bits f x y h t))
    (λ (t : T (leb (pack f (key f x)) (pack f (key f y)))). bits→le f x y h k p q (leb→le (pack f (key f x)) (pack f (key f y)) t))

small : (o h : ℕ) → 0 < h → o * h < h * suc o
small o h H = let a : h * suc o ≡ h * o + h = mul-suc h o in let b : o * h ≡ h * o = mul_comm o h in omega arith

pub size_small : (f : Format) (x : Float) → T (fits f x) → pack f (key f x) < top f
unfolding key
size_small f x h = lt_of_le_of_lt (pack_mono f (key f x) (2 ^ (low f + suc (emax f))) (key-top f x h)) (subst (λ (z : ℕ). z < top f) (sym (pack-top f)) (small (ones f) (hid f) (pow_pos (prec f - 1))))

-- ---- bits of no `nan`: the size is an infinity's at most

-- ---- values that the format holds, no `nan`, with the sign clear
plus-abs : (x : Float) → T (plus x) → abs x ≡ x
plus-abs nan p = absurd p
plus-abs (inf true) p = absurd p
plus-abs (inf false) p = refl
plus-abs (fin true m e) p = absurd p
plus-abs (fin false m e) p = refl

pub plus-bits : (f : Format) (x : Float) → T (plus x) → to_bits f x ≡ pack f (key f x)
plus-bits f x p = ap (to_bits f) (sym (plus-abs x p)) ∙ abs-bits f x (plus-real x p)

module _ (f : Format) (x y : Float) (g : Good f x) (h : Good f y) where
  pub le→keys : T (le x y) → key f x ≤ key f y
  le→keys t = key_mono f x y g.fit (subst (λ (z : Float). T (le (abs x) z)) (sym (plus-abs y h.pos)) (subst (λ (z : Float). T (le z y)) (sym (plus-abs x g.pos)) t))

  pub keys→le : key f x ≤ key f y → T (le x y)
  keys→le l =
      subst (λ (z : Float). T (le x z)) (plus-abs y h.pos)
      (subst (λ (z : Float). T (le z (abs y))) (plus-abs x g.pos)
      (bits→le f x y g.fit h.fit (plus-real x g.pos) (plus-real y h.pos) (pack_mono f (key f x) (key f y) l)))

  -- one value for each key
  pub key_unique : key f x ≡ key f y → x ≡ y
  key_unique e =
      sym (plus-abs x g.pos) ∙ abs_unique f x y g.fit h.fit (plus-real x g.pos) (plus-real y h.pos) (ap (pack f) e) ∙ plus-abs y h.pos

module _ (f : Format) (x y : Float) (g : Good f x) (h : Good f y) where
  pub le-key : le x y ≡ leb (key f x) (key f y)
  le-key =
      same_test (le x y) (leb (key f x) (key f y)) (λ (t : T (le x y)). le→leb (key f x) (key f y) (le→keys f x y g h t)) (λ (t : T (leb (key f x) (key f y))). keys→le f x y g h (leb→le (key f x) (key f y) t))

  pub eq-key : eq x y ≡ eqb (key f x) (key f y)
  eq-key =
      same_test (eq x y) (eqb (key f x) (key f y))
      (λ (t : T (eq x y)). eq→eqb (le_antisymm (le→keys f x y g h (eq→le x y t)) (le→keys f y x h g (eq→ge x y t))))
      (λ (t : T (eqb (key f x) (key f y))). let e : key f x ≡ key f y = eqb→eq (key f x) (key f y) t in antisym x y (keys→le f x y g h (le_of_eq e)) (keys→le f y x h g (le_of_eq (sym e))))

not-leb : (a b : ℕ) → not (leb b a) ≡ ltb a b
not-leb a b = same_test (not (leb b a)) (ltb a b) (λ (t : T (not (leb b a))). lt→ltb a b (nleb→lt b a t)) (λ (t : T (ltb a b)). not_T (leb b a) (λ (u : T (leb b a)). never (ltb→lt a b t) (leb→le b a u)))
  where
    never : a < b → b ≤ a → ⊥
    never l k = omega arith

pub lt-key : (f : Format) (x y : Float) → Good f x → Good f y → lt x y ≡ ltb (key f x) (key f y)
lt-key f x y g h = lt-is x y (plus-real x g.pos) (plus-real y h.pos) ∙ ap not (le-key f y x h g) ∙ not-leb (key f x) (key f y)
