-- Laws of the bits of a number and of the number that bits spell: each undoes the other, and both go by parts. Assumes nothing.
use mathlib.Core.Path.{◌≡◌, refl, sym, ap, ap₂, ◌∙◌, subst}
use Prim.Native.Nat.{ℕ, zero, suc, ◌+◌, ◌*◌, ◌/◌, ◌%◌, ◌^◌, ◌<◌}
use native.Mathlib.Nat.{add_comm, zero-add, suc-add, mul_assoc, pow-suc, div-one, div-div-eq-div-mul, div-add-mod', div-eq_of_lt, div-lt_iff_lt-mul, one-mul}
use native.Mathlib.Omega.{arith}
use mathlib.Core.Bool.{Bool, true, false}
use mathlib.Core.List.{List, [], ◌∷◌, ◌++◌}
use lib.Dec.{eqb}
use lib.Pow.{pow_pos, shr-shr, split, high, low}
use lib.ListN.{length, take, drop, length-drop, take-append-drop}
use lib.Seq.{take-add, length-take-le}
use borrow.Author.Tests.{eq-eqb, ne_eqb}
use Rattle.bits.specs.Bits.{odd, val, bits_of, num_from, num}

-- ---- one bit
val-odd : (n : ℕ) → val (odd n) ≡ n % 2
val-odd n = by (n % 2) (omega arith)
  where
    by : (m : ℕ) → m < 2 → val (eqb m 1) ≡ m
    by zero h = refl
    by (suc zero) h = refl
    by (suc (suc m)) h = absurd (omega arith)

odd_val : (n : ℕ) (b : Bool) → odd (n * 2 + val b) ≡ b
odd_val n true = eq-eqb ((n * 2 + 1) % 2) 1 (omega arith)
odd_val n false = ne_eqb ((n * 2 + 0) % 2) 1 (omega arith)

half-val : (n : ℕ) (b : Bool) → (n * 2 + val b) / 2 ≡ n
half-val n true = omega arith
half-val n false = omega arith

shr_suc : (n k : ℕ) → n / 2 ^ suc k ≡ n / 2 ^ k / 2
shr_suc n k = ap (λ (m : ℕ). n / m) (pow-suc 2 k) ∙ sym (div-div-eq-div-mul n (2 ^ k) 2)

-- ---- the bits of a number spell it, and bits are those of the number that they spell
pub length-bits_of : (k v : ℕ) → length (bits_of k v) ≡ k
length-bits_of zero v = refl
length-bits_of (suc k) v = ap suc (length-bits_of k v)

spelled : (k v : ℕ) → num_from (v / 2 ^ k) (bits_of k v) ≡ v
spelled zero v = div-one v
spelled (suc k) v =
    ap (λ (n : ℕ). num_from n (bits_of k v))
    (ap₂ (λ (x y : ℕ). x * 2 + y) (shr_suc v k) (val-odd (v / 2 ^ k)) ∙ div-add-mod' (v / 2 ^ k) 2)
    ∙ spelled k v

pub num-bits_of : (k v : ℕ) → v < 2 ^ k → num (bits_of k v) ≡ v
num-bits_of k v h = ap (λ (n : ℕ). num_from n (bits_of k v)) (sym (div-eq_of_lt h)) ∙ spelled k v

num_from_shr : (l : List Bool) (acc : ℕ) → num_from acc l / 2 ^ length l ≡ acc
num_from_shr [] acc = div-one acc
num_from_shr (b ∷ l) acc =
    shr_suc (num_from (acc * 2 + val b) l) (length l) ∙ ap (λ (n : ℕ). n / 2) (num_from_shr l (acc * 2 + val b)) ∙ half-val acc b

bits_of-num_from : (l : List Bool) (acc : ℕ) → bits_of (length l) (num_from acc l) ≡ l
bits_of-num_from [] acc = refl
bits_of-num_from (b ∷ l) acc =
    ap₂ {C = List Bool} (λ x y. x ∷ y)
    (ap odd (num_from_shr l (acc * 2 + val b)) ∙ odd_val acc b)
    (bits_of-num_from l (acc * 2 + val b))

pub bits_of-num : (k : ℕ) (l : List Bool) → length l ≡ k → bits_of k (num l) ≡ l
bits_of-num k l e = subst (λ (n : ℕ). bits_of n (num l) ≡ l) e (bits_of-num_from l 0)

pub num-lt : (k : ℕ) (l : List Bool) → length l ≡ k → num l < 2 ^ k
num-lt k l e =
    let z : num l / 2 ^ k ≡ 0 = subst (λ (n : ℕ). num l / 2 ^ n ≡ 0) e (num_from_shr l 0) in
    subst (λ (n : ℕ). num l < n) (one-mul (2 ^ k)) ((div-lt_iff_lt-mul (pow_pos k)).0 (omega arith))

-- ---- by parts
num_from-add : (l : List Bool) (a d : ℕ) → num_from (a + d) l ≡ num_from a l + d * 2 ^ length l
num_from-add [] a d = omega arith
num_from-add (b ∷ l) a d =
    ap (λ (n : ℕ). num_from n l) (omega arith)
    ∙ num_from-add l (a * 2 + val b) (d * 2)
    ∙ ap (λ (n : ℕ). num_from (a * 2 + val b) l + n) (mul_assoc d 2 (2 ^ length l) ∙ ap (λ (n : ℕ). d * n) (omega (arith, pow-suc 2 (length l))))

num_from-is : (l : List Bool) (acc : ℕ) → num_from acc l ≡ acc * 2 ^ length l + num l
num_from-is l acc =
    ap (λ (n : ℕ). num_from n l) (sym (zero-add acc)) ∙ num_from-add l 0 acc ∙ add_comm (num l) (acc * 2 ^ length l)

num_from_append : (x y : List Bool) (acc : ℕ) → num_from acc (x ++ y) ≡ num_from (num_from acc x) y
num_from_append [] y acc = refl
num_from_append (b ∷ x) y acc = num_from_append x y (acc * 2 + val b)

pub num_append : (x y : List Bool) (k : ℕ) → length y ≡ k → num (x ++ y) ≡ num x * 2 ^ k + num y
num_append x y k e = num_from_append x y 0 ∙ num_from-is y (num x) ∙ ap (λ (n : ℕ). num x * 2 ^ n + num y) e

-- the number of k bits behind a of them and before c
pub num-part : (l : List Bool) (a k c : ℕ) → length l ≡ a + k + c → num l / 2 ^ c % 2 ^ k ≡ num (take k (drop a l))
num-part l a k c e =
    let front : num (take (a + k) l) ≡ num (take a l) * 2 ^ k + num (take k (drop a l)) =
    ap num (take-add a k l) ∙ num_append (take a l) (take k (drop a l)) k (length-take-le k (drop a l) (rw length-drop (omega arith))) in
    let whole : num l ≡ num (take (a + k) l) * 2 ^ c + num (drop (a + k) l) =
    ap num (sym (take-append-drop (a + k) l)) ∙ num_append (take (a + k) l) (drop (a + k) l) c (length-drop (a + k) l ∙ omega arith) in
    ap (λ (n : ℕ). n / 2 ^ c % 2 ^ k) whole
    ∙ ap (λ (n : ℕ). n % 2 ^ k) (high (num (take (a + k) l)) c (num-lt c (drop (a + k) l) (length-drop (a + k) l ∙ omega arith)))
    ∙ ap (λ (n : ℕ). n % 2 ^ k) front
    ∙ low (num (take a l)) k (num-lt k (take k (drop a l)) (length-take-le k (drop a l) (rw length-drop (omega arith))))

num-low : (k v : ℕ) → num (bits_of k v) ≡ v % 2 ^ k
num-low k v =
    let s : v / 2 ^ k * 2 ^ k + num (bits_of k v) ≡ v =
    sym (num_from-is (bits_of k v) (v / 2 ^ k) ∙ ap (λ (n : ℕ). v / 2 ^ k * 2 ^ n + num (bits_of k v)) (length-bits_of k v)) ∙ spelled k v in
    omega (arith, split v k)

pub bits_of_mod : (k v : ℕ) → bits_of k (v % 2 ^ k) ≡ bits_of k v
bits_of_mod k v = ap (bits_of k) (sym (num-low k v)) ∙ bits_of-num k (bits_of k v) (length-bits_of k v)

pub bits_of_append : (j k v : ℕ) → bits_of (j + k) v ≡ bits_of j (v / 2 ^ k) ++ bits_of k v
bits_of_append zero k v = ap (λ (n : ℕ). bits_of n v) (zero-add k)
bits_of_append (suc j) k v =
    ap (λ (n : ℕ). bits_of n v) (suc-add j k)
    ∙ ap₂ {C = List Bool} (λ x y. x ∷ y) (ap (λ (n : ℕ). odd (v / 2 ^ n)) (add_comm j k) ∙ ap odd (sym (shr-shr v k j))) (bits_of_append j k v)

pub bits_of-joined : (j k h v : ℕ) → v < 2 ^ k → bits_of (j + k) (h * 2 ^ k + v) ≡ bits_of j h ++ bits_of k v
bits_of-joined j k h v l =
    bits_of_append j k (h * 2 ^ k + v)
    ∙ ap₂ (λ (x y : List Bool). x ++ y) (ap (bits_of j) (high h k l)) (sym (bits_of_mod k (h * 2 ^ k + v)) ∙ ap (bits_of k) (low h k l))
