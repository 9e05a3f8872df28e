-- A number's bytes stored one after another, and a field written into the bytes that it touches. Assumes nothing.
use mathlib.Core.Path.{◌≡◌, sym, ap, ap₂, ◌∙◌, subst}
use Prim.Native.Nat.{ℕ, ◌+◌, ◌-◌, ◌*◌, ◌/◌, ◌%◌, ◌^◌, ◌≤◌, ◌<◌}
use native.Mathlib.Nat.{mod-lt, lt_of_lt_of_le}
use native.Mathlib.Omega.{arith}
use mathlib.Core.Bool.{Bool}
use mathlib.Core.List.{List, ◌++◌}
use lib.Pow.{pow_pos, pow_mono, shl_lt, shl_exact}
use lib.ListN.{length, take, drop, set, length-append, length-drop, take-append-drop}
use lib.Seq.{sets, sets-eq, length-sets, length-take-le, take-add, drop_at}
use Rattle.bits.specs.Bits.{bits_of, num, bits, field_at, written}
use Rattle.bits.proofs.Numbers.{length-bits_of, num-lt, bits_of-num, bits_of_mod, bits_of_append, bits_of-joined}
use Rattle.bits.proofs.Bytes.{bits-set}
use Rattle.bits.proofs.Fields.{sets_append, written-sets}
use Rattle.bits.proofs.Gathered.{one_shl}

-- ---- byte j of x stored: what is left to store gives the whole g
pub spell_step : (s t : List ℕ) (x j e : ℕ) (g : List Bool) → j < e → j < length s → t ≡ set s j (x / 2 ^ (8 * (e - 1 - j)) % 256)
    → sets (bits s) (8 * j) (bits_of (8 * (e - j)) x) ≡ g → sets (bits t) (8 * (j + 1)) (bits_of (8 * (e - (j + 1))) x) ≡ g
spell_step s t x j e g h l stored whole =
    let n : ℕ = 8 * (e - 1 - j) in
    let left : 8 * (e - (j + 1)) ≡ n = omega arith in
    let all : 8 + n ≡ 8 * (e - j) = omega arith in
    let next : 8 * (j + 1) ≡ 8 * j + 8 = omega arith in
    ap₂ (λ (i k : ℕ). sets (bits t) i (bits_of k x)) next left
    ∙ ap (λ (u : List ℕ). sets (bits u) (8 * j + 8) (bits_of n x)) stored
    ∙ ap (λ (u : List Bool). sets u (8 * j + 8) (bits_of n x))
    (bits-set s j (x / 2 ^ n % 256) l ∙ ap (sets (bits s) (8 * j)) (bits_of_mod 8 (x / 2 ^ n)))
    ∙ sym (sets_append (bits_of 8 (x / 2 ^ n)) (bits_of n x) (bits s) (8 * j))
    ∙ ap (sets (bits s) (8 * j)) (sym (bits_of_append 8 n x) ∙ ap (λ (i : ℕ). bits_of i x) all)
    ∙ whole

-- ---- a head, the low k bits of v, a tail
module _ (head k v spare tail : ℕ) (h : head < 2 ^ 7) (narrow : k ≤ 32) (few : spare ≤ 7) (t : tail < 2 ^ spare) where
  low-lt : v % 2 ^ k < 2 ^ k
  low-lt = mod-lt v (pow_pos k)

  head_shl : (head * 2 ^ k) % 2 ^ 64 ≡ head * 2 ^ k
  head_shl = shl_exact 7 k 64 h (omega arith)

  pub high_is : (head * 2 ^ k) % 2 ^ 64 + v % ((1 * 2 ^ k) % 2 ^ 64) ≡ head * 2 ^ k + v % 2 ^ k
  high_is = ap₂ (λ (a m : ℕ). a + v % m) head_shl (one_shl k narrow)

  high_lt : head * 2 ^ k + v % 2 ^ k < 2 ^ 40
  high_lt = omega (arith, lt_of_lt_of_le (shl_lt 7 k h) (pow_mono {j = 39} (omega arith)), lt_of_lt_of_le low-lt (pow_mono {j = 32} narrow))

  pub joined_is : (((head * 2 ^ k) % 2 ^ 64 + v % ((1 * 2 ^ k) % 2 ^ 64)) * 2 ^ spare) % 2 ^ 64 + tail ≡ (head * 2 ^ k + v % 2 ^ k) * 2 ^ spare + tail
  joined_is =
      ap (λ (n : ℕ). n + tail) (ap (λ (n : ℕ). (n * 2 ^ spare) % 2 ^ 64) high_is ∙ shl_exact 40 spare 64 high_lt (omega arith))

  pub joined-fits : (((head * 2 ^ k) % 2 ^ 64 + v % ((1 * 2 ^ k) % 2 ^ 64)) * 2 ^ spare) % 2 ^ 64 + tail < 2 ^ 64
  joined-fits =
      subst (λ (n : ℕ). n < 2 ^ 64) (sym joined_is)
      (omega (arith, lt_of_lt_of_le (shl_lt 40 spare high_lt) (pow_mono {j = 47} (omega arith)), lt_of_lt_of_le t (pow_mono {j = 7} few)))

-- ---- what stands there is stored again
same-part : (l : List Bool) (p n : ℕ) → p + n ≤ length l → sets l p (take n (drop p l)) ≡ l
same-part l p n h =
    let long : length (take n (drop p l)) ≡ n = length-take-le n (drop p l) (rw length-drop (omega arith)) in
    sets-eq (take n (drop p l)) l p (rw long h)
    ∙ ap₂ (λ (x : List Bool) (i : ℕ). x ++ drop (p + i) l) (sym (take-add p n l)) long
    ∙ take-append-drop (p + n) l

-- all behind a field that is stored stays
behind : (l : List Bool) (p k v : ℕ) → p + k ≤ length l → drop (p + k) (sets l p (bits_of k v)) ≡ drop (p + k) l
behind l p k v h =
    let long : length (bits_of k v) ≡ k = length-bits_of k v in
    let front : length (take p l ++ bits_of k v) ≡ p + k = length-append (take p l) (bits_of k v) ∙ omega (arith, length-take-le p l (omega arith)) in
    ap (drop (p + k)) (sets-eq (bits_of k v) l p (rw long h))
    ∙ drop_at (take p l ++ bits_of k v) (drop (p + length (bits_of k v)) l) (p + k) front
    ∙ ap (λ (i : ℕ). drop (p + i) l) long

-- the field written, with the other bits of the bytes that it touches
pub put_is : (l : List Bool) (b a k spare v : ℕ) → b + a + k + spare ≤ length l
    → sets l b (bits_of (a + k + spare) ((field_at l b a * 2 ^ k + v % 2 ^ k) * 2 ^ spare + field_at l (b + a + k) spare)) ≡ written l (b + a) k v
put_is l b a k spare v h =
    let A : List Bool = take a (drop b l) in
    let B : List Bool = bits_of k v in
    let Q : List Bool = take spare (drop (b + a + k) l) in
    let al : length A ≡ a = length-take-le a (drop b l) (rw length-drop (omega arith)) in
    let bl : length B ≡ k = length-bits_of k v in
    let ql : length Q ≡ spare = length-take-le spare (drop (b + a + k) l) (rw length-drop (omega arith)) in
    let split : bits_of (a + k + spare) ((num A * 2 ^ k + v % 2 ^ k) * 2 ^ spare + num Q) ≡ A ++ B ++ Q =
    bits_of-joined (a + k) spare (num A * 2 ^ k + v % 2 ^ k) (num Q) (num-lt spare Q ql)
    ∙ ap₂ (λ (x y : List Bool). x ++ y)
    (bits_of-joined a k (num A) (v % 2 ^ k) (mod-lt v (pow_pos k)) ∙ ap₂ (λ (x y : List Bool). x ++ y) (bits_of-num a A al) (bits_of_mod k v))
    (bits_of-num spare Q ql) in
    let joint : b + length (A ++ B) ≡ b + a + k = omega (arith, length-append A B) in
    let seam : b + length A ≡ b + a = omega arith in
    let kept : drop (b + a + k) (sets l (b + a) B) ≡ drop (b + a + k) l = behind l (b + a) k v (omega arith) in
    ap (sets l b) split
    ∙ sets_append (A ++ B) Q l b
    ∙ ap₂ (λ (x : List Bool) (i : ℕ). sets x i Q) (sets_append A B l b ∙ ap₂ (λ (x : List Bool) (i : ℕ). sets x i B) (same-part l b a (omega arith)) seam) joint
    ∙ ap (λ (x : List Bool). sets (sets l (b + a) B) (b + a + k) (take spare x)) (sym kept)
    ∙ same-part (sets l (b + a) B) (b + a + k) spare (rw (length-sets l (b + a) B) h)
    ∙ sym (written-sets l (b + a) k v (omega arith))

-- what `put` stores: the bytes from p / 8 up to (p + k + 7) / 8
pub put_done : (l t : List Bool) (p k v h q x : ℕ) → 8 * ((p + k + 7) / 8) ≤ length l
    → h ≡ field_at l (8 * (p / 8)) (p % 8) → q ≡ field_at l (p + k) (8 * ((p + k + 7) / 8) - (p + k))
    → x ≡ (h * 2 ^ k + v % 2 ^ k) * 2 ^ (8 * ((p + k + 7) / 8) - (p + k)) + q
    → t ≡ sets l (8 * (p / 8)) (bits_of (8 * ((p + k + 7) / 8 - p / 8)) x)
    → t ≡ written l p k v
put_done l t p k v h q x room eh eq ex et =
    let b : ℕ = 8 * (p / 8) in
    let spare : ℕ = 8 * ((p + k + 7) / 8) - (p + k) in
    let there : b + p % 8 ≡ p = omega arith in
    let field : b + p % 8 + k ≡ p + k = omega arith in
    let wide : 8 * ((p + k + 7) / 8 - p / 8) ≡ p % 8 + k + spare = omega arith in
    let is : x ≡ (field_at l b (p % 8) * 2 ^ k + v % 2 ^ k) * 2 ^ spare + field_at l (b + p % 8 + k) spare =
    ex ∙ ap₂ (λ (i j : ℕ). (i * 2 ^ k + v % 2 ^ k) * 2 ^ spare + j) eh (eq ∙ ap (λ (i : ℕ). field_at l i spare) (sym field)) in
    et
    ∙ ap₂ (λ (i j : ℕ). sets l b (bits_of i j)) wide is
    ∙ put_is l b (p % 8) k spare v (omega arith)
    ∙ ap (λ (i : ℕ). written l i k v) there
