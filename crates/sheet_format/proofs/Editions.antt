-- The editions that there are: each is proper, how many bits its tiles take, and which one a file asks for. Assumes nothing.
use Prim.Native.Nat.{ℕ, ◌+◌, ◌*◌, ◌≤◌, ◌<◌}
use native.Mathlib.Omega.{arith}
use native.Mathlib.Nat.{mul-le-mul, le_refl}
use mathlib.Core.Path.{◌≡◌, refl, sym, ap, ◌∙◌}
use mathlib.Core.Bool.{Bool, true, false, cond, ◌&&◌}
use mathlib.Core.List.{List}
use lib.Dec.{eqb, leb, lit≤}
use lib.ListN.{length}
use borrow.Author.Tests.{eq-eqb, ne_eqb, le-leb, lt-leb}
use Rattle.bits.specs.Bits.{bits, field_at}
use Rattle.bits.proofs.Bytes.{length-bits}
use Rattle.sheet_format.specs.declared.Edition.{Edition}
use Rattle.sheet_format.specs.Sheet.{edition1, edition2, edition_of, entry_size, tiles_size}
use Rattle.sheet_format.specs.Opened.{size_in}
use Rattle.sheet_format.specs.Proper.{Proper}

edition1_proper : Proper edition1
edition1_proper = record { numbered = lit≤ tt; many = lit≤ tt; each = lit≤ tt; few = lit≤ tt; narrow_many = lit≤ tt; narrow_each = lit≤ tt; wide_many = lit≤ tt; wide_each = lit≤ tt }

edition2_proper : Proper edition2
edition2_proper = record { numbered = lit≤ tt; many = lit≤ tt; each = lit≤ tt; few = lit≤ tt; narrow_many = lit≤ tt; narrow_each = lit≤ tt; wide_many = lit≤ tt; wide_each = lit≤ tt }

pub proper : (size : ℕ) → Proper (edition_of size)
unfolding edition_of
proper size = by (eqb size edition2.size)
  where
    by : (b : Bool) → Proper (cond b edition2 edition1)
    by true = edition2_proper
    by false = edition1_proper

-- ---- how many bits tiles take: at most 9 and 104, at least 102 for a colour
module _ (E : Edition) (proper : Proper E) (t n : ℕ) where
  pub tiles-most : tiles_size E t n ≤ 9 * t + 104 * n
  tiles-most =
      let a : E.many * t ≤ 9 * t = mul-le-mul proper.narrow_many (le_refl t) in
      let wide : E.each + 96 ≤ 104 = omega (arith, proper.narrow_each) in
      let b : (E.each + 96) * n ≤ 104 * n = mul-le-mul wide (le_refl n) in
      omega arith

  pub tiles-least : 102 * n ≤ tiles_size E t n
  tiles-least =
      let wide : 102 ≤ E.each + 96 = omega (arith, proper.wide_each) in
      let b : 102 * n ≤ (E.each + 96) * n = mul-le-mul wide (le_refl n) in
      omega arith

-- there is room for one of n more
pub one_more : (w i n : ℕ) → i < n → w * i + w ≤ w * n
one_more w i n h = let next : i + 1 ≤ n = omega arith in let z : w * (i + 1) ≤ w * n = mul-le-mul (le_refl w) next in omega arith

-- and for a tile of k colours behind i tiles of a
pub tile-more : (E : Edition) (t i n a k : ℕ) → i < t → a + k ≤ n → tiles_size E i a + (E.many + entry_size E * k) ≤ tiles_size E t n
tile-more E t i n a k h g =
    let colours : entry_size E * (a + k) ≤ entry_size E * n = mul-le-mul (le_refl (entry_size E)) g in
    omega (arith, one_more E.many i t h)

-- ---- the tile size that a file asks for
module _ (s : List ℕ) where
  pub size-short : length s < 5 → edition1.size ≡ size_in s
  unfolding size_in
  size-short h = let few : length (bits s) < 36 = rw length-bits (omega arith) in rw (lt-leb 36 (length (bits s)) few)

  module _ (long : 5 ≤ length s) (v : ℕ) (e : v ≡ field_at (bits s) 32 4) where
    there : leb 36 (length (bits s)) ≡ true
    there = let enough : 36 ≤ length (bits s) = rw length-bits (omega arith) in le-leb 36 (length (bits s)) enough

    pub size-other : (v ≡ edition2.number → ⊥) → edition1.size ≡ size_in s
    unfolding size_in
    size-other n = rw (there, sym (ap (λ (x : ℕ). eqb x edition2.number) e) ∙ ne_eqb v edition2.number n)

    pub size_large : v ≡ edition2.number → edition2.size ≡ size_in s
    unfolding size_in
    size_large y = rw (there, sym (ap (λ (x : ℕ). eqb x edition2.number) e) ∙ eq-eqb v edition2.number y)
