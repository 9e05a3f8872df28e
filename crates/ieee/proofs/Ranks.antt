-- Values with their indexes, in order: first by value and then by index, as one number, since an index is below 2 ^ 64; and the test that stops a sum, by keys.
-- Values are `Good`, so no `nan` and none negative. Assumes nothing.
use Prim.Native.Nat.{ℕ, ◌≤◌, ◌<◌}
use mathlib.Core.Path.{◌≡◌, sym, ap, ◌∙◌}
use mathlib.Core.Bool.{Bool, true, false, ◌&&◌}
use mathlib.Core.Logic.{inl, inr}
use native.Mathlib.Nat.{eq-or-lt_of_le}
use native.Mathlib.Omega.{arith}
use lib.Dec.{ltb}
use lib.Ieee.{Float, Format, lt, eq}
use borrow.Author.Tests.{lt-ltb, le-ltb, eq-eqb, ne_eqb, ltb-true, ltb-false, eqb-true, eqb-false}
use Rattle.lists.proofs.Tests.{and_l, and_r, and_i, and_no_l, and_case, or_l, or_r, or_case, or_none, or_no}
use Rattle.ieee.specs.Terms.{key, Good, rank_of, over}
use Rattle.ieee.proofs.Keys.{lt-key, eq-key}

-- ---- the answers of tests, as facts of keys
module _ {f : Format} (x y : Float) (g : Good f x) (h : Good f y) where
  pub lt_yes : lt x y ≡ true → key f x < key f y
  lt_yes t = ltb-true _ _ (sym (lt-key f x y g h) ∙ t)

  pub lt_no : lt x y ≡ false → key f y ≤ key f x
  lt_no t = ltb-false _ _ (sym (lt-key f x y g h) ∙ t)

  pub eq_yes : eq x y ≡ true → key f x ≡ key f y
  eq_yes t = eqb-true _ _ (sym (eq-key f x y g h) ∙ t)

  pub eq_no : eq x y ≡ false → key f x ≡ key f y → ⊥
  eq_no t = eqb-false _ _ (sym (eq-key f x y g h) ∙ t)

  pub yes_lt : key f x < key f y → lt x y ≡ true
  yes_lt l = lt-key f x y g h ∙ lt-ltb _ _ l

  pub no_lt : key f y ≤ key f x → lt x y ≡ false
  no_lt l = lt-key f x y g h ∙ le-ltb _ _ l

  pub yes_eq : key f x ≡ key f y → eq x y ≡ true
  yes_eq l = eq-key f x y g h ∙ eq-eqb _ _ l

  pub no_eq : (key f x ≡ key f y → ⊥) → eq x y ≡ false
  no_eq n = eq-key f x y g h ∙ ne_eqb _ _ n

-- ---- what is over the limit stays over it as the sum grows
module _ {f : Format} (x d limit : Float) (lose : Bool) (gx : Good f x) (gd : Good f d) (gl : Good f limit) (le : key f x ≤ key f d) where
  pub over-past : lt limit x ≡ true → over d limit lose ≡ true
  over-past t = or_l (lt limit d) (eq d limit && lose) (yes_lt limit d gl gd (omega (arith, lt_yes limit x gl gx t)))

  pub over_tie : eq x limit ≡ true → lose ≡ true → over d limit lose ≡ true
  over_tie t p =
      let e : key f x ≡ key f limit = eq_yes x limit gx gl t in
      let l : key f limit ≤ key f d = omega arith in
      elim (eq-or-lt_of_le l) [
        | inl z ↦ or_r (lt limit d) (eq d limit && lose) (and_i (eq d limit) lose (yes_eq d limit gd gl (sym z)) p)
        | inr z ↦ or_l (lt limit d) (eq d limit && lose) (yes_lt limit d gl gd z)
      ]

  pub over_mono : over x limit lose ≡ true → over d limit lose ≡ true
  over_mono t =
      or_case (lt limit x) (eq x limit && lose) t over-past
      (λ (p : eq x limit && lose ≡ true). over_tie (and_l (eq x limit) lose p) (and_r (eq x limit) lose p))

-- ---- the code's `sum > limit || (sum == limit && lose)`: r is what its second half answers
module _ (x limit : Float) (lose r : Bool) where
  pub half_asked : eq x limit ≡ true → r ≡ lose → r ≡ eq x limit && lose
  half_asked p q = q ∙ sym (ap (λ (b : Bool). b && lose) p)

  pub half-not : eq x limit ≡ false → r ≡ eq x limit → r ≡ eq x limit && lose
  half-not p q = q ∙ p ∙ sym (and_no_l (eq x limit) lose p)

  pub over_by_first : lt limit x ≡ true → over x limit lose ≡ true
  over_by_first p = or_l (lt limit x) (eq x limit && lose) p

  pub over_by_second : r ≡ eq x limit && lose → r ≡ true → over x limit lose ≡ true
  over_by_second p q = or_r (lt limit x) (eq x limit && lose) (sym p ∙ q)

  pub over_by_none : lt limit x ≡ false → r ≡ eq x limit && lose → r ≡ false → over x limit lose ≡ false
  over_by_none h p q = or_no (lt limit x) (eq x limit && lose) h (sym p ∙ q)

-- ---- the test as one of ranks: x at index i against y at index b, where a tie loses if b comes first
module _ {f : Format} (x y : Float) (i b : ℕ) (gx : Good f x) (gy : Good f y) where
  pub over-rank : b < 18446744073709551616 → over x y (ltb b i) ≡ true → rank_of f y b ≤ rank_of f x i
  over-rank B t =
      or_case (lt y x) (eq x y && ltb b i) t
      (λ (p : lt y x ≡ true). let h = lt_yes y x gy gx p in omega arith)
      (λ (p : eq x y && ltb b i ≡ true).
      let h = eq_yes x y gx gy (and_l (eq x y) (ltb b i) p) in
      let l = ltb-true b i (and_r (eq x y) (ltb b i) p) in
      omega arith)

  pub within-rank : i < 18446744073709551616 → over x y (ltb b i) ≡ false → rank_of f x i ≤ rank_of f y b
  within-rank I t =
      let q = or_none (lt y x) (eq x y && ltb b i) t in
      let h = lt_no y x gy gx q.0 in
      and_case (eq x y) (ltb b i) q.1
      (λ (p : eq x y ≡ false). strict (eq_no x y gx gy p) h)
      (λ (p : ltb b i ≡ false). let l = ltb-false b i p in omega arith)
    where
      strict : (key f x ≡ key f y → ⊥) → key f x ≤ key f y → rank_of f x i ≤ rank_of f y b
      strict n h = elim (eq-or-lt_of_le h) [ inl e ↦ absurd (n e) | inr l ↦ omega arith ]
