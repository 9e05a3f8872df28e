-- What each format reads at bit q of given bits, from what its parts read. Assumes nothing.
use mathlib.Core.Path.{◌≡◌, refl, sym, ap, ap₂, ◌∙◌}
use Prim.Native.Nat.{ℕ, suc, ◌+◌, ◌-◌, ◌≤◌, ◌<◌}
use native.Mathlib.Omega.{arith}
use native.Mathlib.Nat.{zero-add}
use native.Mathlib.Numerals.{add-one}
use mathlib.Core.Bool.{Bool, cond}
use mathlib.Core.List.{List}
use lib.Dec.{eqb}
use lib.ListN.{length, drop, take, length-drop}
use lib.Seq.{drop-drop}
use borrow.Author.Tests.{le-leb, lt-leb, eq-eqb, ne_eqb}
use Rattle.bits.specs.Bits.{num, field_at}
use Rattle.format.specs.Format.{Res, fault, got, next, past, Format, field, checked, above, both, literal}

-- ---- behind no indexed value
past-none : {A : Type 0} (x : Res A) → past 0 x ≡ x
past-none (fault n i) = ap (fault n) (zero-add i)
past-none (got a r) = refl

-- ---- a field
pub field-short : (k : ℕ) (l : List Bool) (q : ℕ) → length l - q < k → (field k).parse (drop q l) ≡ fault 13 0
field-short k l q h =
    ap (λ (t : Bool). cond t (got (num (take k (drop q l))) (drop k (drop q l))) (fault 13 0)) (lt-leb k (length (drop q l)) (rw length-drop h))

pub field_found : (k : ℕ) (l : List Bool) (q v : ℕ) → q + k ≤ length l → v ≡ field_at l q k → (field k).parse (drop q l) ≡ got v (drop (q + k) l)
field_found k l q v h e =
    ap (λ (t : Bool). cond t (got (num (take k (drop q l))) (drop k (drop q l))) (fault 13 0)) (le-leb k (length (drop q l)) (rw length-drop (omega arith)))
    ∙ ap₂ got (sym e) (drop-drop k q l)

-- ---- a number stored as one less
pub above-short : (k : ℕ) (l : List Bool) (q : ℕ) → length l - q < k → (above k).parse (drop q l) ≡ fault 13 0
above-short k l q h = ap (λ (x : Res ℕ). next x (λ a r. got (suc a) r)) (field-short k l q h)

pub above-found : (k : ℕ) (l : List Bool) (q v : ℕ) → q + k ≤ length l → v ≡ field_at l q k → (above k).parse (drop q l) ≡ got (v + 1) (drop (q + k) l)
above-found k l q v h e =
    ap (λ (x : Res ℕ). next x (λ a r. got (suc a) r)) (field_found k l q v h e) ∙ ap (λ (n : ℕ). got n (drop (q + k) l)) (sym (add-one v))

-- ---- a test; one after another
module _ {A : Type 0} (n : ℕ) (t : A → Bool) (F : Format A) (l : List Bool) where
  pub checked-fault : (m i : ℕ) → F.parse l ≡ fault m i → (checked n t F).parse l ≡ fault m i
  checked-fault m i e = ap (λ (x : Res A). next x (λ a r. cond (t a) (got a r) (fault n 0))) e

  pub checked-got : (a : A) (r : List Bool) (b : Bool) → F.parse l ≡ got a r → t a ≡ b → (checked n t F).parse l ≡ cond b (got a r) (fault n 0)
  checked-got a r b e f = ap (λ (x : Res A). next x (λ a r. cond (t a) (got a r) (fault n 0))) e ∙ ap (λ (o : Bool). cond o (got a r) (fault n 0)) f

module _ {A B : Type 0} (F : Format A) (G : A → Format B) (l : List Bool) where
  pub both-fault : (m i : ℕ) → F.parse l ≡ fault m i → (both F G).parse l ≡ fault m i
  both-fault m i e = ap (λ (x : Res A). next x (λ a r. next (past (F.counts a) ((G a).parse r)) (λ b q. got (a, b) q))) e

  pub both-got : (a : A) (r : List Bool) (y : Res B) → F.parse l ≡ got a r → (G a).parse r ≡ y → (both F G).parse l ≡ next (past (F.counts a) y) (λ b q. got (a, b) q)
  both-got a r y e f = ap (λ (x : Res A). next x (λ a r. next (past (F.counts a) ((G a).parse r)) (λ b q. got (a, b) q))) e ∙ ap (λ (x : Res B). next (past (F.counts a) x) (λ b q. got (a, b) q)) f

  -- behind a value that holds no indexed one
  pub both-plain : (a : A) (r : List Bool) (y : Res B) → F.counts a ≡ 0 → F.parse l ≡ got a r → (G a).parse r ≡ y → (both F G).parse l ≡ next y (λ b q. got (a, b) q)
  both-plain a r y z e f =
      both-got a r y e f
      ∙ ap (λ (k : ℕ). next (past k y) (λ b q. got (a, b) q)) z
      ∙ ap (λ (x : Res B). next x (λ b q. got (a, b) q)) (past-none y)

-- ---- bits that must be those of v
module _ {A : Type 0} (k v n : ℕ) (F : Format A) (l : List Bool) (q : ℕ) where
  pub literal-short : length l - q < k → (literal k v n F).parse (drop q l) ≡ fault 13 0
  literal-short h = ap (λ (x : Res ℕ). next x (λ w r. cond (eqb w v) (F.parse r) (fault n 0))) (field-short k l q h)

  found : (w : ℕ) → q + k ≤ length l → w ≡ field_at l q k → (literal k v n F).parse (drop q l) ≡ cond (eqb w v) (F.parse (drop (q + k) l)) (fault n 0)
  found w h e = ap (λ (x : Res ℕ). next x (λ w r. cond (eqb w v) (F.parse r) (fault n 0))) (field_found k l q w h e)

  pub literal-same : (w : ℕ) → q + k ≤ length l → w ≡ field_at l q k → w ≡ v → (literal k v n F).parse (drop q l) ≡ F.parse (drop (q + k) l)
  literal-same w h e f = found w h e ∙ ap (λ (b : Bool). cond b (F.parse (drop (q + k) l)) (fault n 0)) (eq-eqb w v f)

  pub literal-other : (w : ℕ) → q + k ≤ length l → w ≡ field_at l q k → (w ≡ v → ⊥) → (literal k v n F).parse (drop q l) ≡ fault n 0
  literal-other w h e f = found w h e ∙ ap (λ (b : Bool). cond b (F.parse (drop (q + k) l)) (fault n 0)) (ne_eqb w v f)
