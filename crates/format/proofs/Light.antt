-- A light format counts no more than it takes: the indexed values that a value holds are at most the bits that were read for it, and those that
-- a fault stands behind at most the bits that were there. Each way to make a format keeps that. Assumes nothing.
use mathlib.Core.Path.{◌≡◌, refl, ap, subst, subst⁻¹}
use Prim.Native.Nat.{ℕ, zero, suc, ◌+◌, ◌≤◌, ◌<◌}
use native.Mathlib.Omega.{arith}
use mathlib.Core.Bool.{Bool, true, false, cond}
use mathlib.Core.List.{List, ◌∷◌}
use lib.Dec.{T, leb}
use lib.ListN.{length, take, drop, length-append, length-drop}
use Rattle.bits.specs.Bits.{num}
use Rattle.format.specs.Format.{Res, fault, got, next, past, Format, indexed, field, checked, above, both, none, cons, times, counted}
use Rattle.format.proofs.Lawful.{Lawful}

-- of a reading of l
abbrev pub Within : {A : Type 0} → Format A → List Bool → Res A → Type 0
Within F l (fault n i) = i ≤ length l
Within F l (got a r) = F.counts a + length r ≤ length l

abbrev pub Light : {A : Type 0} → Format A → Type 0
Light F = (l : List Bool) → Within F l (F.parse l)

module _ {A : Type 0} (F : Format A) (light : Light F) (l : List Bool) where
  pub light_fault : (n i : ℕ) → F.parse l ≡ fault n i → i ≤ length l
  light_fault n i e = subst (Within F l) e (light l)

  pub light_got : (a : A) (r : List Bool) → F.parse l ≡ got a r → F.counts a + length r ≤ length l
  light_got a r e = subst (Within F l) e (light l)

-- ---- a field, a test, a number stored as one less
pub field_light : (k : ℕ) → Light (field k)
field_light k l = by (leb k (length l))
  where
    by : (t : Bool) → Within (field k) l (cond t (got (num (take k l)) (drop k l)) (fault 13 0))
    by true = omega (arith, length-drop k l)
    by false = omega arith

pub checked_light : {A : Type 0} (n : ℕ) (t : A → Bool) (F : Format A) → Light F → Light (checked n t F)
checked_light {A} n t F f l = by (F.parse l) (f l)
  where
    tested : (a : A) (r : List Bool) (b : Bool) → F.counts a + length r ≤ length l → Within (checked n t F) l (cond b (got a r) (fault n 0))
    tested a r true h = h
    tested a r false h = omega arith

    by : (x : Res A) → Within F l x → Within (checked n t F) l (next x (λ a r. cond (t a) (got a r) (fault n 0)))
    by (fault m i) h = h
    by (got a r) h = tested a r (t a) h

pub above_light : (k : ℕ) → Light (above k)
above_light k l = by ((field k).parse l) (field_light k l)
  where
    by : (x : Res ℕ) → Within (field k) l x → Within (above k) l (next x (λ a r. got (suc a) r))
    by (fault m i) h = h
    by (got a r) h = h

-- ---- an indexed value, of one bit or more
module _ {A : Type 0} (F : Format A) (L : Lawful F) (some : (a : A) → 0 < length (F.print a)) (f : Light F) where
  pub indexed_light : Light (indexed F)
  indexed_light l = by (F.parse l) refl (f l)
    where
      by : (x : Res A) → F.parse l ≡ x → Within F l x → Within (indexed F) l x
      by (fault m i) e h = h
      by (got a r) e h = omega (arith, some a, length-append (F.print a) r, ap length (L.back l a r e).0)

-- ---- one after another
module _ {A B : Type 0} (F : Format A) (G : A → Format B) (f : Light F) (g : (a : A) → Light (G a)) where
  pub both_light : Light (both F G)
  both_light l = first (F.parse l) (f l)
    where
      second : (a : A) (r : List Bool) → F.counts a + length r ≤ length l → (y : Res B) → Within (G a) r y
          → Within (both F G) l (next (past (F.counts a) y) (λ b q. got (a, b) q))
      second a r h (fault n i) j = omega arith
      second a r h (got b q) j = omega arith

      first : (x : Res A) → Within F l x → Within (both F G) l (next x (λ a r. next (past (F.counts a) ((G a).parse r)) (λ b q. got (a, b) q)))
      first (fault n i) h = h
      first (got a r) h = second a r h ((G a).parse r) (g a r)

-- ---- lists
pub none_light : (A : Type 0) → Light (none {A = A})
none_light A l = omega arith

module _ {A : Type 0} (F : Format A) (G : A → Format (List A)) (f : Light F) (g : (a : A) → Light (G a)) where
  pub cons_light : Light (cons F G)
  cons_light l = first (F.parse l) (f l)
    where
      second : (a : A) (r : List Bool) → F.counts a + length r ≤ length l → (y : Res (List A)) → Within (G a) r y
          → Within (cons F G) l (next (past (F.counts a) y) (λ s q. got (a ∷ s) q))
      second a r h (fault n i) j = omega arith
      second a r h (got s q) j = omega arith

      first : (x : Res A) → Within F l x → Within (cons F G) l (next x (λ a r. next (past (F.counts a) ((G a).parse r)) (λ s q. got (a ∷ s) q)))
      first (fault n i) h = h
      first (got a r) h = second a r h ((G a).parse r) (g a r)

pub times_light : {A : Type 0} (n : ℕ) (F : Format A) → Light F → Light (times n F)
times_light {A} zero F f = none_light A
times_light (suc n) F f = cons_light F (λ a. times n F) f (λ a. times_light n F f)

module _ {A : Type 0} (N : Format ℕ) (G : ℕ → Format (List A)) (f : Light N) (g : (n : ℕ) → Light (G n)) (M : (n : ℕ) → Lawful (G n))
    (long : (n : ℕ) (s : List A) → T ((G n).good s) → length s ≡ n) where
  pub counted_light : Light (counted N G)
  counted_light l = first (N.parse l) (f l)
    where
      second : (n : ℕ) (r : List Bool) → length r ≤ length l → (y : Res (List A)) → (G n).parse r ≡ y → Within (G n) r y → Within (counted N G) l y
      second n r h (fault m i) e j = omega arith
      second n r h (got s q) e j =
          let same : length s ≡ n = long n s ((M n).back r s q e).1 in
          subst⁻¹ (λ (k : ℕ). (G k).counts s + length q ≤ length l) same (omega arith)

      first : (x : Res ℕ) → Within N l x → Within (counted N G) l (next x (λ n r. (G n).parse r))
      first (fault m i) h = h
      first (got n r) h = second n r (omega arith) ((G n).parse r) refl (g n r)
