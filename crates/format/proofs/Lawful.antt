-- A lawful format's reader and writer undo each other: what is written is read back, and what is read was written so. Each way to make a
-- format keeps that. Assumes nothing.
use mathlib.Core.Path.{◌≡◌, refl, sym, ap, ap₂, ◌∙◌, subst, subst₂}
use Prim.Native.Nat.{ℕ, zero, suc, pred, ◌+◌, ◌-◌, ◌^◌}
use native.Mathlib.Omega.{arith}
use mathlib.Core.Bool.{Bool, true, false, ◌&&◌, cond}
use mathlib.Core.List.{List, [], ◌∷◌, ◌++◌, append_assoc}
use lib.Dec.{T, leb, ltb, eqb, leb→le, lt→ltb, ltb→lt, eqb→eq, eqb_refl}
use lib.ListN.{length, take, drop, length-append, take-append-drop}
use lib.Seq.{take_at, drop_at, length-take-le}
use borrow.Author.Tests.{le-leb}
use Rattle.bits.specs.Bits.{bits_of, num}
use Rattle.bits.proofs.Numbers.{length-bits_of, num-bits_of, bits_of-num, num-lt}
use Rattle.format.specs.Format.{Res, fault, got, next, past, Format, indexed, field, checked, mapped, both, above, literal, is_nil, none, print_cons, good_cons, cons, times, counted}
use Rattle.format.proofs.Tests.{and_l, and_r, and_in}

pub record Lawful {A : Type 0} (F : Format A) : Type 0 where
  pub there : (a : A) → T (F.good a) → (r : List Bool) → F.parse (F.print a ++ r) ≡ got a r
  pub back : (l : List Bool) (a : A) (r : List Bool) → F.parse l ≡ got a r → (l ≡ F.print a ++ r) × T (F.good a)

-- ---- what a reading found
module _ {A : Type 0} where
  -- a choice that holds
  pub cond_yes : (t : Bool) (x y : Res A) → T t → cond t x y ≡ x
  cond_yes true x y h = refl
  cond_yes false x y h = absurd h

  never : (n i : ℕ) (a : A) (r : List Bool) → ◌≡◌ {A = Res A} (fault n i) (got a r) → ⊥
  never n i a r e = let z : ◌≡◌ {A = ℕ} 0 1 = cc in omega arith

  pub cond-got : (t : Bool) (x : Res A) (n : ℕ) (a : A) (r : List Bool) → cond t x (fault n 0) ≡ got a r → T t × (x ≡ got a r)
  cond-got true x n a r e = (tt, e)
  cond-got false x n a r e = absurd (never n 0 a r e)

  pub same-value : (a b : A) (r q : List Bool) → ◌≡◌ {A = Res A} (got a r) (got b q) → a ≡ b
  same-value a b r q e = cc

  pub same_rest : (a b : A) (r q : List Bool) → ◌≡◌ {A = Res A} (got a r) (got b q) → r ≡ q
  same_rest a b r q e = cc

  pub next-got : {B : Type 0} (x : Res B) (f : B → List Bool → Res A) (a : A) (r : List Bool) → next x f ≡ got a r
      → (b : B) × (q : List Bool) × (x ≡ got b q) × (f b q ≡ got a r)
  next-got (fault n i) f a r e = absurd (never n i a r e)
  next-got (got b q) f a r e = (b, q, refl, e)

  pub past-got : {B : Type 0} (k : ℕ) (x : Res B) (f : B → List Bool → Res A) (a : A) (r : List Bool) → next (past k x) f ≡ got a r
      → (b : B) × (q : List Bool) × (x ≡ got b q) × (f b q ≡ got a r)
  past-got k (fault n i) f a r e = absurd (never n (k + i) a r e)
  past-got k (got b q) f a r e = (b, q, refl, e)

-- ---- k bits
pub field_lawful : (k : ℕ) → Lawful (field k)
field_lawful k = record { there = printed_read; back = read_printed }
  where
    printed_read : (v : ℕ) → T (ltb v (2 ^ k)) → (r : List Bool) → (field k).parse (bits_of k v ++ r) ≡ got v r
    printed_read v h r =
        cond_yes (leb k (length (bits_of k v ++ r))) (got (num (take k (bits_of k v ++ r))) (drop k (bits_of k v ++ r))) (fault 13 0)
        (subst T (sym (le-leb k (length (bits_of k v ++ r)) (omega (arith, length-append (bits_of k v) r, length-bits_of k v)))) tt)
        ∙ ap₂ got (ap num (take_at (bits_of k v) r k (length-bits_of k v)) ∙ num-bits_of k v (ltb→lt v (2 ^ k) h)) (drop_at (bits_of k v) r k (length-bits_of k v))

    read_printed : (l : List Bool) (v : ℕ) (r : List Bool) → (field k).parse l ≡ got v r → (l ≡ bits_of k v ++ r) × T (ltb v (2 ^ k))
    read_printed l v r e =
        let c = cond-got (leb k (length l)) (got (num (take k l)) (drop k l)) 13 v r e in
        let n : length (take k l) ≡ k = length-take-le k l (leb→le k (length l) c.0) in
        let x : num (take k l) ≡ v = same-value (num (take k l)) v (drop k l) r c.1 in
        let y : drop k l ≡ r = same_rest (num (take k l)) v (drop k l) r c.1 in (
          sym (take-append-drop k l) ∙ ap₂ (λ (a b : List Bool). a ++ b) (sym (bits_of-num k (take k l) n) ∙ ap (bits_of k) x) y,
          subst (λ (m : ℕ). T (ltb m (2 ^ k))) x (lt→ltb (num (take k l)) (2 ^ k) (num-lt k (take k l) n)),
        )

-- ---- a test, an index, another type
module _ {A : Type 0} (n : ℕ) (t : A → Bool) (F : Format A) (L : Lawful F) where
  pub checked_lawful : Lawful (checked n t F)
  checked_lawful = record {
    there = λ a h r. ap (λ (x : Res A). next x (λ b q. cond (t b) (got b q) (fault n 0))) (L.there a (and_l (F.good a) (t a) h) r) ∙ cond_yes (t a) (got a r) (fault n 0) (and_r (F.good a) (t a) h);
    back = λ l a r e.
        let (b, q, x, y) = next-got (F.parse l) (λ b q. cond (t b) (got b q) (fault n 0)) a r e in
        let c = cond-got (t b) (got b q) n a r y in
        let z : F.parse l ≡ got a r = x ∙ c.1 in
        let m = L.back l a r z in
        (m.0, and_in (F.good a) (t a) m.1 (subst (λ (o : A). T (t o)) (same-value b a q r c.1) c.0));
  }

pub indexed_lawful : {A : Type 0} (F : Format A) → Lawful F → Lawful (indexed F)
indexed_lawful F L = record { there = L.there; back = L.back }

module _ {A B : Type 0} (f : A → B) (g : B → A) (t : B → Bool) (F : Format A) (L : Lawful F)
    (fg : (b : B) → T (t b) → f (g b) ≡ b) (gf : (a : A) → T (F.good a) → g (f a) ≡ a) (tf : (a : A) → T (F.good a) → T (t (f a))) where
  pub mapped_lawful : Lawful (mapped f g t F)
  mapped_lawful = record {
    there = λ b h r.
        ap (λ (x : Res A). next x (λ a q. got (f a) q)) (L.there (g b) (and_r (t b) (F.good (g b)) h) r)
        ∙ ap (λ (o : B). got o r) (fg b (and_l (t b) (F.good (g b)) h));
    back = λ l b r e.
        let (a, q, x, y) = next-got (F.parse l) (λ a q. got (f a) q) b r e in
        let m = L.back l a q x in
        let w : g (f a) ≡ a = gf a m.1 in
        subst₂ (λ (o : B) (s : List Bool). (l ≡ F.print (g o) ++ s) × T (t o && F.good (g o))) (same-value (f a) b q r y) (same_rest (f a) b q r y) (
          m.0 ∙ ap (λ (o : A). F.print o ++ q) (sym w),
          and_in (t (f a)) (F.good (g (f a))) (tf a m.1) (subst (λ (o : A). T (F.good o)) (sym w) m.1),
        );
  }

pub above_lawful : (k : ℕ) → Lawful (above k)
above_lawful k = mapped_lawful suc pred (λ n. ltb 0 n) (field k) (field_lawful k) suc-pred (λ a h. refl) (λ a h. lt→ltb 0 (suc a) (omega arith))
  where
    suc-pred : (b : ℕ) → T (ltb 0 b) → suc (pred b) ≡ b
    suc-pred zero h = absurd h
    suc-pred (suc b) h = refl

-- ---- one after another
module _ {A B : Type 0} (F : Format A) (G : A → Format B) (L : Lawful F) (M : (a : A) → Lawful (G a)) where
  pub both_lawful : Lawful (both F G)
  both_lawful = record {
    there = λ x h r.
        let e = append_assoc (F.print x.0) ((G x.0).print x.1) r in
        ap (both F G).parse e
        ∙ ap (λ (o : Res A). next o (λ a r. next (past (F.counts a) ((G a).parse r)) (λ b q. got (a, b) q))) (L.there x.0 (and_l (F.good x.0) ((G x.0).good x.1) h) ((G x.0).print x.1 ++ r))
        ∙ ap (λ (o : Res B). next (past (F.counts x.0) o) (λ b q. got (x.0, b) q)) ((M x.0).there x.1 (and_r (F.good x.0) ((G x.0).good x.1) h) r);
    back = λ l x r e.
        let (a, q, u, v) = next-got (F.parse l) (λ a r. next (past (F.counts a) ((G a).parse r)) (λ b q. got (a, b) q)) x r e in
        let (b, p, w, y) = past-got (F.counts a) ((G a).parse q) (λ b q. got (a, b) q) x r v in
        let m = L.back l a q u in
        let n = (M a).back q b p w in
        subst₂ (λ (o : A × B) (s : List Bool). (l ≡ (both F G).print o ++ s) × T ((both F G).good o)) (same-value (a, b) x p r y) (same_rest (a, b) x p r y) (
          m.0 ∙ ap (λ (s : List Bool). F.print a ++ s) n.0 ∙ sym (append_assoc (F.print a) ((G a).print b) p),
          and_in (F.good a) ((G a).good b) m.1 n.1,
        );
  }

module _ {A : Type 0} (k v n : ℕ) (F : Format A) (L : Lawful F) where
  pub literal_lawful : Lawful (literal k v n F)
  literal_lawful = record {
    there = λ a h r.
        ap (literal k v n F).parse (append_assoc (bits_of k v) (F.print a) r)
        ∙ ap (λ (o : Res ℕ). next o (λ w r. cond (eqb w v) (F.parse r) (fault n 0))) ((field_lawful k).there v (and_l (ltb v (2 ^ k)) (F.good a) h) (F.print a ++ r))
        ∙ cond_yes (eqb v v) (F.parse (F.print a ++ r)) (fault n 0) (eqb_refl v)
        ∙ L.there a (and_r (ltb v (2 ^ k)) (F.good a) h) r;
    back = λ l a r e.
        let (w, q, u, x) = next-got ((field k).parse l) (λ w r. cond (eqb w v) (F.parse r) (fault n 0)) a r e in
        let c = cond-got (eqb w v) (F.parse q) n a r x in
        let m = (field_lawful k).back l w q u in
        let o = L.back q a r c.1 in
        let z : w ≡ v = eqb→eq w v c.0 in (
          m.0 ∙ ap₂ (λ (i : ℕ) (s : List Bool). bits_of k i ++ s) z o.0 ∙ sym (append_assoc (bits_of k v) (F.print a) r),
          and_in (ltb v (2 ^ k)) (F.good a) (subst (λ (i : ℕ). T (ltb i (2 ^ k))) z m.1) o.1,
        );
  }

-- ---- lists
module _ {A : Type 0} where
  pub none_lawful : Lawful (none {A = A})
  none_lawful = record { there = printed_read; back = λ l s r e. subst₂ (λ (o : List A) (q : List Bool). (l ≡ q) × T (is_nil o)) (same-value [] s l r e) (same_rest [] s l r e) (refl, tt) }
    where
      printed_read : (s : List A) → T (is_nil s) → (r : List Bool) → got [] r ≡ got s r
      printed_read [] h r = refl
      printed_read (a ∷ s) h r = absurd h

module _ {A : Type 0} (F : Format A) (G : A → Format (List A)) (L : Lawful F) (M : (a : A) → Lawful (G a)) where
  cons-there : (s : List A) → T (good_cons F G s) → (r : List Bool) → (cons F G).parse (print_cons F G s ++ r) ≡ got s r
  cons-there [] h r = absurd h
  cons-there (a ∷ s) h r =
      ap (cons F G).parse (append_assoc (F.print a) ((G a).print s) r)
      ∙ ap (λ (o : Res A). next o (λ a r. next (past (F.counts a) ((G a).parse r)) (λ s q. got (a ∷ s) q))) (L.there a (and_l (F.good a) ((G a).good s) h) ((G a).print s ++ r))
      ∙ ap (λ (o : Res (List A)). next (past (F.counts a) o) (λ s q. got (a ∷ s) q)) ((M a).there s (and_r (F.good a) ((G a).good s) h) r)

  pub cons_lawful : Lawful (cons F G)
  cons_lawful = record {
    there = cons-there;
    back = λ l x r e.
        let (a, q, u, v) = next-got (F.parse l) (λ a r. next (past (F.counts a) ((G a).parse r)) (λ s q. got (a ∷ s) q)) x r e in
        let (s, p, w, y) = past-got (F.counts a) ((G a).parse q) (λ s q. got (a ∷ s) q) x r v in
        let m = L.back l a q u in
        let n = (M a).back q s p w in
        subst₂ (λ (o : List A) (t : List Bool). (l ≡ print_cons F G o ++ t) × T (good_cons F G o)) (same-value (a ∷ s) x p r y) (same_rest (a ∷ s) x p r y) (
          m.0 ∙ ap (λ (t : List Bool). F.print a ++ t) n.0 ∙ sym (append_assoc (F.print a) ((G a).print s) p),
          and_in (F.good a) ((G a).good s) m.1 n.1,
        );
  }

pub times_lawful : {A : Type 0} (n : ℕ) (F : Format A) → Lawful F → Lawful (times n F)
times_lawful zero F L = none_lawful
times_lawful (suc n) F L = cons_lawful F (λ a. times n F) L (λ a. times_lawful n F L)

module _ {A : Type 0} (N : Format ℕ) (G : ℕ → Format (List A)) (L : Lawful N) (M : (n : ℕ) → Lawful (G n))
    (long : (n : ℕ) (s : List A) → T ((G n).good s) → length s ≡ n) where
  pub counted_lawful : Lawful (counted N G)
  counted_lawful = record {
    there = λ s h r.
        ap (counted N G).parse (append_assoc (N.print (length s)) ((G (length s)).print s) r)
        ∙ ap (λ (o : Res ℕ). next o (λ n r. (G n).parse r)) (L.there (length s) (and_l (N.good (length s)) ((G (length s)).good s) h) ((G (length s)).print s ++ r))
        ∙ (M (length s)).there s (and_r (N.good (length s)) ((G (length s)).good s) h) r;
    back = λ l s r e.
        let (n, q, u, v) = next-got (N.parse l) (λ n r. (G n).parse r) s r e in
        let m = L.back l n q u in
        let o = (M n).back q s r v in
        let z : n ≡ length s = sym (long n s o.1) in
        subst (λ (i : ℕ). (l ≡ (N.print i ++ (G i).print s) ++ r) × T (N.good i && (G i).good s)) z (
          m.0 ∙ ap (λ (t : List Bool). N.print n ++ t) o.0 ∙ sym (append_assoc (N.print n) ((G n).print s) r),
          and_in (N.good n) ((G n).good s) m.1 o.1,
        );
  }
