-- Formats that take a fixed number of bits: where the parts of what was read stand. Assumes nothing.
use mathlib.Core.Path.{◌≡◌, sym, ap, ap₂, ◌∙◌}
use Prim.Native.Nat.{ℕ, zero, suc, ◌+◌, ◌-◌, ◌*◌, ◌≤◌}
use native.Mathlib.Omega.{arith}
use native.Mathlib.Nat.{zero-mul, suc-mul, add-zero, add_assoc}
use mathlib.Core.Bool.{Bool, cond}
use mathlib.Core.List.{List, [], ◌∷◌}
use lib.Dec.{leb, eqb, leb→le}
use lib.ListN.{length, drop, length-drop}
use lib.Seq.{drop-drop}
use Rattle.bits.specs.Bits.{field_at}
use Rattle.format.specs.Format.{fault, got, next, past, Format, indexed, field, checked, above, both, literal, cons, times}
use Rattle.format.proofs.Lawful.{cond-got, same-value, same_rest, next-got, past-got}

-- F takes k bits, wherever it reads
abbrev pub Fixed : {A : Type 0} → Format A → ℕ → Type 0
Fixed {A} F k = (l : List Bool) (p : ℕ) (a : A) (r : List Bool) → F.parse (drop p l) ≡ got a r → r ≡ drop (p + k) l

-- ---- one field: its bits are there, and spell the value
pub field_says : (k : ℕ) (l : List Bool) (p v : ℕ) (r : List Bool) → (field k).parse (drop p l) ≡ got v r → (k ≤ length l - p) × (v ≡ field_at l p k) × (r ≡ drop (p + k) l)
field_says k l p v r e =
    let c = cond-got (leb k (length (drop p l))) (got (field_at l p k) (drop k (drop p l))) 13 v r e in (
      rw length-drop at (leb→le k (length (drop p l)) c.0),
      sym (same-value (field_at l p k) v (drop k (drop p l)) r c.1),
      sym (same_rest (field_at l p k) v (drop k (drop p l)) r c.1) ∙ drop-drop k p l,
    )

pub field_fixed : (k : ℕ) → Fixed (field k) k
field_fixed k l p a r e = (field_says k l p a r e).2

pub checked_fixed : {A : Type 0} (n : ℕ) (t : A → Bool) (F : Format A) (k : ℕ) → Fixed F k → Fixed (checked n t F) k
checked_fixed n t F k f l p a r e =
    let (b, q, x, y) = next-got (F.parse (drop p l)) (λ b q. cond (t b) (got b q) (fault n 0)) a r e in
    f l p a r (x ∙ (cond-got (t b) (got b q) n a r y).1)

pub indexed_fixed : {A : Type 0} (F : Format A) (k : ℕ) → Fixed F k → Fixed (indexed F) k
indexed_fixed F k f = f

pub above_fixed : (k : ℕ) → Fixed (above k) k
above_fixed k l p a r e =
    let (b, q, x, y) = next-got ((field k).parse (drop p l)) (λ a r. got (suc a) r) a r e in
    sym (same_rest (suc b) a q r y) ∙ field_fixed k l p b q x

-- ---- one after another
module _ {A B : Type 0} (F : Format A) (G : A → Format B) (k : ℕ) (f : Fixed F k) (l : List Bool) (p : ℕ) (x : A × B) (r : List Bool) (e : (both F G).parse (drop p l) ≡ got x r) where
  pub both_first : F.parse (drop p l) ≡ got x.0 (drop (p + k) l)
  both_first =
      let (a, q, u, v) = next-got (F.parse (drop p l)) (λ a r. next (past (F.counts a) ((G a).parse r)) (λ b q. got (a, b) q)) x r e in
      let (b, o, w, y) = past-got (F.counts a) ((G a).parse q) (λ b q. got (a, b) q) x r v in
      u ∙ ap₂ got (ap (λ (z : A × B). z.0) (same-value (a, b) x o r y)) (f l p a q u)

  pub both-second : (G x.0).parse (drop (p + k) l) ≡ got x.1 r
  both-second =
      let (a, q, u, v) = next-got (F.parse (drop p l)) (λ a r. next (past (F.counts a) ((G a).parse r)) (λ b q. got (a, b) q)) x r e in
      let (b, o, w, y) = past-got (F.counts a) ((G a).parse q) (λ b q. got (a, b) q) x r v in
      let z : (a, b) ≡ x = same-value (a, b) x o r y in
      ap₂ (λ (i : A) (m : List Bool). (G i).parse m) (sym (ap (λ (t : A × B). t.0) z)) (sym (f l p a q u)) ∙ w
      ∙ ap₂ got (ap (λ (t : A × B). t.1) z) (same_rest (a, b) x o r y)

pub both_fixed : {A B : Type 0} (F : Format A) (G : A → Format B) (k j : ℕ) → Fixed F k → ((a : A) → Fixed (G a) j) → Fixed (both F G) (k + j)
both_fixed F G k j f g l p x r e = g x.0 l (p + k) x.1 r (both-second F G k f l p x r e) ∙ ap (λ (i : ℕ). drop i l) (add_assoc p k j)

pub literal_inner : {A : Type 0} (k v n : ℕ) (F : Format A) (l : List Bool) (p : ℕ) (a : A) (r : List Bool) → (literal k v n F).parse (drop p l) ≡ got a r → F.parse (drop (p + k) l) ≡ got a r
literal_inner k v n F l p a r e =
    let (w, q, x, y) = next-got ((field k).parse (drop p l)) (λ w r. cond (eqb w v) (F.parse r) (fault n 0)) a r e in
    ap F.parse (sym (field_fixed k l p w q x)) ∙ (cond-got (eqb w v) (F.parse q) n a r y).1

pub literal_fixed : {A : Type 0} (k v n j : ℕ) (F : Format A) → Fixed F j → Fixed (literal k v n F) (k + j)
literal_fixed k v n j F f l p a r e = f l (p + k) a r (literal_inner k v n F l p a r e) ∙ ap (λ (i : ℕ). drop i l) (add_assoc p k j)

-- ---- lists
module _ {A : Type 0} (F : Format A) (G : A → Format (List A)) (k : ℕ) (f : Fixed F k) (l : List Bool) (p : ℕ) (s : List A) (r : List Bool) (e : (cons F G).parse (drop p l) ≡ got s r) where
  pub cons-parts : (a : A) × (t : List A) × (F.parse (drop p l) ≡ got a (drop (p + k) l)) × ((G a).parse (drop (p + k) l) ≡ got t r) × (a ∷ t ≡ s)
  cons-parts =
      let (a, q, u, v) = next-got (F.parse (drop p l)) (λ a r. next (past (F.counts a) ((G a).parse r)) (λ s q. got (a ∷ s) q)) s r e in
      let (t, o, w, y) = past-got (F.counts a) ((G a).parse q) (λ s q. got (a ∷ s) q) s r v in
      (a, t, u ∙ ap (got a) (f l p a q u), ap (G a).parse (sym (f l p a q u)) ∙ w ∙ ap (got t) (same_rest (a ∷ t) s o r y), same-value (a ∷ t) s o r y)

pub times_fixed : {A : Type 0} (n : ℕ) (F : Format A) (k : ℕ) → Fixed F k → Fixed (times n F) (n * k)
times_fixed zero F k f l p a r e = sym (same_rest [] a (drop p l) r e) ∙ ap (λ (i : ℕ). drop i l) (sym (ap (λ (i : ℕ). p + i) (zero-mul k) ∙ add-zero p))
times_fixed (suc n) F k f l p a r e =
    let (b, t, x, y, z) = cons-parts F (λ a. times n F) k f l p a r e in
    let w : p + k + n * k ≡ p + suc n * k = omega (arith, suc-mul n k) in
    times_fixed n F k f l (p + k) t r y ∙ ap (λ (i : ℕ). drop i l) w

pub times_long : {A : Type 0} (n : ℕ) (F : Format A) (l : List Bool) (v : List A) (r : List Bool) → (times n F).parse l ≡ got v r → length v ≡ n
times_long zero F l v r e = ap length (sym (same-value [] v l r e))
times_long (suc n) F l v r e =
    let (a, q, u, w) = next-got (F.parse l) (λ a r. next (past (F.counts a) ((times n F).parse r)) (λ s q. got (a ∷ s) q)) v r e in
    let (t, o, x, y) = past-got (F.counts a) ((times n F).parse q) (λ s q. got (a ∷ s) q) v r w in
    ap length (sym (same-value (a ∷ t) v o r y)) ∙ ap suc (times_long n F q t o x)
