-- What one turn of each loop of the pass finds, and what an answer says of the reading. Assumes nothing.
use mathlib.Core.Path.{◌≡◌, refl, sym, ap, ◌∙◌}
use Prim.Native.Nat.{ℕ, suc, ◌+◌, ◌-◌, ◌*◌, ◌^◌, ◌≤◌, ◌<◌}
use native.Mathlib.Nat.{zero-add, add-zero, add_assoc, sub-zero}
use native.Mathlib.Omega.{arith}
use mathlib.Core.Bool.{Bool}
use mathlib.Core.List.{List, ◌∷◌}
use lib.ListN.{length, drop, length-drop, length-append}
use lib.Seq.{drop-drop, drop-append_seam}
use Rattle.bits.specs.Bits.{bits}
use Rattle.bits.proofs.Bytes.{length-bits}
use Rattle.format.specs.Format.{Res, fault, got, next, past, Format, none, cons, times}
use Rattle.format.proofs.Lawful.{Lawful}
use Rattle.format.proofs.Light.{Light, light_fault, light_got}
use Rattle.sheet_format.specs.declared.Edition.{Edition}
use Rattle.sheet_format.specs.Sheet.{Colour, entry, colours}
use Rattle.std.specs.Prelude.{Result, Ok, Err, MatchResult}
use Rattle.sheet_colours.specs.declared.At.{At}
use Rattle.sheet_colours.specs.declared.Fault.{Fault}
use Rattle.sheet_colours.specs.Steps.{Step, Stopped, numbered, reached, stopped, step_of, step_at, behind}

-- ---- what an answer says of the reading
apart : (n i q k : ℕ) → stopped n i ≡ reached q k → ⊥
apart n i q k e = cc

unfoldable first-of : Step → ℕ
first-of (Ok a) = a.bit
first-of (Err f) = f.number

unfoldable passed-of : Step → ℕ
passed-of (Ok a) = a.passed
passed-of (Err f) = f.passed

reached-is : (q k p j : ℕ) → reached q k ≡ reached p j → (q ≡ p) × (k ≡ j)
unfolding first-of passed-of
reached-is q k p j e = (ap first-of e, ap passed-of e)

stopped-is : (n i m j : ℕ) → stopped n i ≡ stopped m j → (n ≡ m) × (i ≡ j)
unfolding first-of passed-of
stopped-is n i m j e = (ap first-of e, ap passed-of e)

same-fault : {A : Type 0} (n i m j : ℕ) → stopped n i ≡ stopped m j → ◌≡◌ {A = Res A} (fault m j) (fault n i)
same-fault n i m j e = let is = stopped-is n i m j e in cc (is.0, is.1)

step-fault : {A : Type 0} (counts : A → ℕ) (l : List Bool) (x : Res A) (n i : ℕ) → stopped n i ≡ step_of counts l x → x ≡ fault n i
step-fault counts l (fault m j) n i e = same-fault n i m j e
step-fault counts l (got a r) n i e = absurd (apart n i (length l - length r) (counts a) e)

-- a value that was read from bit p of l, up to bit q: it holds k components, which are no more than the bits between
pub record Reached {A : Type 0} (F : Format A) (l : List Bool) (p q k : ℕ) : Type 0 where
  pub value : A
  pub reads : F.parse (drop p l) ≡ got value (drop q l)
  pub holds : k ≡ F.counts value
  pub few : p + k ≤ q
  pub inside : q ≤ length l

module _ {A : Type 0} (F : Format A) (L : Lawful F) (light : Light F) (l : List Bool) (p : ℕ) (within : p ≤ length l) where
  -- the bits that are left after a reading from bit p
  left : (a : A) (r : List Bool) → F.parse (drop p l) ≡ got a r → (drop (length l - length r) l ≡ r) × (length r ≤ length l)
  left a r e =
      let m = (L.back (drop p l) a r e).0 in
      let n : length l - p ≡ length (F.print a) + length r = sym (length-drop p l) ∙ ap length m ∙ length-append (F.print a) r in
      let k : length l - length r ≡ p + length (F.print a) = omega arith in (
        ap (λ (i : ℕ). drop i l) k ∙ sym (drop-drop (length (F.print a)) p l) ∙ ap (drop (length (F.print a))) m ∙ drop-append_seam (F.print a) r,
        omega arith,
      )

  reached-by : (q k : ℕ) → reached q k ≡ step_of F.counts l (F.parse (drop p l)) → Reached F l p q k
  reached-by q k e = by (F.parse (drop p l)) refl e
    where
      by : (x : Res A) → F.parse (drop p l) ≡ x → reached q k ≡ step_of F.counts l x → Reached F l p q k
      by (fault n i) f g = absurd (apart n i q k (sym g))
      by (got a r) f g =
          let z = reached-is q k (length l - length r) (F.counts a) g in
          let end : q ≡ length l - length r = z.0 in
          let held : k ≡ F.counts a = z.1 in
          record {
            value = a;
            reads = f ∙ ap (got a) (sym (left a r f).0 ∙ ap (λ (i : ℕ). drop i l) (sym end));
            holds = held;
            few = omega (arith, light_got F light (drop p l) a r f, length-drop p l);
            inside = omega arith;
          }

-- what was read from bit p of bytes: a fault stands behind no more components than there are bits
abbrev pub Read : {A : Type 0} → Format A → List ℕ → ℕ → Step → Type 0
Read F s p x =
    MatchResult x (λ a. Reached F (bits s) p a.bit a.passed) (λ f. (F.parse (drop p (bits s)) ≡ fault f.number f.passed) × (f.passed ≤ 8 * length s))

pub read_at : {A : Type 0} (F : Format A) → Lawful F → Light F → (s : List ℕ) (p : ℕ) → p ≤ 8 * length s → (x : Step) → x ≡ step_at F s p → Read F s p x
read_at F L light s p h (Ok a) e = reached-by F L light (bits s) p (rw length-bits h) a.bit a.passed e
read_at F L light s p h (Err f) e =
    let is = step-fault F.counts (bits s) (F.parse (drop p (bits s))) f.number f.passed e in
    (is, omega (arith, light_fault F light (drop p (bits s)) f.number f.passed is, length-drop p (bits s), length-bits s))

-- so components before bit p and those read from there are together no more than the bits
pub few : {A : Type 0} (F : Format A) (s : List ℕ) (p passed : ℕ) (x : Result At Fault) → passed ≤ p → p ≤ 8 * length s → length s ≤ 65536 → Read F s p (numbered x)
    → MatchResult x (λ a. passed + a.passed < 2 ^ 64) (λ f. passed + f.passed < 2 ^ 64)
few F s p passed (Ok a) h w l r = omega (arith, r.few, r.inside, length-bits s)
few F s p passed (Err f) h w l r = omega (arith, r.1)

-- ---- behind components
behind-none : (x : Step) → behind 0 x ≡ x
behind-none (Err f) = ap (stopped f.number) (zero-add f.passed)
behind-none (Ok a) = ap (reached a.bit) (zero-add a.passed)

behind_more : (k j : ℕ) (x : Step) → behind (k + j) x ≡ behind k (behind j x)
behind_more k j (Err f) = ap (stopped f.number) (add_assoc k j f.passed)
behind_more k j (Ok a) = ap (reached a.bit) (add_assoc k j a.passed)

-- an answer behind k components says what was answered
pub behind-ok : (k : ℕ) (x : Step) (a : At) → Ok a ≡ behind k x → (j : ℕ) × (a.passed ≡ k + j) × (x ≡ reached a.bit j)
behind-ok k (Ok b) a e = let is = reached-is a.bit a.passed b.bit (k + b.passed) e in (b.passed, is.1, ap (λ (q : ℕ). reached q b.passed) (sym is.0))
behind-ok k (Err f) a e = absurd (apart f.number (k + f.passed) a.bit a.passed (sym e))

pub behind-err : (k : ℕ) (x : Step) (f : Stopped) → Err f ≡ behind k x → (j : ℕ) × (f.passed ≡ k + j) × (x ≡ stopped f.number j)
behind-err k (Ok a) f e = absurd (apart f.number f.passed a.bit (k + a.passed) e)
behind-err k (Err b) f e =
    let is = stopped-is f.number f.passed b.number (k + b.passed) e in (b.passed, is.1, ap (λ (m : ℕ). stopped m b.passed) (sym is.0))

-- ---- lists
module _ {A : Type 0} (F : Format A) (G : A → Format (List A)) (w l : List Bool) where
  forget : (a : A) (x : Res (List A)) → step_of (cons F G).counts w (next (past (F.counts a) x) (λ s q. got (a ∷ s) q)) ≡ behind (F.counts a) (step_of (G a).counts w x)
  forget a (fault n i) = refl
  forget a (got s r) = refl

  abbrev onward : Res A → Step
  onward x = step_of (cons F G).counts w (next x (λ a r. next (past (F.counts a) ((G a).parse r)) (λ s q. got (a ∷ s) q)))

  cons-fault : (m j : ℕ) → F.parse l ≡ fault m j → step_of (cons F G).counts w ((cons F G).parse l) ≡ stopped m j
  cons-fault m j e = ap onward e

  cons-got : (a : A) (r : List Bool) → F.parse l ≡ got a r → step_of (cons F G).counts w ((cons F G).parse l) ≡ behind (F.counts a) (step_of (G a).counts w ((G a).parse r))
  cons-got a r e = ap onward e ∙ forget a ((G a).parse r)

none-at : (A : Type 0) (l : List Bool) (q k : ℕ) → q ≤ length l → behind k (step_of (none {A = A}).counts l ((none {A = A}).parse (drop q l))) ≡ reached q k
none-at A l q k h =
    let z : length l - length (drop q l) ≡ q = omega (arith, length-drop q l) in
    ap (λ (o : ℕ). reached o (k + 0)) z ∙ ap (reached q) (add-zero k)

at_end : (A : Type 0) (s : List ℕ) (q k : ℕ) (F : Format (List A)) (g : Step) → F ≡ none → q ≤ 8 * length s → behind k (step_at F s q) ≡ g → reached q k ≡ g
at_end A s q k F g e h inv = sym (none-at A (bits s) q k (rw length-bits h)) ∙ sym (ap (λ (X : Format (List A)). behind k (step_at X s q)) e) ∙ inv

-- ---- a turn behind k components: what is left to read gives the whole answer g
module _ {A : Type 0} (F : Format A) (G : A → Format (List A)) (s : List ℕ) (q k : ℕ) (g : Step) (inv : behind k (step_at (cons F G) s q) ≡ g) where
  next-fault : (m j t : ℕ) → t ≡ k + j → F.parse (drop q (bits s)) ≡ fault m j → stopped m t ≡ g
  next-fault m j t o e = ap (stopped m) o ∙ sym (ap (behind k) (cons-fault F G (bits s) (drop q (bits s)) m j e)) ∙ inv

  next-got : (a : A) (z t : ℕ) → t ≡ k + F.counts a → F.parse (drop q (bits s)) ≡ got a (drop z (bits s)) → behind t (step_at (G a) s z) ≡ g
  next-got a z t o e =
      ap (λ (u : ℕ). behind u (step_at (G a) s z)) o
      ∙ behind_more k (F.counts a) (step_at (G a) s z)
      ∙ sym (ap (behind k) (cons-got F G (bits s) (drop q (bits s)) a (drop z (bits s)) e)) ∙ inv

pub turn-start : {A : Type 0} (F : Format A) (s : List ℕ) (n q : ℕ) → behind 0 (step_at (times (n - 0) F) s q) ≡ step_at (times n F) s q
turn-start F s n q = behind-none (step_at (times (n - 0) F) s q) ∙ ap (λ (m : ℕ). step_at (times m F) s q) (sub-zero n)

module _ {A : Type 0} (F : Format A) (s : List ℕ) (n i q k : ℕ) (g : Step) (inv : behind k (step_at (times (n - i) F) s q) ≡ g) where
  pub turn_end : n ≤ i → q ≤ 8 * length s → reached q k ≡ g
  turn_end h l = let e : n - i ≡ 0 = omega arith in at_end A s q k (times (n - i) F) g (ap (λ (m : ℕ). times m F) e) l inv

  more : i < n → behind k (step_at (times (suc (n - (i + 1))) F) s q) ≡ g
  more h = let e : suc (n - (i + 1)) ≡ n - i = omega arith in ap (λ (m : ℕ). behind k (step_at (times m F) s q)) e ∙ inv

  pub turn-fault : (m j t : ℕ) → t ≡ k + j → i < n → F.parse (drop q (bits s)) ≡ fault m j → stopped m t ≡ g
  turn-fault m j t o h e = next-fault F (λ a. times (n - (i + 1)) F) s q k g (more h) m j t o e

  pub turn-got : (a : A) (z t : ℕ) → t ≡ k + F.counts a → i < n → F.parse (drop q (bits s)) ≡ got a (drop z (bits s))
      → behind t (step_at (times (n - (i + 1)) F) s z) ≡ g
  turn-got a z t o h e = next-got F (λ a. times (n - (i + 1)) F) s q k g (more h) a z t o e

module _ (E : Edition) (s : List ℕ) (n i q k sum : ℕ) (g : Step) (inv : behind k (step_at (colours E (n - i) sum) s q) ≡ g) where
  pub colours_end : n ≤ i → q ≤ 8 * length s → reached q k ≡ g
  colours_end h l = let e : n - i ≡ 0 = omega arith in at_end Colour s q k (colours E (n - i) sum) g (ap (λ (m : ℕ). colours E m sum) e) l inv

  more-colours : i < n → behind k (step_at (colours E (suc (n - (i + 1))) sum) s q) ≡ g
  more-colours h = let e : suc (n - (i + 1)) ≡ n - i = omega arith in ap (λ (m : ℕ). behind k (step_at (colours E m sum) s q)) e ∙ inv

  pub colours-fault : (m j t : ℕ) → t ≡ k + j → i < n → (entry E sum).parse (drop q (bits s)) ≡ fault m j → stopped m t ≡ g
  colours-fault m j t o h e = next-fault (entry E sum) (λ x. colours E (n - (i + 1)) (sum + x.0)) s q k g (more-colours h) m j t o e

  pub colours-got : (x : Colour) (z t : ℕ) → t ≡ k + (entry E sum).counts x → i < n → (entry E sum).parse (drop q (bits s)) ≡ got x (drop z (bits s))
      → behind t (step_at (colours E (n - (i + 1)) (sum + x.0)) s z) ≡ g
  colours-got x z t o h e = next-got (entry E sum) (λ x. colours E (n - (i + 1)) (sum + x.0)) s q k g (more-colours h) x z t o e
