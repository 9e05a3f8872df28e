-- The numbers that reading a sheet may fail with are those that its format names: 12 only by the opening and the edition, and never 0 or 3. Assumes nothing.
use Prim.Native.Nat.{ℕ, zero, suc, ◌+◌, ◌*◌}
use mathlib.Core.Path.{◌≡◌, refl, ap, ◌∙◌}
use mathlib.Core.Bool.{Bool, true, false, not, cond, ◌&&◌, ◌||◌}
use mathlib.Core.List.{List}
use lib.Dec.{leb, eqb}
use lib.ListN.{length, take, drop}
use Rattle.bits.specs.Bits.{num}
use Rattle.format.specs.Format.{Res, fault, got, next, past, Format, field, checked, above, both, literal, cons, times, counted}
use Rattle.format_pattern.specs.Pattern.{small, weighs}
use Rattle.sheet_format.specs.declared.Edition.{Edition}
use Rattle.sheet_format.specs.Sheet.{opening, component, weight, tiled, coloured, sized, whole, entry, colours, tile, dated, header, rest, sheet}
use Rattle.sheet_format.specs.Opened.{misopened}

module _ (k : ℕ) where
  -- a reading that fails with number k
  abbrev pub failed : {A : Type 0} → Res A → Bool
  failed (fault n i) = eqb n k
  failed (got a r) = false

  -- a format that never does
  abbrev pub Never : {A : Type 0} → Format A → Type 0
  Never F = (l : List Bool) → failed (F.parse l) ≡ false

  next_failed : {A B : Type 0} (x : Res A) (f : A → List Bool → Res B) → ((a : A) (r : List Bool) → failed (f a r) ≡ false) → failed (next x f) ≡ failed x
  next_failed (fault n i) f h = refl
  next_failed (got a r) f h = h a r

  -- what it stands behind does not change its number
  past_failed : {A : Type 0} (c : ℕ) (x : Res A) → failed (past c x) ≡ failed x
  past_failed c (fault n i) = refl
  past_failed c (got a r) = refl

  either : {A : Type 0} (t : Bool) (x y : Res A) → failed x ≡ false → failed y ≡ false → failed (cond t x y) ≡ false
  either true x y g h = g
  either false x y g h = h

  checked-never : {A : Type 0} (n : ℕ) (t : A → Bool) (F : Format A) → eqb n k ≡ false → Never F → Never (checked n t F)
  checked-never n t F e h l = next_failed (F.parse l) _ (λ a r. either (t a) (got a r) (fault n 0) refl e) ∙ h l

  both_failed : {A B : Type 0} (F : Format A) (G : A → Format B) → ((a : A) → Never (G a)) → (l : List Bool) → failed ((both F G).parse l) ≡ failed (F.parse l)
  both_failed F G g l =
      next_failed (F.parse l) _ (λ a r. next_failed (past (F.counts a) ((G a).parse r)) _ (λ b q. refl) ∙ past_failed (F.counts a) ((G a).parse r) ∙ g a r)

  both-never : {A B : Type 0} (F : Format A) (G : A → Format B) → Never F → ((a : A) → Never (G a)) → Never (both F G)
  both-never F G h g l = both_failed F G g l ∙ h l

  cons-never : {A : Type 0} (F : Format A) (G : A → Format (List A)) → Never F → ((a : A) → Never (G a)) → Never (cons F G)
  cons-never F G h g l =
      next_failed (F.parse l) _ (λ a r. next_failed (past (F.counts a) ((G a).parse r)) _ (λ s q. refl) ∙ past_failed (F.counts a) ((G a).parse r) ∙ g a r) ∙ h l

  times-never : {A : Type 0} (n : ℕ) (F : Format A) → Never F → Never (times n F)
  times-never zero F h l = refl
  times-never (suc n) F h l = cons-never F (λ a. times n F) h (λ a. times-never n F h) l

  counted_never : {A : Type 0} (N : Format ℕ) (G : ℕ → Format (List A)) → Never N → ((n : ℕ) → Never (G n)) → Never (counted N G)
  counted_never N G h g l = next_failed (N.parse l) _ g ∙ h l

  -- v in its first w bits, or fault n; then F
  literal_failed : {A : Type 0} (w v n : ℕ) (F : Format A) (l : List Bool)
      → failed ((literal w v n F).parse l) ≡ cond (leb w (length l)) (cond (eqb (num (take w l)) v) (failed (F.parse (drop w l))) (eqb n k)) (eqb 13 k)
  literal_failed {A} w v n F l = long (leb w (length l)) (num (take w l)) (drop w l) ∙ ap (λ (b : Bool). cond (leb w (length l)) b (eqb 13 k)) (same (eqb (num (take w l)) v) (F.parse (drop w l)))
    where
      long : (t : Bool) (a : ℕ) (r : List Bool)
          → failed (next {B = A} (cond t (got a r) (fault 13 0)) (λ a r. cond (eqb a v) (F.parse r) (fault n 0))) ≡ cond t (failed {A = A} (cond (eqb a v) (F.parse r) (fault n 0))) (eqb 13 k)
      long true a r = refl
      long false a r = refl

      same : (t : Bool) (x : Res A) → failed (cond t x (fault n 0)) ≡ cond t (failed x) (eqb n k)
      same true x = refl
      same false x = refl

  -- ---- the fields of a sheet
  module _ (cut : eqb 13 k ≡ false) where
    field-never : (n : ℕ) → Never (field n)
    field-never n l = either (leb n (length l)) (got (num (take n l)) (drop n l)) (fault 13 0) refl cut

    above-never : (n : ℕ) → Never (above n)
    above-never n l = next_failed ((field n).parse l) (λ a r. got (suc a) r) (λ a r. refl) ∙ field-never n l

    sized-never : eqb 4 k ≡ false → Never sized
    sized-never e =
        both-never (above 4) (λ s. coloured) (above-never 4)
        (λ s. both-never (above 4) (λ c. tiled) (above-never 4) (λ c. both-never (above 10) (λ t. weight) (above-never 10) (λ t. checked-never 4 weighs (field 32) e (field-never 32))))

    module _ (E : Edition) (e5 : eqb 5 k ≡ false) (e6 : eqb 6 k ≡ false) (e7 : eqb 7 k ≡ false) where
      component-never : Never component
      component-never = checked-never 7 small (field 32) e7 (field-never 32)

      entry-never : (sum : ℕ) → Never (entry E sum)
      entry-never sum =
          both-never (checked 6 (λ c. leb (sum + c) E.size) (above E.each)) (λ c. times 3 component)
          (checked-never 6 (λ c. leb (sum + c) E.size) (above E.each) e6 (above-never E.each)) (λ c. times-never 3 component component-never)

      colours-never : (n sum : ℕ) → Never (colours E n sum)
      colours-never zero sum l = refl
      colours-never (suc n) sum l = cons-never (entry E sum) (λ x. colours E n (sum + x.0)) (entry-never sum) (λ x. colours-never n (sum + x.0)) l

      tile-never : Never (tile E)
      tile-never =
          counted_never (checked 5 (λ n. leb n E.size) (field E.many)) (λ n. colours E n 0)
          (checked-never 5 (λ n. leb n E.size) (field E.many) e5 (field-never E.many)) (λ n. colours-never n 0)

      rest-never : (n t : ℕ) → Never (rest E n t)
      rest-never n t = both-never (times n component) (λ p. times t (tile E)) (times-never n component component-never) (λ p. times-never t (tile E) tile-never)

      -- behind the header no other number is added
      sheet-header : (l : List Bool) → failed ((sheet E).parse l) ≡ failed ((header E).parse l)
      sheet-header l =
          next_failed ((both (header E) (λ h. rest E (3 * (h.0 * h.1.0)) h.1.1.0)).parse l) (λ a r. got (whole a) r) (λ a r. refl)
          ∙ both_failed (header E) (λ h. rest E (3 * (h.0 * h.1.0)) h.1.1.0) (λ h. rest-never (3 * (h.0 * h.1.0)) h.1.1.0) l

      pub sheet-never : eqb 4 k ≡ false → eqb 12 k ≡ false → Never (sheet E)
      sheet-never e4 e12 l =
          sheet-header l ∙ literal_failed 32 opening 12 (dated E) l
          ∙ none_of (leb 32 (length l)) (eqb (num (take 32 l)) opening) ((dated E).parse (drop 32 l))
          (literal_failed 4 E.number 12 sized (drop 32 l) ∙ none_of (leb 4 (length (drop 32 l))) (eqb (num (take 4 (drop 32 l))) E.number) (sized.parse (drop 4 (drop 32 l))) (sized-never e4 (drop 4 (drop 32 l))))
        where
          none_of : {A : Type 0} (s t : Bool) (x : Res A) → failed x ≡ false → cond s (cond t (failed x) (eqb 12 k)) (eqb 13 k) ≡ false
          none_of true true x h = h
          none_of true false x h = e12
          none_of false t x h = cut

-- the opening is there and another, or the edition is there and another
pub sheet-misopened : (E : Edition) (l : List Bool) → failed 12 ((sheet E).parse l) ≡ misopened E l
sheet-misopened E l =
    sheet-header 12 refl E refl refl refl l ∙ literal_failed 12 32 opening 12 (dated E) l
    ∙ ap (λ (b : Bool). cond (leb 32 (length l)) (cond (eqb (num (take 32 l)) opening) b true) false) (literal_failed 12 4 E.number 12 sized (drop 32 l) ∙ inner (leb 4 (length (drop 32 l))) (eqb (num (take 4 (drop 32 l))) E.number))
    ∙ outer (leb 32 (length l)) (eqb (num (take 32 l)) opening) _
  where
    inner : (s t : Bool) → cond s (cond t (failed 12 (sized.parse (drop 4 (drop 32 l)))) true) false ≡ s && not t
    inner true true = sized-never 12 refl refl (drop 4 (drop 32 l))
    inner true false = refl
    inner false t = refl

    outer : (s t b : Bool) → cond s (cond t b true) false ≡ s && (not t || b)
    outer true true b = refl
    outer true false b = refl
    outer false t b = refl
