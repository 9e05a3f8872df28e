-- What an accepted sheet says of the second pass: where its parts stand, that they can be read there, and that they fit. Assumes nothing.
use mathlib.Core.Path.{◌≡◌, refl, sym, ap, ap₂, ◌∙◌, subst}
use Prim.Native.Nat.{ℕ, ◌+◌, ◌*◌, ◌≤◌}
use native.Mathlib.Omega.{arith}
use mathlib.Core.Bool.{Bool, true, false, cond}
use mathlib.Core.List.{List}
use lib.Dec.{T, leb, leb→le}
use lib.ListN.{length, drop}
use Rattle.bits.specs.Bits.{bits}
use Rattle.bits.proofs.Bytes.{length-bits}
use Rattle.answer.specs.Refusals.{Answered, refusal}
use Rattle.format.specs.Format.{got, both, times, Answer, refused, accepted, read_of}
use Rattle.format.proofs.Lawful.{same-value, next-got}
use Rattle.format.proofs.Files.{ended-accepted}
use Rattle.format.proofs.Fixed.{both_first, both-second, times_fixed}
use Rattle.format_pattern.specs.Pattern.{weighs}
use Rattle.sheet_format.specs.declared.Edition.{Edition}
use Rattle.sheet_format.specs.Proper.{Proper}
use Rattle.sheet_format.proofs.Editions.{tiles-least}
use Rattle.sheet_format.specs.Sheet.{component, Header, Sheet, Parts, fault_of, whole, tile, header, rest, sheet, read_sheet}
use Rattle.sheet_format.proofs.Headed.{header_fixed, header-sized, header-long}
use Rattle.sheet_format.specs.Lists.{total}
use Rattle.sheet_check.specs.Steps.{sound, checked_of}
use Rattle.sheet_check.proofs.Whole.{sound-not, sound-is}
use Rattle.sheet_fill.specs.Fill.{Reads, list_of, list_at}
use Rattle.sheet_fill.proofs.Components.{component_fixed}
use Rattle.sheet_fill.proofs.Ends.{components_end, tiles_end}

-- ---- answers, taken apart
refused-not : (e : Answered) (x : Sheet) → ◌≡◌ {A = Answer Sheet} (refused e) (accepted x) → ⊥
refused-not e x f = let z : ◌≡◌ {A = ℕ} 0 1 = cc in omega arith

module _ (E : Edition) where
  pub record Accepted (s : List ℕ) (a b t w : ℕ) : Type 0 where
    pub long : length s ≤ 65536
    pub few : 3 * (a * b) ≤ 768
    pub tiles : t ≤ 1024
    pub weight : T (weighs w)
    pub colours : Reads (times (3 * (a * b)) component) s 86
    pub content : Reads (times t (tile E)) s (86 + 3 * (a * b) * 32)
    pub fit : total (list_at (times t (tile E)) s (86 + 3 * (a * b) * 32)) ≤ 5140
    pub is : read_sheet E s
        ≡ accepted (whole ((a, (b, (t, w))), (list_at (times (3 * (a * b)) component) s 86, list_at (times t (tile E)) s (86 + 3 * (a * b) * 32))))

  -- the limit, and the reading within it
  pub within_limit : (s : List ℕ) (x : Sheet) → read_sheet E s ≡ accepted x → (length s ≤ 65536) × (read_of fault_of (sheet E) s ≡ accepted x)
  within_limit s x e = by (leb (length s) 65536) refl e
    where
      by : (b : Bool) → leb (length s) 65536 ≡ b → cond b (read_of fault_of (sheet E) s) (refused (refusal 13 0)) ≡ accepted x → (length s ≤ 65536) × (read_of fault_of (sheet E) s ≡ accepted x)
      by true f g = (leb→le (length s) 65536 (subst T (sym f) tt), g)
      by false f g = absurd (refused-not (refusal 13 0) x g)

  module _ (proper : Proper E) (s : List ℕ) where
    abbrev behind : Header → Parts → List Bool → Type 0
    behind h y r = (rest E (3 * (h.0 * h.1.0)) h.1.1.0).parse (drop 86 (bits s)) ≡ got y.1 r

    -- the parts of a sheet that was read
    says : (y : Parts) (r : List Bool) → length s ≤ 65536 → read_sheet E s ≡ accepted (whole y)
        → (both (header E) (λ h. rest E (3 * (h.0 * h.1.0)) h.1.1.0)).parse (bits s) ≡ got y r
        → Accepted s y.0.0 y.0.1.0 y.0.1.1.0 y.0.1.1.1
    says y r l is e =
        let a : ℕ = y.0.0 in
        let b : ℕ = y.0.1.0 in
        let t : ℕ = y.0.1.1.0 in
        let n : ℕ = 3 * (a * b) in
        let head = both_first (header E) (λ h. rest E (3 * (h.0 * h.1.0)) h.1.1.0) 86 (header_fixed E) (bits s) 0 y r e in
        let back = both-second (header E) (λ h. rest E (3 * (h.0 * h.1.0)) h.1.1.0) 86 (header_fixed E) (bits s) 0 y r e in
        let H = header-sized E (bits s) y.0 (drop 86 (bits s)) head in
        let p = both_first (times n component) (λ p. times t (tile E)) (n * 32) (times_fixed n component 32 component_fixed) (bits s) 86 y.1 r back in
        let q = both-second (times n component) (λ p. times t (tile E)) (n * 32) (times_fixed n component 32 component_fixed) (bits s) 86 y.1 r back in
        let i = components_end n s 86 (omega (arith, header-long E (bits s) y.0 (drop 86 (bits s)) head, length-bits s)) (y.1.0, drop (86 + n * 32) (bits s), p) in
        let j = tiles_end E t s (86 + n * 32) i (y.1.1, r, q) in
        let cells = H.cells in
        record {
          long = l;
          few = omega arith;
          tiles = H.tiles.1;
          weight = H.weight;
          colours = (y.1.0, drop (86 + n * 32) (bits s), p);
          content = (y.1.1, r, q);
          fit = omega (arith, tiles-least E proper t (total (list_at (times t (tile E)) s (86 + n * 32))));
          is = is ∙ ap₂ {C = Answer Sheet} (λ u v. accepted (whole (y.0, (u, v)))) (sym (ap list_of p)) (sym (ap list_of q));
        }

    pub accepted_says : (a b t w : ℕ) → sound a b t w ≡ checked_of (read_sheet E s) → Accepted s a b t w
    accepted_says a b t w e = by (read_sheet E s) refl e
      where
        by : (x : Answer Sheet) → read_sheet E s ≡ x → sound a b t w ≡ checked_of x → Accepted s a b t w
        by (refused n) f g = absurd (sound-not n a b t w (sym g))
        by (accepted x) f g =
            let k = sound-is a b t w x.subs x.each x.tiles x.weight g in
            let m = within_limit s x f in
            let (r, y, short, zeros) = ended-accepted fault_of ((sheet E).parse (bits s)) x m.1 in
            let (z, q, u, v) = next-got ((both (header E) (λ h. rest E (3 * (h.0 * h.1.0)) h.1.1.0)).parse (bits s)) (λ y r. got (whole y) r) x r y in
            let same : whole z ≡ x = same-value (whole z) x q r v in
            let A = says z q m.0 (f ∙ ap accepted (sym same)) u in
            let ea : z.0.0 ≡ a = ap (λ (o : Sheet). o.subs) same ∙ sym k.0 in
            let eb : z.0.1.0 ≡ b = ap (λ (o : Sheet). o.each) same ∙ sym k.1 in
            let et : z.0.1.1.0 ≡ t = ap (λ (o : Sheet). o.tiles) same ∙ sym k.2 in
            let ew : z.0.1.1.1 ≡ w = ap (λ (o : Sheet). o.weight) same ∙ sym k.3 in
            subst (λ (o : ℕ). Accepted s a b t o) ew (subst (λ (o : ℕ). Accepted s a b o z.0.1.1.1) et
            (subst (λ (o : ℕ). Accepted s a o z.0.1.1.0 z.0.1.1.1) eb (subst (λ (o : ℕ). Accepted s o z.0.1.0 z.0.1.1.0 z.0.1.1.1) ea A)))
