-- The loop that fills a tile's colours: what one turn reads, and that what is left to store gives the whole. Assumes nothing.
use mathlib.Core.Path.{◌≡◌, sym, ap, ap₂, ◌∙◌, subst}
use Prim.Native.Nat.{ℕ, zero, suc, ◌+◌, ◌-◌, ◌*◌, ◌≤◌, ◌<◌}
use native.Mathlib.Omega.{arith}
use native.Mathlib.Nat.{mul-suc, mul-zero, add-zero}
use native.Mathlib.Numerals.{add-one}
use mathlib.Core.Bool.{Bool, cond}
use mathlib.Core.List.{List, [], ◌∷◌}
use lib.Dec.{leb}
use lib.ListN.{length, drop, set, length-map, length-append}
use lib.Seq.{sets}
use lib.Ieee.{Float, binary32, of_bits}
use Rattle.bits.specs.Bits.{bits, field_at}
use Rattle.bits.proofs.Bytes.{length-bits}
use Rattle.bits.proofs.Fields.{sets_append}
use Rattle.format.specs.Format.{fault, got, Format, field, checked, above, times}
use Rattle.format.proofs.Lawful.{cond-got, same-value, same_rest, next-got}
use Rattle.format.proofs.Fixed.{Fixed, field_says, checked_fixed, above_fixed, both_fixed, both_first, both-second, times_fixed, times_long, cons-parts}
use Rattle.sheet_format.specs.declared.Edition.{Edition}
use Rattle.sheet_format.specs.Sheet.{component, Colour, entry, colours, entry_size}
use Rattle.sheet_format.specs.Lists.{floats, tile_counts, tile_floats}
use Rattle.sheet_fill.specs.Fill.{Reads, list_of, list_at}
use Rattle.sheet_fill.proofs.Components.{component_fixed}

module _ (E : Edition) where
  -- the bits of a colour and its count
  abbrev wide : ℕ
  wide = entry_size E

  abbrev count_of : ℕ → Format ℕ
  count_of sum = checked 6 (λ c. leb (sum + c) E.size) (above E.each)

  count_fixed : (sum : ℕ) → Fixed (count_of sum) E.each
  count_fixed sum = checked_fixed 6 (λ c. leb (sum + c) E.size) (above E.each) E.each (above_fixed E.each)

  entry_fixed : (sum : ℕ) → Fixed (entry E sum) wide
  entry_fixed sum = both_fixed (count_of sum) (λ c. times 3 component) E.each 96 (count_fixed sum) (λ c. times_fixed 3 component 32 component_fixed)

  pub colours_fixed : (n sum : ℕ) → Fixed (colours E n sum) (wide * n)
  colours_fixed zero sum l p a r e = sym (same_rest [] a (drop p l) r e) ∙ ap (λ (i : ℕ). drop i l) (sym (ap (λ (i : ℕ). p + i) (mul-zero wide) ∙ add-zero p))
  colours_fixed (suc n) sum l p a r e =
      let (b, t, x, y, z) = cons-parts (entry E sum) (λ x. colours E n (sum + x.0)) wide (entry_fixed sum) l p a r e in
      let w : p + wide + wide * n ≡ p + wide * suc n = omega (arith, mul-suc wide n) in
      colours_fixed n (sum + b.0) l (p + wide) t r y ∙ ap (λ (i : ℕ). drop i l) w

  -- n colours were read: so many, with three floats each
  pub colours-long : (n sum : ℕ) (l : List Bool) (p : ℕ) (a : List Colour) (r : List Bool) → (colours E n sum).parse (drop p l) ≡ got a r → (length a ≡ n) × (length (tile_floats a) ≡ 3 * n)
  colours-long zero sum l p a r e = let z = same-value [] a (drop p l) r e in (ap length (sym z), ap (λ (v : List Colour). length (tile_floats v)) (sym z))
  colours-long (suc n) sum l p a r e =
      let (b, t, x, y, z) = cons-parts (entry E sum) (λ x. colours E n (sum + x.0)) wide (entry_fixed sum) l p a r e in
      let c = colours-long n (sum + b.0) l (p + wide) t r y in
      let d = both-second (count_of sum) (λ c. times 3 component) E.each (count_fixed sum) l p b (drop (p + wide) l) x in
      let f : length (floats b.1) ≡ 3 = length-map b.1 (of_bits binary32) ∙ times_long 3 component (drop (p + E.each) l) b.1 (drop (p + wide) l) d in (
        ap length (sym z) ∙ ap suc c.0,
        ap (λ (v : List Colour). length (tile_floats v)) (sym z) ∙ length-append (floats b.1) (tile_floats t) ∙ omega (arith, c.1),
      )

  count_says : (s : List ℕ) (q sum c : ℕ) (r : List Bool) → (count_of sum).parse (drop q (bits s)) ≡ got c r → (E.each ≤ 8 * length s - q) × (c ≡ field_at (bits s) q E.each + 1)
  count_says s q sum c r e =
      let (b, o, x, y) = next-got ((above E.each).parse (drop q (bits s))) (λ b q. cond (leb (sum + b) E.size) (got b q) (fault 6 0)) c r e in
      let (v, w, i, j) = next-got ((field E.each).parse (drop q (bits s))) (λ a r. got (suc a) r) b o x in
      let f = field_says E.each (bits s) q v w i in
      let m = cond-got (leb (sum + b) E.size) (got b o) 6 c r y in (
        omega (arith, f.0, length-bits s),
        sym (same-value b c o r m.1) ∙ sym (same-value (suc v) b w o j) ∙ ap suc f.1 ∙ sym (add-one (field_at (bits s) q E.each)),
      )

  -- ---- one turn, at the sum of the counts so far
  pub record ColourTurn (s : List ℕ) (q m sum : ℕ) : Type 0 where
    pub room : E.each ≤ 8 * length s - q
    pub parts : Reads (times 3 component) s (q + E.each)
    pub left : Reads (colours E m (sum + (field_at (bits s) q E.each + 1))) s (q + wide)
    pub list : list_at (colours E (suc m) sum) s q
        ≡ (field_at (bits s) q E.each + 1, list_at (times 3 component) s (q + E.each)) ∷ list_at (colours E m (sum + (field_at (bits s) q E.each + 1))) s (q + wide)
    pub three : length (floats (list_at (times 3 component) s (q + E.each))) ≡ 3

  pub colour-turn : (s : List ℕ) (q m sum : ℕ) → Reads (colours E (suc m) sum) s q → ColourTurn s q m sum
  colour-turn s q m sum (vs, r, e) =
      let here : ℕ = field_at (bits s) q E.each in
      let (x, t, u, v, w) = cons-parts (entry E sum) (λ x. colours E m (sum + x.0)) wide (entry_fixed sum) (bits s) q vs r e in
      let a = both_first (count_of sum) (λ c. times 3 component) E.each (count_fixed sum) (bits s) q x (drop (q + wide) (bits s)) u in
      let b = both-second (count_of sum) (λ c. times 3 component) E.each (count_fixed sum) (bits s) q x (drop (q + wide) (bits s)) u in
      let c = count_says s q sum x.0 (drop (q + E.each) (bits s)) a in
      let d : (colours E m (sum + (here + 1))).parse (drop (q + wide) (bits s)) ≡ got t r = ap (λ (i : ℕ). (colours E m (sum + i)).parse (drop (q + wide) (bits s))) (sym c.1) ∙ v in
      let h : x ≡ (here + 1, list_at (times 3 component) s (q + E.each)) = ap₂ {C = Colour} (λ i j. (i, j)) c.1 (sym (ap list_of b)) in
      record {
        room = c.0;
        parts = (x.1, drop (q + wide) (bits s), b);
        left = (t, r, d);
        list = ap list_of e ∙ sym w ∙ ap₂ {C = List Colour} (λ i j. i ∷ j) h (sym (ap list_of d));
        three =
            length-map (list_at (times 3 component) s (q + E.each)) (of_bits binary32)
            ∙ ap length (ap list_of b) ∙ times_long 3 component (drop (q + E.each) (bits s)) x.1 (drop (q + wide) (bits s)) b;
      }

  -- ---- the loop's invariant: what is left to store, at some sum, gives the whole
  pub record Filling (s : List ℕ) (m q j : ℕ) (c : List ℕ) (f : List Float) (gc : List ℕ) (gf : List Float) : Type 0 where
    pub sum : ℕ
    pub reads : Reads (colours E m sum) s q
    pub counts : sets c j (tile_counts (list_at (colours E m sum) s q)) ≡ gc
    pub parts : sets f (3 * j) (tile_floats (list_at (colours E m sum) s q)) ≡ gf

  module _ {s : List ℕ} (n i : ℕ) {q : ℕ} (k : ℕ) {c : List ℕ} {f : List Float} {gc : List ℕ} {gf : List Float} (F : Filling s (n - i) q (k + i) c f gc gf) where
    pub filling_now : i < n → ColourTurn s q (n - (i + 1)) F.sum
    filling_now h =
        let o : n - i ≡ suc (n - (i + 1)) = omega arith in
        colour-turn s q (n - (i + 1)) F.sum (subst (λ (m : ℕ). Reads (colours E m F.sum) s q) o F.reads)

    pub filling_again : i < n → (v : ℕ) (g : List Float) → v ≡ field_at (bits s) q E.each → g ≡ sets f (3 * (k + i)) (floats (list_at (times 3 component) s (q + E.each)))
        → Filling s (n - (i + 1)) (q + wide) (k + (i + 1)) (set c (k + i) (v + 1)) g gc gf
    filling_again h v g e stored =
        let o : n - i ≡ suc (n - (i + 1)) = omega arith in
        let tn = filling_now h in
        let here : ℕ = field_at (bits s) q E.each in
        let L : List Colour = list_at (colours E (n - (i + 1)) (F.sum + (here + 1))) s (q + wide) in
        let l : list_at (colours E (n - i) F.sum) s q ≡ (here + 1, list_at (times 3 component) s (q + E.each)) ∷ L = ap (λ (m : ℕ). list_at (colours E m F.sum) s q) o ∙ tn.list in
        let a : k + (i + 1) ≡ suc (k + i) = omega arith in
        let b : 3 * (k + i) + 3 ≡ 3 * (k + (i + 1)) = omega arith in
        record {
          sum = F.sum + (here + 1);
          reads = tn.left;
          counts =
              ap₂ (λ (m w : ℕ). sets (set c (k + i) (w + 1)) m (tile_counts L)) a e
              ∙ sym (ap (λ (x : List Colour). sets c (k + i) (tile_counts x)) l) ∙ F.counts;
          parts =
              ap₂ (λ (x : List Float) (m : ℕ). sets x m (tile_floats L)) stored (sym b)
              ∙ sym (ap (λ (x : List Colour). sets f (3 * (k + i)) (tile_floats x)) l
              ∙ sets_append (floats (list_at (times 3 component) s (q + E.each))) (tile_floats L) f (3 * (k + i))
              ∙ ap (λ (m : ℕ). sets (sets f (3 * (k + i)) (floats (list_at (times 3 component) s (q + E.each)))) (3 * (k + i) + m) (tile_floats L)) tn.three)
              ∙ F.parts;
        }

    pub filling_end : n ≤ i → (c ≡ gc) × (f ≡ gf)
    filling_end h =
        let o : n - i ≡ 0 = omega arith in (
          sym (ap (λ (m : ℕ). sets c (k + i) (tile_counts (list_at (colours E m F.sum) s q))) o) ∙ F.counts,
          sym (ap (λ (m : ℕ). sets f (3 * (k + i)) (tile_floats (list_at (colours E m F.sum) s q))) o) ∙ F.parts,
        )
