-- The loop that fills components: what one turn reads, and that what is left to store gives the whole. Assumes nothing.
use mathlib.Core.Path.{◌≡◌, sym, ap, ap₂, ◌∙◌, subst}
use Prim.Native.Nat.{ℕ, suc, ◌+◌, ◌-◌, ◌*◌, ◌≤◌, ◌<◌}
use native.Mathlib.Omega.{arith}
use mathlib.Core.Bool.{Bool, cond}
use mathlib.Core.List.{List, ◌∷◌}
use lib.Dec.{T}
use lib.ListN.{length, drop, set}
use lib.Seq.{sets}
use lib.Ieee.{Float, binary32, of_bits}
use Rattle.bits.specs.Bits.{bits, field_at}
use Rattle.bits.proofs.Bytes.{length-bits}
use Rattle.format.specs.Format.{fault, got, field, checked, times}
use Rattle.format.proofs.Lawful.{cond-got, same-value, next-got}
use Rattle.format.proofs.Fixed.{Fixed, field_says, field_fixed, checked_fixed, indexed_fixed, cons-parts}
use Rattle.format_pattern.specs.Pattern.{small}
use Rattle.sheet_format.specs.Sheet.{component}
use Rattle.sheet_format.specs.Lists.{floats}
use Rattle.sheet_fill.specs.Fill.{Reads, list_of, list_at}

pub component_fixed : Fixed component 32
component_fixed = indexed_fixed (checked 7 small (field 32)) 32 (checked_fixed 7 small (field 32) 32 (field_fixed 32))

-- what a component that is read says
component_says : (s : List ℕ) (q v : ℕ) (r : List Bool) → component.parse (drop q (bits s)) ≡ got v r
    → (q + 32 ≤ 8 * length s) × T (small (field_at (bits s) q 32)) × (v ≡ field_at (bits s) q 32)
component_says s q v r e =
    let (b, o, x, y) = next-got ((field 32).parse (drop q (bits s))) (λ b q. cond (small b) (got b q) (fault 7 0)) v r e in
    let c = cond-got (small b) (got b o) 7 v r y in
    let f = field_says 32 (bits s) q b o x in (
      omega (arith, f.0, length-bits s),
      subst (λ (n : ℕ). T (small n)) f.1 c.0,
      sym (same-value b v o r c.1) ∙ f.1,
    )

-- ---- one turn
pub record Turn (s : List ℕ) (q m : ℕ) : Type 0 where
  pub room : q + 32 ≤ 8 * length s
  pub fine : T (small (field_at (bits s) q 32))
  pub left : Reads (times m component) s (q + 32)
  pub list : list_at (times (suc m) component) s q ≡ field_at (bits s) q 32 ∷ list_at (times m component) s (q + 32)

pub turn : (s : List ℕ) (q m : ℕ) → Reads (times (suc m) component) s q → Turn s q m
turn s q m (vs, r, e) =
    let (a, t, x, y, z) = cons-parts component (λ a. times m component) 32 component_fixed (bits s) q vs r e in
    let c = component_says s q a (drop (q + 32) (bits s)) x in
    record {
      room = c.0;
      fine = c.1;
      left = (t, r, y);
      list = ap list_of e ∙ sym z ∙ ap₂ {C = List ℕ} (λ i j. i ∷ j) c.2 (sym (ap list_of y));
    }

module _ (s : List ℕ) (n i q at : ℕ) (d g : List Float) (rd : Reads (times (n - i) component) s q) (inv : sets d (at + i) (floats (list_at (times (n - i) component) s q)) ≡ g) where
  pub fill_now : i < n → Turn s q (n - (i + 1))
  fill_now h =
      let k : n - i ≡ suc (n - (i + 1)) = omega arith in
      turn s q (n - (i + 1)) (subst (λ (j : ℕ). Reads (times j component) s q) k rd)

  pub fill_again : i < n → (e : List Float) → e ≡ set d (at + i) (of_bits binary32 (field_at (bits s) q 32))
      → sets e (at + (i + 1)) (floats (list_at (times (n - (i + 1)) component) s (q + 32))) ≡ g
  fill_again h e stored =
      let k : n - i ≡ suc (n - (i + 1)) = omega arith in
      let next : at + (i + 1) ≡ suc (at + i) = omega arith in
      rw (stored, next)
      (sym (ap (λ (v : List ℕ). sets d (at + i) (floats v)) (ap (λ (j : ℕ). list_at (times j component) s q) k ∙ (fill_now h).list)) ∙ inv)

  pub fill_end : n ≤ i → d ≡ g
  fill_end h =
      let k : n - i ≡ 0 = omega arith in
      sym (ap (λ (j : ℕ). sets d (at + i) (floats (list_at (times j component) s q))) k) ∙ inv
