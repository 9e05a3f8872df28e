-- What the palette and the tiles behind it come to. Assumes nothing.
use mathlib.Core.Path.{◌≡◌, refl, sym, ap, ◌∙◌}
use Prim.Native.Nat.{ℕ}
use mathlib.Core.List.{List}
use lib.ListN.{drop}
use Rattle.bits.specs.Bits.{bits}
use Rattle.format.specs.Format.{Res, fault, got, next, past, times}
use Rattle.format.proofs.Reading.{both-fault, both-got}
use Rattle.sheet_format.specs.declared.Edition.{Edition}
use Rattle.sheet_format.specs.Sheet.{component, Colour, tile, rest}
use Rattle.sheet_colours.specs.Steps.{Step, stopped, step_of, step_at, behind}

module _ (E : Edition) (s : List ℕ) (p n t : ℕ) where
  abbrev answered : Res (List ℕ × List (List Colour)) → Step
  answered = step_of (rest E n t).counts (bits s)

  forget : (a : List ℕ) (x : Res (List (List Colour)))
      → answered (next (past ((times n component).counts a) x) (λ b q. got (a, b) q)) ≡ behind ((times n component).counts a) (step_of (times t (tile E)).counts (bits s) x)
  forget a (fault m i) = refl
  forget a (got b r) = refl

  pub rest-fault : (f i : ℕ) → (times n component).parse (drop p (bits s)) ≡ fault f i → step_at (rest E n t) s p ≡ stopped f i
  rest-fault f i e = ap answered (both-fault (times n component) (λ p. times t (tile E)) (drop p (bits s)) f i e)

  pub rest-got : (a : List ℕ) (q passed : ℕ) → passed ≡ (times n component).counts a → (times n component).parse (drop p (bits s)) ≡ got a (drop q (bits s))
      → step_at (rest E n t) s p ≡ behind passed (step_at (times t (tile E)) s q)
  rest-got a q passed o e =
      ap answered (both-got (times n component) (λ p. times t (tile E)) (drop p (bits s)) a (drop q (bits s)) ((times t (tile E)).parse (drop q (bits s))) e refl)
      ∙ forget a ((times t (tile E)).parse (drop q (bits s)))
      ∙ ap (λ (k : ℕ). behind k (step_at (times t (tile E)) s q)) (sym o)
