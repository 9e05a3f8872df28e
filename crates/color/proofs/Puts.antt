-- What writing a colour leaves: the place written has it, every other place keeps its own, and the length stays. Assumes nothing.
use Prim.Native.Nat.{ℕ, suc, ◌+◌, ◌*◌, ◌<◌}
use mathlib.Core.Path.{◌≡◌, refl, ap, ◌∙◌}
use mathlib.Core.Logic.{◌≢◌, ◌⊎◌, inl, inr}
use mathlib.Core.List.{List, [], ◌∷◌}
use native.Mathlib.Omega.{arith}
use lib.ListN.{get_or, length, set, length-set}
use lib.Seq.{sets}
use lib.Ieee.{Float, nan}
use Rattle.lists.proofs.Runs.{lt_or_gt, sets-before, sets-after, sets_in, all_set}
use Rattle.color.specs.declared.Oklab.{Oklab}
use Rattle.color.specs.Color.{colour_at, put_at}

pub colour_eq : {x y : Oklab} → x.l ≡ y.l → x.a ≡ y.a → x.b ≡ y.b → x ≡ y
colour_eq {x} {y} p q r =
    ap (λ (z : Float). record { l = z; a = x.a; b = x.b }) p
    ∙ ap (λ (z : Float). record { l = y.l; a = z; b = x.b }) q
    ∙ ap (λ (z : Float). record { l = y.l; a = y.a; b = z }) r

pub length_put : (s : List Float) (i : ℕ) (x : Oklab) → length (put_at s i x) ≡ length s
unfolding put_at
length_put s i x = simp length-set

abbrev numbers : Oklab → List Float
numbers x = x.l ∷ x.a ∷ x.b ∷ []

-- three writes in a row
put_sets : (s : List Float) (i : ℕ) (x : Oklab) → put_at s i x ≡ sets s (3 * i) (numbers x)
unfolding put_at
put_sets s i x =
    ap (λ (j : ℕ). set (set (set s (3 * i) x.l) j x.a) (3 * i + 2) x.b) (one (3 * i))
    ∙ ap (λ (j : ℕ). set (set (set s (3 * i) x.l) (suc (3 * i)) x.a) j x.b) (two (3 * i))
  where
    one : (k : ℕ) → k + 1 ≡ suc k
    one k = omega arith

    two : (k : ℕ) → k + 2 ≡ suc (suc k)
    two k = omega arith

module _ (s : List Float) (i : ℕ) (x : Oklab) where
  -- a number of another colour stays
  pub put_other : (j : ℕ) → (j < 3 * i) ⊎ (3 * i + 2 < j) → get_or (put_at s i x) j nan ≡ get_or s j nan
  put_other j h =
      ap (λ (t : List Float). get_or t j nan) (put_sets s i x)
      ∙ elim h [
        | inl l ↦ sets-before nan (numbers x) s (3 * i) j l
        | inr l ↦ sets-after nan (numbers x) s (3 * i) j (omega arith)
      ]

  pub put_elsewhere : (j : ℕ) → j ≢ i → colour_at (put_at s i x) j ≡ colour_at s j
  put_elsewhere j n = colour_eq (put_other (3 * j) (side (3 * j) (omega arith) (omega arith))) (put_other (3 * j + 1) (side (3 * j + 1) (omega arith) (omega arith))) (put_other (3 * j + 2) (side (3 * j + 2) (omega arith) (omega arith)))
    where
      side : (k : ℕ) → 3 * j < k + 1 → k < 3 * j + 3 → (k < 3 * i) ⊎ (3 * i + 2 < k)
      side k a b = elim (lt_or_gt n) [ inl g ↦ inl (omega arith) | inr g ↦ inr (omega arith) ]

  pub put_here : 3 * i + 2 < length s → colour_at (put_at s i x) i ≡ x
  put_here h = colour_eq (at (3 * i) 0 (omega arith) (omega arith)) (at (3 * i + 1) 1 refl (omega arith)) (at (3 * i + 2) 2 refl (omega arith))
    where
      at : (k d : ℕ) → k ≡ 3 * i + d → d < 3 → get_or (put_at s i x) k nan ≡ get_or (numbers x) d nan
      at k d e l =
          ap (λ (m : ℕ). get_or (put_at s i x) m nan) e
          ∙ ap (λ (t : List Float). get_or t (3 * i + d) nan) (put_sets s i x)
          ∙ sets_in nan (numbers x) s (3 * i) d (omega arith) l

  -- what holds of every number
  pub all_put : (P : Float → Type 0) → P x.l → P x.a → P x.b → ((j : ℕ) → j < length s → P (get_or s j nan)) → (j : ℕ) → j < length (put_at s i x) → P (get_or (put_at s i x) j nan)
  unfolding put_at
  all_put P p q r h = all_set nan P (set (set s (3 * i) x.l) (3 * i + 1) x.a) (3 * i + 2) x.b r (all_set nan P (set s (3 * i) x.l) (3 * i + 1) x.a q (all_set nan P s (3 * i) x.l p h))
