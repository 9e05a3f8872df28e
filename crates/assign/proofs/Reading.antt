-- What `assign` leaves, tile by tile: each place of `out` has its tile's subpalette, and each hint its tile's winner or, of an empty tile, what was found.
-- Assumes nothing.
use Prim.Native.Nat.{ℕ, zero, suc, ◌≤◌, ◌<◌}
use mathlib.Core.Path.{◌≡◌, refl, ap, ◌∙◌}
use mathlib.Core.Bool.{Bool, true, false, cond}
use mathlib.Core.List.{List}
use native.Mathlib.Omega.{arith}
use lib.Dec.{ltb}
use lib.Ieee.{Float}
use lib.ListN.{length, get_or, set}
use lib.Seq.{get_or-set_same, get_or-set_other}
use borrow.Author.Tests.{ltb-true, ltb-false}
use Rattle.job.specs.Job.{Job, is_empty}
use Rattle.palette_tile.specs.Walk.{walk}
use Rattle.palette_tile.specs.Tiles.{winner, hint_step, hints_of}
use Rattle.palette_tile.proofs.Hints.{length-hints}
use Rattle.assign_tiles.specs.Tiles.{subpalette_of, subpalettes, hint_of}
use Rattle.assign_tiles.proofs.Fills.{length-subpalettes}

module _ (J : Job) (palette : List Float) where
  pub subpalette_at : (found : List ℕ) (n t : ℕ) → n ≤ length found → t < n → get_or (subpalettes J palette found n) t 0 ≡ subpalette_of J palette t
  unfolding walk
  subpalette_at found zero t l h = absurd (omega arith)
  subpalette_at found (suc n) t l h = by (ltb t n) refl (λ k. subpalette_at found n t (omega arith) k)
    where
      here : t ≡ n → get_or (set (subpalettes J palette found n) n (subpalette_of J palette n)) t 0 ≡ subpalette_of J palette t
      here e = rw e (get_or-set_same (subpalettes J palette found n) n (subpalette_of J palette n) 0 (omega (arith, length-subpalettes J palette found n)))

      apart : t < n → t ≡ n → ⊥
      apart k e = omega arith

      by : (b : Bool) → ltb t n ≡ b → (t < n → get_or (subpalettes J palette found n) t 0 ≡ subpalette_of J palette t) → get_or (set (subpalettes J palette found n) n (subpalette_of J palette n)) t 0 ≡ subpalette_of J palette t
      by true e lower = get_or-set_other (subpalettes J palette found n) n t (subpalette_of J palette n) 0 (apart (ltb-true t n e)) ∙ lower (ltb-true t n e)
      by false e lower = here (omega (arith, ltb-false t n e))

  -- ---- hints: an empty tile's is what was found
  hint_here : (h : List ℕ) (n : ℕ) → n < length h → get_or (hint_step J palette J.S J.C n h) n 0 ≡ hint_of J palette h n
  unfolding hint_step
  hint_here h n l = by (is_empty J n)
    where
      by : (b : Bool) → get_or (cond b h (set h n (winner J palette J.S J.C n))) n 0 ≡ cond b (get_or h n 0) (winner J palette J.S J.C n)
      by true = refl
      by false = get_or-set_same h n (winner J palette J.S J.C n) 0 l

  hint_elsewhere : (h : List ℕ) (n t : ℕ) → (t ≡ n → ⊥) → get_or (hint_step J palette J.S J.C n h) t 0 ≡ get_or h t 0
  unfolding hint_step
  hint_elsewhere h n t a = by (is_empty J n)
    where
      by : (b : Bool) → get_or (cond b h (set h n (winner J palette J.S J.C n))) t 0 ≡ get_or h t 0
      by true = refl
      by false = get_or-set_other h n t (winner J palette J.S J.C n) 0 a

  hint-ahead : (found : List ℕ) (n t : ℕ) → n ≤ t → get_or (hints_of J palette J.S J.C found n) t 0 ≡ get_or found t 0
  unfolding walk
  hint-ahead found zero t l = refl
  hint-ahead found (suc n) t l = hint_elsewhere (hints_of J palette J.S J.C found n) n t (apart t n l) ∙ hint-ahead found n t (omega arith)
    where
      apart : (t n : ℕ) → suc n ≤ t → t ≡ n → ⊥
      apart t n l e = omega arith

  pub hint-at : (found : List ℕ) (n t : ℕ) → n ≤ length found → t < n → get_or (hints_of J palette J.S J.C found n) t 0 ≡ hint_of J palette found t
  unfolding walk
  hint-at found zero t l h = absurd (omega arith)
  hint-at found (suc n) t l h = by (ltb t n) refl (λ k. hint-at found n t (omega arith) k)
    where
      last : get_or (hint_step J palette J.S J.C n (hints_of J palette J.S J.C found n)) n 0 ≡ hint_of J palette found n
      last =
          hint_here (hints_of J palette J.S J.C found n) n (omega (arith, length-hints J palette J.S J.C found n))
          ∙ ap (λ (k : ℕ). cond (is_empty J n) k (winner J palette J.S J.C n)) (hint-ahead found n n (omega arith))

      here : t ≡ n → get_or (hint_step J palette J.S J.C n (hints_of J palette J.S J.C found n)) t 0 ≡ hint_of J palette found t
      here e = rw e last

      apart : t < n → t ≡ n → ⊥
      apart k e = omega arith

      by : (b : Bool) → ltb t n ≡ b → (t < n → get_or (hints_of J palette J.S J.C found n) t 0 ≡ hint_of J palette found t)
          → get_or (hint_step J palette J.S J.C n (hints_of J palette J.S J.C found n)) t 0 ≡ hint_of J palette found t
      by true e lower = hint_elsewhere (hints_of J palette J.S J.C found n) n t (apart (ltb-true t n e)) ∙ lower (ltb-true t n e)
      by false e lower = here (omega (arith, ltb-false t n e))
