-- The loop of the refinements. Assumes nothing.
use Prim.Native.Nat.{ℕ, suc, ◌+◌, ◌≤◌, ◌<◌}
use mathlib.Core.Path.{◌≡◌, refl, ap, ◌∙◌}
use mathlib.Core.List.{List, []}
use native.Mathlib.Omega.{arith}
use lib.Ieee.{Float}
use Rattle.job.specs.Job.{Job}
use Rattle.palette_tile.specs.Tiles.{Shown, hints_of}
use Rattle.quantizer.specs.Course.{Course, course}
use Rattle.quantizer.specs.Refining.{refined}
use Rattle.run_calls.specs.Sound.{Held}
use Rattle.run_calls.proofs.Sound.{all_shown, refined-held, hinted}
use Rattle.run_refine.specs.Refines.{refined_times, hints_times, Refinable}

-- ---- refinements
module _ (J : Job) where
  -- a course of that job: the laws on what a run holds are over courses
  abbrev alone : Course
  alone = course J 0 []

  held_of : (h : List ℕ) (p : List Float) → Refinable J h p → Held alone p
  held_of h p A = record { size = A.all; bound = A.bound }

  pub shown_of : (h : List ℕ) (p : List Float) → Refinable J h p → Shown J p J.S J.C
  shown_of h p A = all_shown alone A.ready p (held_of h p A)

  -- the loop, after i refinements of p₀ with the hints h₀
  pub record Refining (h₀ : List ℕ) (p₀ : List Float) (h : List ℕ) (p : List Float) (i : ℕ) : Type 0 where
    pub most : i ≤ 4
    pub refinable : Refinable J h p
    pub palette : p ≡ refined_times J i p₀
    pub hints : h ≡ hints_times J i p₀ h₀

  pub begun : (h : List ℕ) (p : List Float) → Refinable J h p → Refining h p h p 0
  unfolding refined_times hints_times
  begun h p A = record { most = omega arith; refinable = A; palette = refl; hints = refl }

  pub again : (h₀ : List ℕ) (p₀ : List Float) (h : List ℕ) (p : List Float) (i : ℕ) → Refining h₀ p₀ h p i → i < 4
      → (h2 : List ℕ) (p2 : List Float) → p2 ≡ refined J p → h2 ≡ hints_of J p J.S J.C h J.T → Refining h₀ p₀ h2 p2 (i + 1)
  again h₀ p₀ h p i A t h2 p2 ep eh =
      let R = A.refinable in
      let next = refined-held alone R.ready p (held_of h p R) in
      record {
        most = omega arith;
        refinable = record {
          ready = R.ready;
          all = rw ep next.size;
          bound = rw ep next.bound;
          each = rw eh (hinted alone R.ready p J.S J.C h R.each);
        };
        palette = ep ∙ ap (refined J) A.palette ∙ more-colours i;
        hints = eh ∙ ap (λ (q : List Float). hints_of J q J.S J.C h J.T) A.palette
            ∙ ap (λ (g : List ℕ). hints_of J (refined_times J i p₀) J.S J.C g J.T) A.hints ∙ more-hints i;
      }
    where
      count : (j : ℕ) → j + 1 ≡ suc j
      count j = omega arith

      more-colours : (j : ℕ) → refined J (refined_times J j p₀) ≡ refined_times J (j + 1) p₀
      more-colours j = rw (count j) (unfold refined_times in refl)

      more-hints : (j : ℕ) → hints_of J (refined_times J j p₀) J.S J.C (hints_times J j p₀ h₀) J.T ≡ hints_times J (j + 1) p₀ h₀
      more-hints j = rw (count j) (unfold hints_times in refl)

  pub ended : (h₀ : List ℕ) (p₀ : List Float) (h : List ℕ) (p : List Float) (i : ℕ) → Refining h₀ p₀ h p i → 4 ≤ i
      → (p ≡ refined_times J 4 p₀) × (h ≡ hints_times J 4 p₀ h₀)
  ended h₀ p₀ h p i A t =
      let e : i ≡ 4 = omega (arith, A.most) in
      (A.palette ∙ ap (λ (j : ℕ). refined_times J j p₀) e, A.hints ∙ ap (λ (j : ℕ). hints_times J j p₀ h₀) e)
