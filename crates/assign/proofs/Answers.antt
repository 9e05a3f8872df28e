-- The call around the loop over the tiles, refused or not. Assumes nothing.
use mathlib.Core.Path.{◌≡◌, ap, subst}
use mathlib.Core.List.{List}
use lib.Dec.{eqb}
use lib.Ieee.{Float}
use lib.ListN.{length}
use borrow.Author.Tests.{eqb-true}
use Rattle.lists.proofs.Tests.{and_l, and_r}
use Rattle.answer.specs.Refusals.{Answered, nothing}
use Rattle.answer.specs.Outcome.{outcome}
use Rattle.answer.proofs.Outcomes.{was_refused, was_done}
use Rattle.job.specs.Job.{Job}
use Rattle.job.specs.Gives.{Plain}
use Rattle.job.proofs.Ready.{plain_ready}
use Rattle.fits.proofs.Shown.{shown}
use Rattle.assign_tiles.specs.Tiles.{TileMemory, assigned, CanAssign}
use Rattle.assign_check.specs.Answer.{room_for, answer_for}
use Rattle.assign.specs.Assign.{assign_answer, assign_def}

module _ (J : Job) (palette : List Float) (h : TileMemory) where
  module _ (r : Answered) (e : r ≡ answer_for J palette (length h.hints) (length h.out)) where
    -- a refusal writes nothing
    pub stop : (r.number ≡ 0 → ⊥) → outcome r h ≡ assign_def J palette h
    unfolding assign_def assign_answer
    stop n = was_refused r _ e (outcome nothing (assigned J palette h J.T)) (λ x. x) h n

    module _ (z : r.number ≡ 0) where
      passed : Plain J palette (room_for J.T (length h.hints) (length h.out))
      passed = plain_ready J palette (room_for J.T (length h.hints) (length h.out)) (subst (λ (x : Answered). x.number ≡ 0) e z)

      pub can_assign : CanAssign J palette h
      unfolding room_for
      can_assign =
          record {
            shown = shown J palette (room_for J.T (length h.hints) (length h.out)) passed;
            hints = eqb-true (length h.hints) J.T (and_l (eqb (length h.hints) J.T) (eqb (length h.out) J.T) passed.roomy);
            out = eqb-true (length h.out) J.T (and_r (eqb (length h.hints) J.T) (eqb (length h.out) J.T) passed.roomy);
          }

      pub done : (after : TileMemory) → after ≡ assigned J palette h J.T → outcome nothing after ≡ assign_def J palette h
      unfolding assign_def assign_answer
      done after f = was_done r _ e (outcome nothing (assigned J palette h J.T)) (λ x. x) h z (outcome nothing after) (ap (outcome nothing) f)
