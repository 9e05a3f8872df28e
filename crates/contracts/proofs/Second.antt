-- Those that choose or draw keep the second demand. Assumes nothing.
use Prim.Native.Nat.{ℕ}
use mathlib.Core.Path.{◌≡◌, subst}
use mathlib.Core.List.{List}
use lib.ListN.{length}
use lib.Ieee.{Float}
use Rattle.answer.specs.Refusals.{Answered, answer_in}
use Rattle.job.specs.Job.{Job}
use Rattle.job.specs.Checks.{plain_answer}
use Rattle.fits_check.specs.One.{one_answer, single_answer}
use Rattle.assign_tiles.specs.Tiles.{TileMemory}
use Rattle.quantizer.specs.Course.{Course}
use Rattle.run_stages.specs.Calls.{Memory, advance_answer, advance_call}
use Rattle.fits_outcome.specs.Fits.{single_def}
use Rattle.fits_outcome.specs.Pairs.{pair_def}
use Rattle.assign.specs.Assign.{assign_answer, assign_def}
use Rattle.demands.proofs.First.{first_demand}
use Rattle.demands.proofs.Second.{second_demand}
use Rattle.contracts.specs.Advance as advance
use Rattle.contracts.specs.SingleFit as single_fit
use Rattle.contracts.specs.BestTwo as best_two
use Rattle.contracts.specs.Assign as assign
use Rattle.contracts.specs.Calls.{SecondKept}
use Rattle.contracts.proofs.Keeps.{keeps}
use Rattle.contracts.proofs.Calls.{contracts}

-- a number that is 0 is an answer that is 0
module _ (J : Job) (palette : List Float) where
  single_accepted : (hints : List ℕ) → (answer_in (single_def J palette hints).answer).number ≡ 0 → (single_answer J palette (length hints)).number ≡ 0
  unfolding single_answer
  single_accepted hints h = subst (λ (r : Answered). r.number ≡ 0) (first_demand.single_fit J palette hints).call.numbers h

  pair-accepted : (hints : List ℕ) → (answer_in (pair_def J palette hints).answer).number ≡ 0 → (one_answer J palette (length hints)).number ≡ 0
  unfolding one_answer
  pair-accepted hints h = subst (λ (r : Answered). r.number ≡ 0) (first_demand.best_two J palette hints).call.numbers h

  assign-accepted : (h : TileMemory) → (assign_def J palette h).answer.number ≡ 0 → (assign_answer J palette h).number ≡ 0
  unfolding assign_answer plain_answer
  assign-accepted h e = subst (λ (r : Answered). r.number ≡ 0) (first_demand.assign J palette h).call.numbers e

advance-accepted : (K : Course) (m : Memory) (a : ℕ) → (advance_call K m a).answer.refusal.number ≡ 0 → (advance_answer K m).number ≡ 0
unfolding advance_answer
advance-accepted K m a h = subst (λ (r : Answered). r.number ≡ 0) (first_demand.advance K m a).call.numbers h

pub second-kept : SecondKept
second-kept =
    record {
      single_fit =
          keeps single_fit.compiled single_fit.defined single_fit.chooses
          (λ κs a h.
          let J = single_fit.job_given κs a in
          let p = single_fit.palette_given κs a in
          let hints = single_fit.hints_lent κs a in
          (second_demand.single_fit J p).chooses hints (single_accepted J p hints h)) contracts.single_fit;
      best_two =
          keeps best_two.compiled best_two.defined best_two.chooses
          (λ κs a h.
          let J = best_two.job_given κs a in
          let p = best_two.palette_given κs a in
          let hints = best_two.hints_lent κs a in
          (second_demand.best_two J p).chooses hints (pair-accepted J p hints h)) contracts.best_two;
      assign =
          keeps assign.compiled assign.defined assign.chooses
          (λ κs a h.
          let J = assign.job_given κs a in
          let p = assign.palette_given κs a in
          let tiles = assign.tiles_lent κs a in
          (second_demand.assign J p).chooses tiles (assign-accepted J p tiles h)) contracts.assign;
      advance =
          keeps advance.compiled advance.defined advance.draws
          (λ κs a h.
          let K = advance.course_given κs a in
          let m = advance.memory_lent κs a in
          let allotment = advance.allotment_given κs a in
          second_demand.advance K m allotment (advance-accepted K m allotment h)) contracts.advance;
    }
