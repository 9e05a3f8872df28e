-- The functions keep the first demand, and so do their exports. Assumes nothing.
use Prim.Native.Nat.{ℕ}
use mathlib.Core.Path.{◌≡◌, refl}
use mathlib.Core.List.{List}
use lib.ListN.{length}
use lib.Ieee.{Float}
use Rattle.job.specs.Job.{Job}
use Rattle.answer.specs.Refusals.{Answered}
use Rattle.answer.specs.Rules.{answer}
use Rattle.answer.specs.Outcome.{Outcome, outcome}
use Rattle.answer.specs.Words.{word, told}
use Rattle.answer.proofs.Words.{answer-small}
use Rattle.job.specs.Checks.{plain_rules}
use Rattle.assign_tiles.specs.Tiles.{TileMemory}
use Rattle.assign.specs.Assign.{room_for, assign_def}
use Rattle.quantizer.specs.Course.{Course}
use Rattle.run_stages.specs.Calls.{Memory, start_rules, advance_rules, hand_in_rules, result_rules, start_call, advance_call, hand_in_call, result_call}
use Rattle.dunkafeto.specs.Told.{told_advance}
use Rattle.demands.specs.First.{itself}
use Rattle.demands.proofs.First.{first_demand}
use Rattle.contracts.specs.Start as start
use Rattle.contracts.specs.Advance as advance
use Rattle.contracts.specs.HandIn as hand_in
use Rattle.contracts.specs.Result as result
use Rattle.contracts.specs.SingleFit as single_fit
use Rattle.contracts.specs.BestTwo as best_two
use Rattle.contracts.specs.Assign as assign
use Rattle.contracts.specs.Group as grouping
use Rattle.contracts.specs.Read as read
use Rattle.contracts.specs.Write as write
use Rattle.contracts.specs.Answers.{Tells}
use Rattle.contracts.specs.Calls.{FirstKept, FirstTold}
use Rattle.contracts.proofs.Keeps.{keeps, answers, tells}
use Rattle.contracts.proofs.Calls.{contracts, exports}

pub first-kept : FirstKept
first-kept =
    record {
      start =
          keeps start.compiled start.defined start.answers
          (λ κs a. answers (first_demand.start (start.course_given κs a) (start.memory_lent κs a) (start.seed_given κs a)).call) contracts.start;
      advance =
          keeps advance.compiled advance.defined advance.answers
          (λ κs a. answers (first_demand.advance (advance.course_given κs a) (advance.memory_lent κs a) (advance.allotment_given κs a)).call) contracts.advance;
      hand_in =
          keeps hand_in.compiled hand_in.defined hand_in.answers
          (λ κs a. answers (first_demand.hand_in (hand_in.course_given κs a) (hand_in.memory_lent κs a) (hand_in.reduced_given κs a)).call) contracts.hand_in;
      result =
          keeps result.compiled result.defined result.answers
          (λ κs a. answers (first_demand.result (result.course_given κs a) (result.memory_lent κs a) (result.out_lent κs a)).call) contracts.result;
      single_fit =
          keeps single_fit.compiled single_fit.defined single_fit.answers
          (λ κs a. answers (first_demand.single_fit (single_fit.job_given κs a) (single_fit.palette_given κs a) (single_fit.hints_lent κs a)).call) contracts.single_fit;
      best_two =
          keeps best_two.compiled best_two.defined best_two.answers
          (λ κs a. answers (first_demand.best_two (best_two.job_given κs a) (best_two.palette_given κs a) (best_two.hints_lent κs a)).call) contracts.best_two;
      assign =
          keeps assign.compiled assign.defined assign.answers
          (λ κs a. answers (first_demand.assign (assign.job_given κs a) (assign.palette_given κs a) (assign.tiles_lent κs a)).call) contracts.assign;
      grouping =
          keeps grouping.compiled grouping.defined grouping.answers
          (λ κs a. answers (first_demand.grouping (grouping.size_given κs a) (grouping.pixels_given κs a) (grouping.room_lent κs a))) contracts.grouping;
      read =
          keeps read.compiled read.defined read.answers
          (λ κs a. answers (first_demand.read_sheet (read.size_given κs a) (read.bytes_given κs a) (read.room_lent κs a))) contracts.read;
      write =
          keeps write.compiled write.defined write.answers
          (λ κs a. answers (first_demand.write_sheet (write.job_given κs a) (write.palette_given κs a) (write.bytes_lent κs a)).call) contracts.write;
    }

-- what is told of each definition, over plain arguments
no_value : Answered → ℕ
no_value e = 0

told_is : {M : Type 0} (x : Outcome Answered M) → told x ≡ outcome (word (itself x.answer) (no_value x.answer)) x.after
unfolding told no_value
told_is x = refl

module _ (K : Course) (m : Memory) where
  start_tells : (seed : ℕ) → Tells (answer (start_rules K m)) m (told (start_call K m seed))
  start_tells seed = tells (first_demand.start K m seed).call no_value told told_is (answer-small (start_rules K m) refl)

  advance_tells : (a : ℕ) → Tells (answer (advance_rules K m)) m (told_advance (advance_call K m a))
  unfolding told_advance
  advance_tells a = tells (first_demand.advance K m a).call (λ x. x.draws) told_advance (λ x. refl) (answer-small (advance_rules K m) refl)

  hand_in_tells : (reduced : List Float) → Tells (answer (hand_in_rules K m reduced)) m (told (hand_in_call K m reduced))
  hand_in_tells reduced = tells (first_demand.hand_in K m reduced).call no_value told told_is (answer-small (hand_in_rules K m reduced) refl)

  result_tells : (out : List Float) → Tells (answer (result_rules K m out)) out (told (result_call K m out))
  result_tells out = tells (first_demand.result K m out).call no_value told told_is (answer-small (result_rules K m out) refl)

assign_tells : (J : Job) (palette : List Float) (h : TileMemory)
    → Tells (answer (plain_rules J palette (room_for J.T (length h.hints) (length h.out)))) h (told (assign_def J palette h))
assign_tells J palette h =
    tells (first_demand.assign J palette h).call no_value told told_is (answer-small (plain_rules J palette (room_for J.T (length h.hints) (length h.out))) refl)

pub first-told : FirstTold
first-told =
    record {
      start =
          keeps start.exported start.export_defined start.ExportAnswers
          (λ κs a. start_tells (start.export_course κs a) (start.export_memory κs a) (start.export_seed κs a)) exports.start;
      advance =
          keeps advance.exported advance.export_defined advance.ExportAnswers
          (λ κs a. advance_tells (advance.export_course κs a) (advance.export_memory κs a) (advance.export_allotment κs a)) exports.advance;
      hand_in =
          keeps hand_in.exported hand_in.export_defined hand_in.ExportAnswers
          (λ κs a. hand_in_tells (hand_in.export_course κs a) (hand_in.export_memory κs a) (hand_in.export_reduced κs a)) exports.hand_in;
      result =
          keeps result.exported result.export_defined result.ExportAnswers
          (λ κs a. result_tells (result.export_course κs a) (result.export_memory κs a) (result.export_out κs a)) exports.result;
      assign =
          keeps assign.exported assign.export_defined assign.ExportAnswers
          (λ κs a. assign_tells (assign.export_job κs a) (assign.export_palette κs a) (assign.export_tiles κs a)) exports.assign;
    }
