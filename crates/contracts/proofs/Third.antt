-- An advance and its export report the draws that the record has more. Assumes nothing.
use Prim.Native.Nat.{ℕ, ◌+◌, ◌/◌, ◌%◌, ◌<◌}
use mathlib.Core.Path.{◌≡◌, refl, sym, ap, subst⁻¹, ◌∙◌}
use lib.ListN.{get_or}
use borrow.Author.Tests.{eq-eqb}
use Rattle.answer.specs.Refusals.{Answered}
use Rattle.answer.specs.Words.{value_of, word}
use Rattle.answer.proofs.Words.{Apart, apart, answer-small}
use Rattle.quantizer.specs.Course.{Course}
use Rattle.run_stages.specs.Calls.{Memory, advance_rules, advance_call}
use Rattle.dunkafeto.specs.Told.{told_advance}
use Rattle.demands.proofs.First.{first_demand}
use Rattle.demands.proofs.Third.{third_demand}
use Rattle.contracts.specs.Advance as advance
use Rattle.contracts.specs.Calls.{Reported}
use Rattle.contracts.proofs.Keeps.{keeps}
use Rattle.contracts.proofs.Calls.{contracts, exports}

module _ (K : Course) (m : Memory) (a : ℕ) where
  drawn : get_or (advance_call K m a).after.words 4 0 ≡ get_or m.words 4 0 + (advance_call K m a).answer.draws
  drawn = (third_demand K).reported m a

  told-drawn : (told_advance (advance_call K m a)).answer % 256 ≡ 0 → get_or (told_advance (advance_call K m a)).after.words 4 0 ≡ get_or m.words 4 0 + (told_advance (advance_call K m a)).answer / 256
  unfolding told_advance
  told-drawn h = drawn ∙ ap (λ (d : ℕ). get_or m.words 4 0 + d) (sym (parts.rest ∙ done))
    where
      small : (advance_call K m a).answer.refusal.number < 256
      small = subst⁻¹ (λ (r : Answered). r.number < 256) (first_demand.advance K m a).call.numbers (answer-small (advance_rules K m) refl)

      parts : Apart (word (advance_call K m a).answer.refusal (advance_call K m a).answer.draws) (advance_call K m a).answer.refusal.number
          (value_of (advance_call K m a).answer.refusal (advance_call K m a).answer.draws)
      parts = apart (advance_call K m a).answer.refusal (advance_call K m a).answer.draws small

      done : value_of (advance_call K m a).answer.refusal (advance_call K m a).answer.draws ≡ (advance_call K m a).answer.draws
      done = rw (eq-eqb (advance_call K m a).answer.refusal.number 0 (sym parts.low ∙ h))

pub reported : Reported
reported =
    record {
      called =
          keeps advance.compiled advance.defined advance.Reports
          (λ κs a. drawn (advance.course_given κs a) (advance.memory_lent κs a) (advance.allotment_given κs a)) contracts.advance;
      told =
          keeps advance.exported advance.export_defined advance.ExportReports
          (λ κs a. told-drawn (advance.export_course κs a) (advance.export_memory κs a) (advance.export_allotment κs a)) exports.advance;
    }
