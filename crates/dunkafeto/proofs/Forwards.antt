-- What a forwarder tells is what the call below it ensures, on the sizes made of its numbers; and it fits 64 bits. Assumes nothing.
use Prim.Native.Nat.{ℕ, ◌≤◌}
use mathlib.Core.Path.{◌≡◌, refl, sym, ap, subst, ◌∙◌}
use mathlib.Core.List.{List}
use native.Mathlib.Omega.{arith}
use lib.Ieee.{Float}
use Rattle.std.specs.Prelude.{Result, Ok, Err}
use Rattle.answer.specs.declared.Refusal.{Refusal}
use Rattle.answer.specs.Refusals.{Answered, Few}
use Rattle.answer.specs.Outcome.{Outcome, outcome}
use Rattle.answer.specs.Words.{word, word_of, told}
use Rattle.job.specs.Job.{Job}
use Rattle.job.specs.Bad.{most_index}
use Rattle.quantizer.specs.Course.{Course}
use Rattle.run_stages.specs.Calls.{Memory, advanced_as, start_call, advance_call, hand_in_call, result_call, Advanced}
use Rattle.assign.specs.Assign as assigning
use Rattle.dunkafeto.specs.Told.{told_advance}
use Rattle.dunkafeto.proofs.Few.{start-few, hand_in-few, result-few, advance-few, draws-few, assign-few}

-- ---- a call that answers with nothing or a refusal: what is told, and that it fits
module _ {M : Type 0} (r : Answered) (after : M) (x : Outcome Answered M) (e : outcome r after ≡ x) where
  telling : (w : ℕ) → w ≡ word r 0 → outcome w after ≡ told x
  unfolding told
  telling w f = ap (λ (k : ℕ). outcome k after) f ∙ ap told e

  fitting : x.answer.index ≤ most_index → r.index ≤ 0xffff_ffff
  fitting h = let few : r.index ≤ most_index = subst (λ (y : Outcome Answered M). y.answer.index ≤ most_index) (sym e) h in omega arith

-- ---- the five calls, on the job and the course made of a host's numbers and slices
pub assign-told : (I J : Job) → I ≡ J → (palette : List Float) (h : assigning.TileMemory) (r : Answered) (after : assigning.TileMemory)
    → outcome r after ≡ assigning.assign_def I palette h → (w : ℕ) → w ≡ word r 0 → outcome w after ≡ told (assigning.assign_def J palette h)
assign-told I J same palette h r after e w f = telling r after _ (e ∙ ap (λ (x : Job). assigning.assign_def x palette h) same) w f

module _ (K L : Course) (same : K ≡ L) where
  pub start-told : (m : Memory) (seed : ℕ) (r : Answered) (after : Memory) → outcome r after ≡ start_call K m seed
      → (w : ℕ) → w ≡ word r 0 → outcome w after ≡ told (start_call L m seed)
  start-told m seed r after e w f = telling r after _ (e ∙ ap (λ (x : Course). start_call x m seed) same) w f

  pub hand_in-told : (m : Memory) (reduced : List Float) (r : Answered) (after : Memory) → outcome r after ≡ hand_in_call K m reduced
      → (w : ℕ) → w ≡ word r 0 → outcome w after ≡ told (hand_in_call L m reduced)
  hand_in-told m reduced r after e w f = telling r after _ (e ∙ ap (λ (x : Course). hand_in_call x m reduced) same) w f

  pub result-told : (m : Memory) (out : List Float) (r : Answered) (after : List Float) → outcome r after ≡ result_call K m out
      → (w : ℕ) → w ≡ word r 0 → outcome w after ≡ told (result_call L m out)
  result-told m out r after e w f = telling r after _ (e ∙ ap (λ (x : Course). result_call x m out) same) w f

  pub advance-told : (m : Memory) (a : ℕ) (r : Result ℕ Refusal) (after : Memory) → outcome (advanced_as r) after ≡ advance_call K m a
      → (w : ℕ) → w ≡ word_of r → outcome w after ≡ told_advance (advance_call L m a)
  unfolding told_advance
  advance-told m a r after e w f =
      ap (λ (k : ℕ). outcome k after) (f ∙ by r)
      ∙ ap told_advance (e ∙ ap (λ (x : Course). advance_call x m a) same)
    where
      by : (x : Result ℕ Refusal) → word_of x ≡ word (advanced_as x).refusal (advanced_as x).draws
      by (Ok n) = refl
      by (Err x) = refl

-- ---- each answer fits
pub assign-fits : (J : Job) (palette : List Float) (h : assigning.TileMemory) (r : Answered) (after : assigning.TileMemory)
    → outcome r after ≡ assigning.assign_def J palette h → r.index ≤ 0xffff_ffff
assign-fits J palette h r after e = fitting r after _ e (assign-few J palette h)

module _ (K : Course) (m : Memory) where
  pub start_fits : (seed : ℕ) (r : Answered) (after : Memory) → outcome r after ≡ start_call K m seed → r.index ≤ 0xffff_ffff
  start_fits seed r after e = fitting r after _ e (start-few K m seed)

  pub hand_in-fits : (reduced : List Float) (r : Answered) (after : Memory) → outcome r after ≡ hand_in_call K m reduced → r.index ≤ 0xffff_ffff
  hand_in-fits reduced r after e = fitting r after _ e (hand_in-few K m reduced)

  pub result_fits : (out : List Float) (r : Answered) (after : List Float) → outcome r after ≡ result_call K m out → r.index ≤ 0xffff_ffff
  result_fits out r after e = fitting r after _ e (result-few K m out)

  pub advance-fits : (a : ℕ) (r : Result ℕ Refusal) (after : Memory) → outcome (advanced_as r) after ≡ advance_call K m a → Few r
  advance-fits a r after e = by r (subst (λ (y : Outcome Advanced Memory). y.answer.refusal.index ≤ most_index) (sym e) (advance-few K m a)) (subst (λ (y : Outcome Advanced Memory). y.answer.draws ≤ 81950) (sym e) (draws-few K m a))
    where
      by : (x : Result ℕ Refusal) → (advanced_as x).refusal.index ≤ most_index → (advanced_as x).draws ≤ 81950 → Few x
      by (Ok n) h l = omega (arith, l)
      by (Err x) h l = omega (arith, h)
