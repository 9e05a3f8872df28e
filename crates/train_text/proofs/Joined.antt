-- Calls one after the other, each on the memory that the one before left. Assumes nothing.
use mathlib.Core.Path.{◌≡◌, refl, sym, ap, ◌∙◌}
use Prim.Native.Nat.{ℕ, ◌+◌, ◌≤◌, ◌<◌}
use native.Mathlib.Omega.{arith}
use native.Mathlib.Numerals.{add-one}
use mathlib.Core.Bool.{true}
use mathlib.Core.List.{List}
use lib.ListN.{length}
use lib.Ieee.{Float}
use Rattle.answer.specs.Refusals.{Answered}
use Rattle.answer.specs.Rules.{Passed}
use Rattle.answer.specs.Outcome.{Outcome, outcome}
use Rattle.quantizer.specs.Course.{Course}
use Rattle.run_stages.specs.Calls.{Memory, Advanced, job_rules, start_call, advance_call, hand_in_call}
use Rattle.run_calls.specs.Accepted.{Roomy}
use Rattle.train_run.specs.Training.{cut, all, trained, stop_call, turn_call, turn_calls}
use Rattle.train_run.proofs.ByCalls.{calls_train}

module _ (K : Course) where
  -- a call's memory, from its outcome
  left_by : {A : Type 0} (o : Outcome A Memory) (r : A) (m : Memory) → outcome r m ≡ o → m ≡ o.after
  left_by {A} o r m e = ap (λ (x : Outcome A Memory). x.after) e

  turn-joined : (r : Advanced) (q : Answered) (m₀ m₁ m₂ : Memory) (reduced : List Float) → outcome r m₁ ≡ advance_call K m₀ all → reduced ≡ cut m₁.palette
      → outcome q m₂ ≡ hand_in_call K m₁ reduced → m₂ ≡ turn_call K m₀
  unfolding turn_call
  turn-joined r q m₀ m₁ m₂ reduced e c f =
      left_by _ q m₂ f ∙ ap (λ (x : List Float). (hand_in_call K m₁ x).after) c ∙ ap (stop_call K) (left_by _ r m₁ e)

  -- ---- the turns: after i of them the memory is what they leave, and as long as before
  pub record Turned (i : ℕ) (before after : Memory) : Type 0 where
    pub few : i ≤ 3
    pub is : after ≡ turn_calls K i before
    pub order : length after.order ≡ length before.order
    pub hints : length after.hints ≡ length before.hints
    pub palette : length after.palette ≡ length before.palette
    pub least : length after.least ≡ length before.least
    pub words : length after.words ≡ length before.words

  pub none_turned : (m : Memory) → Turned 0 m m
  unfolding turn_calls
  none_turned m = record { few = omega arith; is = refl; order = refl; hints = refl; palette = refl; least = refl; words = refl }

  module _ (i : ℕ) (m₀ m₁ : Memory) (T : Turned i m₀ m₁) (l : i < 3) where
    pub one_more : (r : Advanced) (q : Answered) (m₂ m₃ : Memory) (reduced : List Float) → outcome r m₂ ≡ advance_call K m₁ all → reduced ≡ cut m₂.palette
        → outcome q m₃ ≡ hand_in_call K m₂ reduced
        → length m₃.order ≡ length m₁.order
        → length m₂.hints ≡ length m₁.hints → length m₃.hints ≡ length m₂.hints
        → length m₂.palette ≡ length m₁.palette → length m₃.palette ≡ length m₂.palette
        → length m₃.least ≡ length m₁.least
        → length m₂.words ≡ length m₁.words → length m₃.words ≡ length m₂.words
        → Turned (i + 1) m₀ m₃
    one_more r q m₂ m₃ reduced e c f o h₂ h₃ p₂ p₃ b w₂ w₃ = record {
      few = omega arith;
      is = turn-joined r q m₁ m₂ m₃ reduced e c f ∙ ap (turn_call K) T.is ∙ (unfold turn_calls in ap (λ (k : ℕ). turn_calls K k m₀) (sym (add-one i)));
      order = o ∙ T.order;
      hints = h₃ ∙ h₂ ∙ T.hints;
      palette = p₃ ∙ p₂ ∙ T.palette;
      least = b ∙ T.least;
      words = w₃ ∙ w₂ ∙ T.words;
    }

  pub all_turned : (i : ℕ) (m₀ m₁ : Memory) → 3 ≤ i → Turned i m₀ m₁ → m₁ ≡ turn_calls K 3 m₀
  all_turned i m₀ m₁ g t =
      let three : i ≡ 3 = omega (arith, t.few) in
      t.is ∙ ap (λ (k : ℕ). turn_calls K k m₀) three

  -- the whole run
  pub run-joined : (a : Answered) (m₀ m₁ m₂ : Memory) → Passed (job_rules K true) → Roomy K m₀ → outcome a m₁ ≡ start_call K m₀ 0 → m₂ ≡ turn_calls K 3 m₁
      → m₂.palette ≡ (trained K m₀.hints).palette
  run-joined a m₀ m₁ m₂ P R e f = ap (λ (m : Memory). m.palette) (f ∙ ap (turn_calls K 3) (left_by _ a m₁ e)) ∙ calls_train K P m₀ R
