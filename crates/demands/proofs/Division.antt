-- The same hand-ins and as many draws leave one memory, whatever the division into calls. Assumes nothing.
use Prim.Native.Nat.{ℕ, ◌+◌}
use mathlib.Core.Path.{◌≡◌, refl, sym, ap, subst, subst⁻¹, ◌∙◌}
use mathlib.Core.List.{List, [], ◌∷◌}
use native.Mathlib.Omega.{arith}
use lib.ListN.{length}
use lib.Ieee.{Float}
use Rattle.quantizer.specs.Course.{Course}
use Rattle.answer.specs.Refusals.{Answered}
use Rattle.answer.specs.Outcome.{Outcome}
use Rattle.run_stages.specs.Calls.{Advanced}
use Rattle.run_stages.specs.State.{State}
use Rattle.run_stages.specs.Stages.{advance, draws_of, hand_in}
use Rattle.run_stages.specs.Calls.{Memory, memory, record_words, record_of, words_of, state_of, memory_of, advance_answer, hand_in_answer, advance_call, hand_in_call}
use Rattle.run_calls.proofs.Traces.{Trace, took, advance_trace, one_end}
use Rattle.run_calls.proofs.Traces as traces
use Rattle.run_calls.specs.Accepted.{Accepted}
use Rattle.run_calls.proofs.Answers.{advance_opened, hand_in_opened}
use Rattle.run_calls.proofs.Next.{held-state, advance-done, hand_in-done, advanced-state, handed_state}
use Rattle.demands.specs.Third.{Row, none, advanced, handed_in, AnyDivision}

-- a record's words are those of the record that they are read as
whole_words : (ws : List ℕ) → length ws ≡ record_words → words_of (record_of ws) ≡ ws
whole_words (a ∷ b ∷ c ∷ d ∷ e ∷ f ∷ g ∷ []) h = refl
whole_words [] h = absurd (omega arith)
whole_words (a ∷ []) h = absurd (omega arith)
whole_words (a ∷ b ∷ []) h = absurd (omega arith)
whole_words (a ∷ b ∷ c ∷ []) h = absurd (omega arith)
whole_words (a ∷ b ∷ c ∷ d ∷ []) h = absurd (omega arith)
whole_words (a ∷ b ∷ c ∷ d ∷ e ∷ []) h = absurd (omega arith)
whole_words (a ∷ b ∷ c ∷ d ∷ e ∷ f ∷ []) h = absurd (omega arith)
whole_words (a ∷ b ∷ c ∷ d ∷ e ∷ f ∷ g ∷ i ∷ ws) h = absurd (omega arith)

-- a memory that is what its state is written as
abbrev Whole : Memory → Type 0
Whole m = memory_of (state_of m) ≡ m

module _ (K : Course) where
  accepted-whole : (m : Memory) → Accepted K m → Whole m
  unfolding memory_of state_of
  accepted-whole m A = ap (λ (ws : List ℕ). memory m.order m.hints m.palette m.least ws) (whole_words m.words A.roomy.words)

  written : (m : Memory) (s : State) → m ≡ memory_of s → Whole m
  written m s e = ap (λ (x : Memory). memory_of (state_of x)) e ∙ ap memory_of (held-state s) ∙ sym e

  advance-whole : (m : Memory) (a : ℕ) → (advance_answer K m).number ≡ 0 → Whole (advance_call K m a).after
  unfolding advance_call
  advance-whole m a h = written _ (advance K a (state_of m)) (ap (λ (o : Outcome Advanced Memory). o.after) (advance-done K m a h))

  hand_in-whole : (m : Memory) (reduced : List Float) → (hand_in_answer K m reduced).number ≡ 0 → Whole (hand_in_call K m reduced).after
  unfolding hand_in_call
  hand_in-whole m reduced h = written _ (hand_in K reduced (state_of m)) (ap (λ (o : Outcome Answered Memory). o.after) (hand_in-done K m reduced h))

  advance_drew : (m : Memory) (a : ℕ) → (advance_answer K m).number ≡ 0 → (advance_call K m a).answer.draws ≡ draws_of K a (state_of m)
  unfolding advance_call
  advance_drew m a h = ap (λ (o : Outcome Advanced Memory). o.answer.draws) (advance-done K m a h)

  row-whole : {m x : Memory} {hs : List (List Float)} {d : ℕ} → Row K m hs d x → Whole m → Whole x
  row-whole none w = w
  row-whole {m} (advanced a h r) w = row-whole r (advance-whole m a h)
  row-whole {m} (handed_in reduced h r) w = row-whole r (hand_in-whole m reduced h)

  row_trace : {m x : Memory} {hs : List (List Float)} {d : ℕ} → Row K m hs d x → Trace K (state_of m) hs d (state_of x)
  row_trace none = traces.none
  row_trace {m} {x} {hs} (advanced {d = d} a h r) =
      subst⁻¹ (λ (n : ℕ). Trace K (state_of m) hs (n + d) (state_of x)) (advance_drew m a h)
      (advance_trace K a (state_of m) (subst (λ (s : State). Trace K s hs d (state_of x)) (advanced-state K m a h) (row_trace r)))
  row_trace {m} {x} (handed_in {hs = hs} {d = d} reduced h r) =
      took reduced (hand_in_opened K m reduced h).1 (subst (λ (s : State). Trace K s hs d (state_of x)) (handed_state K m reduced h) (row_trace r))

  one-memory : {m x y : Memory} {hs ks : List (List Float)} {d e : ℕ} → Whole m → Row K m hs d x → Row K m ks e y → hs ≡ ks → d ≡ e → x ≡ y
  one-memory w r q p n = sym (row-whole r w) ∙ ap memory_of (one_end K (row_trace r) (row_trace q) p n) ∙ row-whole q w

  one_left : {m x y : Memory} {hs ks : List (List Float)} {d e : ℕ} → Row K m hs d x → Row K m ks e y → hs ≡ ks → d ≡ e → x ≡ y
  one_left none none p n = refl
  one_left {m} none (advanced a h q) p n = one-memory (accepted-whole m (advance_opened K m h).0) none (advanced a h q) p n
  one_left {m} none (handed_in reduced h q) p n = one-memory (accepted-whole m (hand_in_opened K m reduced h).0) none (handed_in reduced h q) p n
  one_left {m} (advanced a h r) q p n = one-memory (accepted-whole m (advance_opened K m h).0) (advanced a h r) q p n
  one_left {m} (handed_in reduced h r) q p n = one-memory (accepted-whole m (hand_in_opened K m reduced h).0) (handed_in reduced h r) q p n

  pub any_division : AnyDivision K
  any_division = record { same = λ r q. one_left r q refl refl }
