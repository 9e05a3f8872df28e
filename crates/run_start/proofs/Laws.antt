-- What the call asks of its steps, and what it leaves, refused or not. Assumes nothing.
use Prim.Native.Nat.{ℕ, ◌*◌, ◌^◌, ◌≤◌}
use mathlib.Core.Path.{◌≡◌, ap, subst, ◌∙◌}
use mathlib.Core.Bool.{true}
use mathlib.Core.List.{List, []}
use native.Mathlib.Nat.{le_trans, le_of_lt}
use lib.Dec.{lit<}
use lib.Ieee.{Float}
use lib.ListN.{length}
use Rattle.answer.specs.Refusals.{Answered, nothing}
use Rattle.answer.specs.Outcome.{outcome}
use Rattle.answer.proofs.Outcomes.{was_refused, was_done}
use Rattle.job.specs.Gives.{Sampled}
use Rattle.quantizer.specs.Course.{Course}
use Rattle.quantizer.specs.Sums.{zeros}
use Rattle.quantizer.specs.Seeding.{seeded}
use Rattle.run_stages.specs.declared.Record.{Record}
use Rattle.run_stages.specs.State.{State, state_with}
use Rattle.run_stages.specs.Record.{sizes_word}
use Rattle.run_stages.specs.Stages.{settle, fresh, start}
use Rattle.run_stages.specs.Calls.{Memory, memory, record_words, words_of, memory_of, start_answer, start_call}
use Rattle.run_calls.proofs.Accepted.{job-passed}
use Rattle.run_calls.proofs.Answers.{start_opened}
use Rattle.run_blank.specs.Blanks.{dealt, Blanking}
use Rattle.run_round.specs.First.{first_round, Beginning}

module _ (K : Course) (m : Memory) (seed : ℕ) (a : Answered) (e : a ≡ start_answer K m) where
  pub refused : (a.number ≡ 0 → ⊥) → outcome a m ≡ start_call K m seed
  unfolding start_call
  refused h = was_refused a (start_answer K m) e (outcome nothing (memory_of (start K seed m.hints))) (λ x. x) m h

  module _ (z : a.number ≡ 0) where
    answered : (start_answer K m).number ≡ 0
    answered = subst (λ (x : Answered). x.number ≡ 0) e z

    pub passed : Sampled K.job K.n K.samples true
    passed = job-passed K true (start_opened K m answered).0

    pub can_blank : Blanking K m.palette m.least
    can_blank = let roomy = (start_opened K m answered).1 in record { sampling = record { room = true; passed = passed }; one = roomy.palette; two = roomy.least }

    pub can_deal : length m.order ≤ 2 ^ 32
    can_deal =
        let most : 16384 ≤ 2 ^ 32 = le_of_lt (lit< {m = 16384} tt) in
        rw (start_opened K m answered).1.order (le_trans passed.few most)

    pub recorded : length m.words ≡ record_words
    recorded = (start_opened K m answered).1.words

    module _ (p l : List Float) (f : (p ≡ seeded K (zeros (3 * (K.job.S * K.job.C)))) × (l ≡ zeros (3 * (K.job.S * K.job.C)))) (o : List ℕ) (r : Record) (d : state_with o [] [] [] r ≡ dealt (length m.order) seed (sizes_word K)) where
      begun : state_with o m.hints p l r ≡ fresh K seed m.hints
      unfolding fresh dealt
      begun =
          let n = (start_opened K m answered).1.order in
          ap (λ (s : State). state_with s.order m.hints p l s.rec) (d ∙ ap (λ (k : ℕ). dealt k seed (sizes_word K)) n)
          ∙ rw (f.0, f.1)

      pub beginning : Beginning K (state_with o m.hints p l r)
      beginning = record { room = true; passed = passed; each = (start_opened K m answered).1.hints; seed = seed; same = begun }

      pub accepted : (h2 : List ℕ) (p2 l2 : List Float) (x : Record) → state_with o h2 p2 l2 x ≡ settle K (first_round K (state_with o m.hints p l r)) → (w2 : List ℕ) → w2 ≡ words_of x
          → outcome nothing (memory o h2 p2 l2 w2) ≡ start_call K m seed
      unfolding start_call memory_of start first_round
      accepted h2 p2 l2 x g w2 ew =
          was_done a (start_answer K m) e (outcome nothing (memory_of (start K seed m.hints))) (λ y. y) m z (outcome nothing (memory o h2 p2 l2 w2))
          (ap (λ (w : List ℕ). outcome nothing (memory o h2 p2 l2 w)) ew
          ∙ ap (λ (s : State). outcome nothing (memory_of s)) (g ∙ ap (λ (s : State). settle K (first_round K s)) begun))
