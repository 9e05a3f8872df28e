-- Two runs of the same calls on memories that differ in their hints alone leave memories that differ in their hints alone. Assumes nothing.
use Prim.Native.Nat.{ℕ}
use mathlib.Core.Path.{◌≡◌, refl, sym, ap, subst, subst₂, ◌∙◌}
use mathlib.Core.Bool.{Bool, true, false, cond, ◌&&◌}
use mathlib.Core.List.{List, [], ◌∷◌, ◌++◌}
use lib.Dec.{eqb}
use lib.ListN.{length}
use lib.Ieee.{Float}
use borrow.Author.Tests.{eqb-true}
use Rattle.job.specs.Job.{two}
use Rattle.answer.specs.Refusals.{Answered, nothing}
use Rattle.answer.specs.Rules.{Rule, rule, answer}
use Rattle.answer.specs.Outcome.{outcome, decided}
use Rattle.job.specs.Checks.{colour_rule}
use Rattle.quantizer.specs.Course.{Course}
use Rattle.run_stages.specs.State.{State, draws, stops}
use Rattle.run_stages.specs.Stages.{advance as advances, draws_of, start as starts, hand_in as hands_in}
use Rattle.run_stages.specs.Record.{state_rules}
use Rattle.run_stages.specs.Calls.{Memory, words_of, state_of, memory_of, advanced, colours_room, memory_room, job_rules, run_rules}
use Rattle.run_stages.specs.Calls.{start_answer, advance_answer, hand_in_answer, result_answer, start_call, advance_call, hand_in_call, result_call}
use Rattle.run_calls.proofs.Hintless.{Alike, advance-alike, draws-alike, sampled-alike, start-alike, hand_in-alike}
use Rattle.run_calls.specs.Accepted.{Accepted}
use Rattle.run_calls.proofs.Next.{started-state, advanced-state, handed_state, start_leaves, advance_leaves, hand_in_leaves}
use Rattle.demands.specs.Second.{HintsApart, SameButHints, Request, start, advance, hand_in, drawless, called, left, WhateverHints}

-- ---- states and memories
states : (m x : Memory) → HintsApart m x → Alike (state_of m) (state_of x)
unfolding state_of
states m x h = record { rest = cc }

memories : (s z : State) → Alike s z → length s.hints ≡ length z.hints → HintsApart (memory_of s) (memory_of z)
unfolding memory_of
memories s z e many =
    record {
      order = ap (λ (y : State). y.order) e.rest;
      palette = ap (λ (y : State). y.palette) e.rest;
      least = ap (λ (y : State). y.least) e.rest;
      words = ap (λ (y : State). words_of y.rec) e.rest;
      many = many;
    }

-- ---- a call that is decided by its rules
answers-alike : (e f : Answered) (m x : Memory) (d c : ℕ) (s z : State) → e ≡ f → HintsApart m x → d ≡ c → Alike s z → (e.number ≡ 0 → length s.hints ≡ length z.hints)
    → SameButHints (decided e (outcome (advanced nothing d) (memory_of s)) (advanced e 0) m) (decided f (outcome (advanced nothing c) (memory_of z)) (advanced f 0) x)
unfolding decided
answers-alike e f m x d c s z q h p a many = rw (sym q) (by (eqb e.number 0) refl)
  where
    by : (t : Bool) → eqb e.number 0 ≡ t
        → SameButHints (cond t (outcome (advanced nothing d) (memory_of s)) (outcome (advanced e 0) m)) (cond t (outcome (advanced nothing c) (memory_of z)) (outcome (advanced e 0) x))
    by true k = record { answer = ap (advanced nothing) p; after = memories s z a (many (eqb-true e.number 0 k)) }
    by false k = record { answer = refl; after = h }

-- one that makes no draw
drawless-is : (e : Answered) (after lent : Memory) → decided e (outcome (advanced nothing 0) after) (advanced e 0) lent ≡ drawless (decided e (outcome nothing after) e lent)
unfolding decided
drawless-is e after lent = by (eqb e.number 0)
  where
    by : (t : Bool) → cond t (outcome (advanced nothing 0) after) (outcome (advanced e 0) lent) ≡ drawless (cond t (outcome nothing after) (outcome e lent))
    by true = refl
    by false = refl

module _ (K : Course) where
  -- an accepted call leaves a hint for each tile
  kept : {z : Memory} {s : State} → Accepted K z → state_of z ≡ s → length s.hints ≡ K.job.T
  kept A e = ap (λ (y : State). length y.hints) (sym e) ∙ A.fit.sound.hints

  module _ (m x : Memory) (h : HintsApart m x) where
    room : memory_room K m ≡ memory_room K x
    unfolding memory_room colours_room
    room = cc

    -- the rules of a call on a run at its moment
    rules : (r q : Bool) (moment : ℕ → Bool) → r ≡ q → run_rules K m r (moment (state_of m).rec.stage) ≡ run_rules K x q (moment (state_of x).rec.stage)
    rules r q moment e =
        ap (λ (t : Bool). run_rules K m t (moment (state_of m).rec.stage)) e
        ∙ ap (λ (s : State). job_rules K q ++ (state_rules K s ++ (rule 11 (moment s.rec.stage) ∷ []))) (states m x h).rest

    starts-same : start_answer K m ≡ start_answer K x
    unfolding start_answer
    starts-same = ap (λ (t : Bool). answer (job_rules K t)) room

    advances_same : advance_answer K m ≡ advance_answer K x
    unfolding advance_answer
    advances_same = ap answer (rules (memory_room K m) (memory_room K x) draws room)

    hand_ins-same : (reduced : List Float) → hand_in_answer K m reduced ≡ hand_in_answer K x reduced
    unfolding hand_in_answer
    hand_ins-same reduced =
        ap (λ (rs : List Rule). answer (rs ++ (colour_rule 17 0 two reduced ∷ [])))
        (rules (memory_room K m && colours_room K reduced) (memory_room K x && colours_room K reduced) stops (ap (λ (t : Bool). t && colours_room K reduced) room))

    results_same : (out : List Float) → result_answer K m out ≡ result_answer K x out
    unfolding result_answer
    results_same out =
        ap answer (rules (memory_room K m && colours_room K out) (memory_room K x && colours_room K out) (λ k. eqb k 7) (ap (λ (t : Bool). t && colours_room K out) room))

    -- what passed on one memory passes on the other
    carried : {e f : Answered} → e ≡ f → e.number ≡ 0 → f.number ≡ 0
    carried q z = subst (λ (r : Answered). r.number ≡ 0) q z

    -- ---- one call
    call_same : (c : Request) → SameButHints (called K m c) (called K x c)
    unfolding called
    call_same (start seed) =
        unfold start_call in
        subst₂ SameButHints (drawless-is (start_answer K m) (memory_of (starts K seed m.hints)) m) (drawless-is (start_answer K x) (memory_of (starts K seed x.hints)) x)
        (answers-alike (start_answer K m) (start_answer K x) m x 0 0 (starts K seed m.hints) (starts K seed x.hints) starts-same h refl (start-alike K seed m.hints x.hints)
        (λ e. kept (start_leaves K m seed e) (started-state K m seed e) ∙ sym (kept (start_leaves K x seed (carried starts-same e)) (started-state K x seed (carried starts-same e)))))
    call_same (advance a) =
        unfold advance_call in
        answers-alike (advance_answer K m) (advance_answer K x) m x (draws_of K a (state_of m)) (draws_of K a (state_of x)) (advances K a (state_of m)) (advances K a (state_of x)) advances_same h
        (draws-alike K a (state_of m) (state_of x) (states m x h)) (advance-alike K a (state_of m) (state_of x) (states m x h))
        (λ e. kept (advance_leaves K m a e) (advanced-state K m a e) ∙ sym (kept (advance_leaves K x a (carried advances_same e)) (advanced-state K x a (carried advances_same e))))
    call_same (hand_in reduced) =
        unfold hand_in_call in
        subst₂ SameButHints (drawless-is (hand_in_answer K m reduced) (memory_of (hands_in K reduced (state_of m))) m) (drawless-is (hand_in_answer K x reduced) (memory_of (hands_in K reduced (state_of x))) x)
        (answers-alike (hand_in_answer K m reduced) (hand_in_answer K x reduced) m x 0 0 (hands_in K reduced (state_of m)) (hands_in K reduced (state_of x)) (hand_ins-same reduced) h refl
        (hand_in-alike K reduced (state_of m) (state_of x) (states m x h))
        (λ e. kept (hand_in_leaves K m reduced e) (handed_state K m reduced e) ∙ sym (kept (hand_in_leaves K x reduced (carried (hand_ins-same reduced) e)) (handed_state K x reduced (carried (hand_ins-same reduced) e)))))

    result-same : (out : List Float) → result_call K m out ≡ result_call K x out
    unfolding result_call
    result-same out =
        ap (λ (e : Answered). decided e (outcome nothing m.palette) e out) (results_same out)
        ∙ ap (λ (p : List Float). decided (result_answer K x out) (outcome nothing p) (result_answer K x out) out) h.palette

  -- ---- calls in a row
  rows : (cs : List Request) (m x : Memory) → HintsApart m x → HintsApart (left K cs m) (left K cs x)
  unfolding left
  rows [] m x h = h
  rows (c ∷ cs) m x h = rows cs (called K m c).after (called K x c).after (call_same m x h c).after

  pub whatever_hints : (m x : Memory) → HintsApart m x → WhateverHints K m x
  whatever_hints m x h =
      record {
        calls = λ cs c. call_same (left K cs m) (left K cs x) (rows cs m x h) c;
        samples = λ cs a. sampled-alike K a (state_of (left K cs m)) (state_of (left K cs x)) (states (left K cs m) (left K cs x) (rows cs m x h));
        results = λ cs out. result-same (left K cs m) (left K cs x) (rows cs m x h) out;
      }
