-- Each call answers 0 exactly where its memory is accepted, the moment is its own, and what it is handed has its length and bound. Assumes nothing.
use mathlib.Core.Path.{◌≡◌, refl, subst⁻¹}
use mathlib.Core.Bool.{Bool, true, ◌&&◌}
use mathlib.Core.List.{List, [], ◌∷◌, ◌++◌}
use lib.Dec.{eqb}
use lib.Ieee.{Float}
use Rattle.lists.proofs.Tests.{and_l, and_r, and_i}
use Rattle.job.specs.Job.{two}
use Rattle.answer.specs.Rules.{rule, numbered, Passed}
use Rattle.answer.proofs.Passing.{all_pass, passed-number, passed_split, passed-join}
use Rattle.job.specs.Checks.{components_fit, colour_rule}
use Rattle.quantizer.specs.Course.{Course}
use Rattle.run_stages.specs.State.{draws, stops}
use Rattle.run_stages.specs.Record.{state_rules}
use Rattle.run_stages.specs.Calls.{Memory, state_of, colours_room, memory_room, job_rules, run_rules, start_answer, advance_answer, hand_in_answer, result_answer}
use Rattle.run_calls.specs.Accepted.{Roomy, Accepted}
use Rattle.run_calls.proofs.Accepted.{roomy_of, room_of, in-room, accepts, accepted-rules}

module _ (K : Course) where
  -- ---- a call's rules up to the moment
  opened : (m : Memory) (room moment : Bool) → (room ≡ true → memory_room K m ≡ true) → Passed (run_rules K m room moment) → Accepted K m × (room ≡ true) × (moment ≡ true)
  opened m room moment wide p =
      let x = passed_split (job_rules K room) (state_rules K (state_of m) ++ (rule 11 moment ∷ [])) p in
      let y = passed_split (state_rules K (state_of m)) (rule 11 moment ∷ []) x.1 in
      let z = in-room K room x.0 in
      (accepts K m z.1 (roomy_of K m (wide z.0)) y.0, z.0, y.1.0)

  closed : (m : Memory) (room moment : Bool) → Accepted K m → room ≡ true → moment ≡ true → Passed (run_rules K m room moment)
  closed m room moment A e f =
      passed-join (job_rules K room) (state_rules K (state_of m) ++ (rule 11 moment ∷ [])) (subst⁻¹ (λ (b : Bool). Passed (job_rules K b)) e A.passed)
      (passed-join (state_rules K (state_of m)) (rule 11 moment ∷ []) (accepted-rules K m A) (f, tt))

  -- ---- start
  pub start_opened : (m : Memory) → (start_answer K m).number ≡ 0 → Passed (job_rules K true) × Roomy K m
  unfolding start_answer numbered
  start_opened m h =
      let z = in-room K (memory_room K m) (all_pass (job_rules K (memory_room K m)) refl h) in
      (z.1, roomy_of K m z.0)

  pub start_closed : (m : Memory) → Passed (job_rules K true) → Roomy K m → (start_answer K m).number ≡ 0
  unfolding start_answer
  start_closed m p r = passed-number (job_rules K (memory_room K m)) (subst⁻¹ (λ (b : Bool). Passed (job_rules K b)) (room_of K m r) p)

  module _ (m : Memory) where
    -- ---- advance
    pub advance_opened : (advance_answer K m).number ≡ 0 → Accepted K m × (draws (state_of m).rec.stage ≡ true)
    unfolding advance_answer numbered
    advance_opened h =
        let x = opened m (memory_room K m) (draws (state_of m).rec.stage) (λ e. e) (all_pass (run_rules K m (memory_room K m) (draws (state_of m).rec.stage)) refl h) in
        (x.0, x.2)

    pub advance_closed : Accepted K m → draws (state_of m).rec.stage ≡ true → (advance_answer K m).number ≡ 0
    unfolding advance_answer
    advance_closed A d = passed-number (run_rules K m (memory_room K m) (draws (state_of m).rec.stage)) (closed m (memory_room K m) (draws (state_of m).rec.stage) A (room_of K m A.roomy) d)

    -- ---- hand-in
    module _ (reduced : List Float) where
      pub hand_in_opened : (hand_in_answer K m reduced).number ≡ 0 → Accepted K m × (stops (state_of m).rec.stage ≡ true) × (colours_room K reduced ≡ true) × (components_fit two reduced ≡ true)
      unfolding hand_in_answer numbered
      hand_in_opened h =
          let room = memory_room K m && colours_room K reduced in
          let rules = run_rules K m room (stops (state_of m).rec.stage) in
          let x = passed_split rules (colour_rule 17 0 two reduced ∷ []) (all_pass (rules ++ (colour_rule 17 0 two reduced ∷ [])) refl h) in
          let y = opened m room (stops (state_of m).rec.stage) (λ e. and_l (memory_room K m) (colours_room K reduced) e) x.0 in
          (y.0, y.2, and_r (memory_room K m) (colours_room K reduced) y.1, x.1.0)

      pub hand_in_closed : Accepted K m → stops (state_of m).rec.stage ≡ true → colours_room K reduced ≡ true → components_fit two reduced ≡ true → (hand_in_answer K m reduced).number ≡ 0
      unfolding hand_in_answer
      hand_in_closed A d r f =
          let room = memory_room K m && colours_room K reduced in
          let rules = run_rules K m room (stops (state_of m).rec.stage) in
          passed-number (rules ++ (colour_rule 17 0 two reduced ∷ []))
          (passed-join rules (colour_rule 17 0 two reduced ∷ []) (closed m room (stops (state_of m).rec.stage) A (and_i (memory_room K m) (colours_room K reduced) (room_of K m A.roomy) r) d) (f, tt))

    -- ---- result
    module _ (out : List Float) where
      pub result_opened : (result_answer K m out).number ≡ 0 → Accepted K m × (eqb (state_of m).rec.stage 7 ≡ true) × (colours_room K out ≡ true)
      unfolding result_answer numbered
      result_opened h =
          let room = memory_room K m && colours_room K out in
          let y = opened m room (eqb (state_of m).rec.stage 7) (λ e. and_l (memory_room K m) (colours_room K out) e) (all_pass (run_rules K m room (eqb (state_of m).rec.stage 7)) refl h) in
          (y.0, y.2, and_r (memory_room K m) (colours_room K out) y.1)

      pub result_closed : Accepted K m → eqb (state_of m).rec.stage 7 ≡ true → colours_room K out ≡ true → (result_answer K m out).number ≡ 0
      unfolding result_answer
      result_closed A d r =
          let room = memory_room K m && colours_room K out in
          passed-number (run_rules K m room (eqb (state_of m).rec.stage 7)) (closed m room (eqb (state_of m).rec.stage 7) A (and_i (memory_room K m) (colours_room K out) (room_of K m A.roomy) r) d)
