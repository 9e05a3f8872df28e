-- What the index of a refused call of a run names, and that it is small. Assumes nothing.
use Prim.Native.Nat.{ℕ, ◌+◌, ◌-◌, ◌*◌, ◌/◌, ◌≤◌}
use mathlib.Core.Path.{◌≡◌, refl, sym, ap, ◌∙◌}
use mathlib.Core.Logic.{◌≢◌, ◌⊎◌, inl, inr}
use mathlib.Core.Bool.{Bool, true, false, ◌&&◌, true≢false}
use mathlib.Core.List.{List, [], ◌∷◌, ◌++◌}
use native.Mathlib.Omega.{arith}
use lib.Dec.{eqb}
use lib.Ieee.{Float}
use lib.ListN.{length}
use borrow.Author.Tests.{eqb-true}
use Rattle.lists.proofs.Tests.{and_l, and_r}
use Rattle.answer.specs.Refusals.{refusal}
use Rattle.answer.specs.Rules.{Rule, rule, answer, Passed}
use Rattle.answer.specs.Names.{Table, Names, never}
use Rattle.answer.proofs.Places.{rule_then, plain_then, aside}
use Rattle.job.specs.Job.{two}
use Rattle.job.specs.Checks.{first_bad, components_fit, colour_rule}
use Rattle.job.specs.Bad.{FirstBad, sampled_names, most_index}
use Rattle.job.proofs.Bad.{none-bad}
use Rattle.job.proofs.Indexes.{Placed, unplaced, named, named_from, named_few, sampled-placed}
use Rattle.quantizer.specs.Course.{Course}
use Rattle.run_stages.specs.State.{draws, stops}
use Rattle.run_stages.specs.Record.{four, order_fits, looked_at, record_rules}
use Rattle.run_stages.specs.Calls.{Memory, state_of, colours_room, memory_room, job_rules, run_rules, start_answer, advance_answer, hand_in_answer, result_answer}
use Rattle.run_calls.specs.Accepted.{Roomy}
use Rattle.run_calls.specs.Names.{FirstWorking, start_names, run_names, hand_in_names}
use Rattle.run_calls.proofs.Cases.{decide}
use Rattle.run_calls.proofs.Accepted.{roomy_of, job-passed}

-- ---- where what is looked at of the second palette is bad, that is all of it
looked_at_lem : (stage : ℕ) (xs : List Float) → components_fit four (looked_at stage xs) ≡ false → looked_at stage xs ≡ xs
unfolding looked_at
looked_at_lem stage xs h = by (decide (eqb stage 2))
  where
    by : (eqb stage 2 ≡ true) ⊎ (eqb stage 2 ≡ false) → looked_at stage xs ≡ xs
    by (inl t) = rw t
    by (inr t) = absurd (true≢false (sym (none-bad four) ∙ (rw t at h)))

module _ (K : Course) where
  abbrev cells : ℕ
  cells = K.job.S * K.job.C

  -- a list of S·C colours has a small index
  few_of : (room : Bool) → Passed (job_rules K room) → (base : ℕ) → base ≤ cells → (m : Float) (xs : List Float) → length xs ≡ 3 * cells → components_fit m xs ≡ false → base + first_bad m xs / 3 ≤ most_index
  few_of room p base b m xs l h = omega (arith, named_few m xs h cells l, (job-passed K room p).ready.sizes.cells)

  -- ---- start
  pub start-placed : (m : Memory) → Placed (start_names K) (start_answer K m)
  unfolding start_answer answer
  start-placed m = sampled-placed K.job K.n K.samples (memory_room K m) never never [] (λ _. unplaced (start_names K) 0 refl)

  module _ (m : Memory) (handed : ℕ → Type 0) where
    abbrev T : Table
    T = sampled_names K.job (FirstWorking K (state_of m)) handed

    abbrev looked : List Float
    looked = looked_at (state_of m).rec.stage (state_of m).least

    abbrev least_rule : Rule
    least_rule = colour_rule 16 cells four looked

    abbrev ordered : Bool → List Rule
    ordered moment = rule 9 (order_fits K.n (state_of m).order) ∷ rule 11 moment ∷ []

    -- ---- the rules that all but start share, before others
    pub run-placed : (room moment : Bool) (rest : List Rule) → (room ≡ true → Roomy K m) → (Passed (job_rules K room) → Placed T (answer rest))
        → Placed T (answer (run_rules K m room moment ++ rest))
    unfolding state_of
    run-placed room moment rest roomy later =
        sampled-placed K.job K.n K.samples room (FirstWorking K (state_of m)) handed (record_rules K (state_of m).rec ++ (working ++ (ordered moment ++ rest)))
        (λ p. plain_then (Placed T) (aside T) (unplaced T) (record_rules K (state_of m).rec) (working ++ (ordered moment ++ rest)) refl
        (λ q. rule_then (Placed T) (colour_rule 16 0 four m.palette) (least_rule ∷ (ordered moment ++ rest)) (λ h. (at-palette h, few_of room p 0 (omega arith) four m.palette (lent p).palette h))
        (λ g. rule_then (Placed T) least_rule (ordered moment ++ rest) (λ h. (at_least g h, few_of room p cells (omega arith) four looked (ap length (looked_at_lem (state_of m).rec.stage m.least h) ∙ (lent p).least) h))
        (λ f. plain_then (Placed T) (aside T) (unplaced T) (ordered moment) rest refl (λ o. later p)))))
      where
        working : List Rule
        working = colour_rule 16 0 four m.palette ∷ least_rule ∷ []

        lent : Passed (job_rules K room) → Roomy K m
        lent p = roomy (job-passed K room p).roomy

        at-palette : components_fit four m.palette ≡ false → Names T (refusal 16 (0 + first_bad four m.palette / 3))
        at-palette h = (λ e. absurd (omega arith), λ _. (λ _. inl (named four m.palette h), λ n. absurd (n refl)))

        at_least : components_fit four m.palette ≡ true → components_fit four looked ≡ false → Names T (refusal 16 (cells + first_bad four looked / 3))
        at_least g h = (λ e. absurd (omega arith), λ _. (λ _. inr (g, omega arith, named_from four looked h cells), λ n. absurd (n refl)))

  -- ---- the three calls
  pub advance-placed : (m : Memory) → Placed (run_names K m) (advance_answer K m)
  unfolding advance_answer answer
  advance-placed m = run-placed m never (memory_room K m) (draws (state_of m).rec.stage) [] (roomy_of K m) (λ _. unplaced (run_names K m) 0 refl)

  pub result-placed : (m : Memory) (out : List Float) → Placed (run_names K m) (result_answer K m out)
  unfolding result_answer answer
  result-placed m out =
      run-placed m never (memory_room K m && colours_room K out) (eqb (state_of m).rec.stage 7) [] (λ h. roomy_of K m (and_l (memory_room K m) (colours_room K out) h))
      (λ _. unplaced (run_names K m) 0 refl)

  pub hand_in-placed : (m : Memory) (reduced : List Float) → Placed (hand_in_names K m reduced) (hand_in_answer K m reduced)
  unfolding hand_in_answer answer colours_room
  hand_in-placed m reduced =
      run-placed m (FirstBad two reduced) room (stops (state_of m).rec.stage) (colour_rule 17 0 two reduced ∷ []) (λ h. roomy_of K m (and_l (memory_room K m) (colours_room K reduced) h))
      (λ p. rule_then (Placed (hand_in_names K m reduced)) (colour_rule 17 0 two reduced) [] (λ h. (at_handed h, few_of room p 0 (omega arith) two reduced (long p) h)) (λ _. unplaced (hand_in_names K m reduced) 0 refl))
    where
      room : Bool
      room = memory_room K m && colours_room K reduced

      long : Passed (job_rules K (memory_room K m && colours_room K reduced)) → length reduced ≡ 3 * cells
      long p = eqb-true (length reduced) (3 * cells) (and_r (memory_room K m) (colours_room K reduced) (job-passed K (memory_room K m && colours_room K reduced) p).roomy)

      at_handed : components_fit two reduced ≡ false → Names (hand_in_names K m reduced) (refusal 17 (0 + first_bad two reduced / 3))
      at_handed h = (λ e. absurd (omega arith), λ _. (λ e. absurd (omega arith), λ _. (λ _. named two reduced h, λ n. absurd (n refl))))
