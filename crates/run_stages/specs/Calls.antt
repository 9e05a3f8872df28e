-- The four calls of a run over the memory lent to them: what each answers, and the memory after. Definitions only. Assumes nothing.
use Rattle.std.specs.Prelude.{ℕ, ◌*◌, Bool, ◌&&◌, List, [], ◌∷◌, ◌++◌, eqb, length, get_or, Result, Ok, Err, Float}
use Rattle.job.specs.Job.{two}
use Rattle.answer.specs.declared.Refusal.{Refusal}
use Rattle.answer.specs.Refusals.{Answered, nothing, numbered_as}
use Rattle.answer.specs.Rules.{Rule, rule, answer}
use Rattle.answer.specs.Outcome.{Outcome, outcome, decided}
use Rattle.job.specs.Checks.{colour_rule, sampled_rules}
use Rattle.quantizer.specs.Course.{Course}
use Rattle.run_stages.specs.declared.Record.{Record}
use Rattle.run_stages.specs.State.{State, state_with, draws, stops}
use Rattle.run_stages.specs.Stages.{advance, draws_of, start, hand_in}
use Rattle.run_stages.specs.Record.{state_rules}

-- ---- the memory lent: `words` is the record
pub record Memory : Type 0 where
  pub order : List ℕ
  pub hints : List ℕ
  pub palette : List Float
  pub least : List Float
  pub words : List ℕ

abbrev pub memory : List ℕ → List ℕ → List Float → List Float → List ℕ → Memory
memory order hints palette least words = record { order = order; hints = hints; palette = palette; least = least; words = words }

-- the record's words by name, in their order, and how many they are
abbrev pub record_of : List ℕ → Record
record_of words = record { generator = get_or words 0 0; stage = get_or words 1 0; rounds = get_or words 2 0; left = get_or words 3 0; made = get_or words 4 0; error = get_or words 5 0; sizes = get_or words 6 0 }

abbrev pub words_of : Record → List ℕ
words_of r = r.generator ∷ r.stage ∷ r.rounds ∷ r.left ∷ r.made ∷ r.error ∷ r.sizes ∷ []

abbrev pub record_words : ℕ
record_words = 7

-- the state that it holds, and the memory that holds a state
unfoldable pub state_of : Memory → State
state_of m = state_with m.order m.hints m.palette m.least (record_of m.words)

unfoldable pub memory_of : State → Memory
memory_of s = memory s.order s.hints s.palette s.least (words_of s.rec)

-- what an advance answers: its refusal, or nothing, and the draws that it made, none where it is refused
pub record Advanced : Type 0 where
  pub refusal : Answered
  pub draws : ℕ

abbrev pub advanced : Answered → ℕ → Advanced
advanced e n = record { refusal = e; draws = n }

abbrev pub advanced_as : Result ℕ Refusal → Advanced
advanced_as (Ok n) = advanced nothing n
advanced_as (Err e) = advanced (numbered_as e) 0

module _ (K : Course) where
  open K.job use {S, C, T}

  -- ---- lengths
  unfoldable pub colours_room : List Float → Bool
  colours_room xs = eqb (length xs) (3 * (S * C))

  unfoldable pub memory_room : Memory → Bool
  memory_room m =
      eqb (length m.order) K.n && (eqb (length m.hints) T
      && (colours_room m.palette && (colours_room m.least && eqb (length m.words) record_words)))

  -- ---- the rules in their order
  abbrev pub job_rules : Bool → List Rule
  job_rules room = sampled_rules K.job K.n K.samples room

  abbrev pub run_rules : Memory → Bool → Bool → List Rule
  run_rules m room moment = job_rules room ++ (state_rules K (state_of m) ++ (rule 11 moment ∷ []))

  abbrev pub start_rules : Memory → List Rule
  start_rules m = job_rules (memory_room m)

  abbrev pub advance_rules : Memory → List Rule
  advance_rules m = run_rules m (memory_room m) (draws (state_of m).rec.stage)

  abbrev pub hand_in_rules : Memory → List Float → List Rule
  hand_in_rules m reduced = run_rules m (memory_room m && colours_room reduced) (stops (state_of m).rec.stage) ++ (colour_rule 17 0 two reduced ∷ [])

  abbrev pub result_rules : Memory → List Float → List Rule
  result_rules m out = run_rules m (memory_room m && colours_room out) (eqb (state_of m).rec.stage 7)

  unfoldable pub start_answer : Memory → Answered
  start_answer m = answer (start_rules m)

  unfoldable pub advance_answer : Memory → Answered
  advance_answer m = answer (advance_rules m)

  unfoldable pub hand_in_answer : Memory → List Float → Answered
  hand_in_answer m reduced = answer (hand_in_rules m reduced)

  unfoldable pub result_answer : Memory → List Float → Answered
  result_answer m out = answer (result_rules m out)

  -- ---- the calls. A refusal makes no draw and writes nothing
  unfoldable pub start_call : Memory → ℕ → Outcome Answered Memory
  start_call m seed = decided (start_answer m) (outcome nothing (memory_of (start K seed m.hints))) (start_answer m) m

  unfoldable pub advance_call : Memory → ℕ → Outcome Advanced Memory
  advance_call m a =
      decided (advance_answer m) (outcome (advanced nothing (draws_of K a (state_of m))) (memory_of (advance K a (state_of m)))) (advanced (advance_answer m) 0) m

  unfoldable pub hand_in_call : Memory → List Float → Outcome Answered Memory
  hand_in_call m reduced = decided (hand_in_answer m reduced) (outcome nothing (memory_of (hand_in K reduced (state_of m)))) (hand_in_answer m reduced) m

  -- the colours go to `out`, and nothing else is written
  unfoldable pub result_call : Memory → List Float → Outcome Answered (List Float)
  result_call m out = decided (result_answer m out) (outcome nothing m.palette) (result_answer m out) out
