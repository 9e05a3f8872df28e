-- The record's rules, words 1 to 6, and what else is asked of a run's memory. Definitions only. Assumes nothing.
use Rattle.std.specs.Prelude.{ℕ, ◌+◌, ◌-◌, ◌*◌, ◌^◌, Bool, cond, ◌&&◌, List, [], ◌∷◌, ◌++◌, leb, ltb, eqb, length, get_or, Float}
use Rattle.std.specs.Float.{binary32}
use Rattle.std.specs.Float.Ieee.{of_bits}
use Rattle.lists.specs.Every.{every}
use Rattle.answer.specs.Rules.{Rule, rule}
use Rattle.job.specs.Checks.{colour_rule}
use Rattle.quantizer.specs.Course.{Course, b}
use Rattle.run_stages.specs.declared.Record.{Record}
use Rattle.run_stages.specs.declared.Line.{Line}
use Rattle.run_stages.specs.State.{State, draws, beside}

-- the greatest magnitude of a working colour's component
abbrev pub four : Float
four = of_bits binary32 0x40800000

-- each entry is below n
unfoldable pub entry_fits : ℕ → List ℕ → ℕ → Bool
entry_fits n order i = ltb (get_or order i 0) n

unfoldable pub order_fits : ℕ → List ℕ → Bool
order_fits n order = every (entry_fits n order) (length order)

-- word 5: a finite f32 pattern with the sign bit clear in stage 2, else 0
unfoldable pub error_fits : ℕ → ℕ → Bool
error_fits stage error = cond (eqb stage 2) (ltb error 0x7f800000) (eqb error 0)

-- what is looked at of the second palette: in stage 2 all, elsewhere nothing
unfoldable pub looked_at : ℕ → List Float → List Float
looked_at stage least = cond (eqb stage 2) least []

-- the working colours, the first palette's before those of the second, which go on counting from `cells`; of the first every place is looked at
abbrev pub working_rules : ℕ → ℕ → List Float → List Float → List Rule
working_rules cells stage palette least = colour_rule 16 0 four palette ∷ colour_rule 16 cells four (looked_at stage least) ∷ []

-- four numbers in 16 bits each, most significant first
unfoldable pub packed : ℕ → ℕ → ℕ → ℕ → ℕ
packed s c t n = s * 2 ^ 48 + c * 2 ^ 32 + t * 2 ^ 16 + n

abbrev pub stage_with : ℕ → ℕ → ℕ → Line
stage_with rounds each before = record { rounds = rounds; each = each; before = before }

module _ (K : Course) where
  open K.job use {S, C, T}

  -- the table of the stages: rounds, draws in a round, draws before the stage. At a stop and at the finish there are neither rounds nor draws
  unfoldable pub stage_of : ℕ → Line
  stage_of k =
      beside k
      ((0, stage_with (S - 1) (b K) 0)
      ∷ (1, stage_with (C - 1) (b K) ((S - 1) * b K))
      ∷ (2, stage_with 10 (b K) ((S - 1 + (C - 1)) * b K))
      ∷ (3, stage_with 0 0 ((S + C + 8) * b K))
      ∷ (4, stage_with 1 (10 * b K) ((S + C + 8) * b K)) ∷ [])
      (stage_with 0 0 ((S + C + 18) * b K))

  -- words 1 to 3
  unfoldable pub place_fits : ℕ → ℕ → ℕ → Bool
  place_fits k rounds left =
      leb k 7 && cond (draws k) (ltb rounds (stage_of k).rounds && (leb 1 left && leb left (stage_of k).each)) (eqb rounds 0 && eqb left 0)

  -- word 4, from words 1 to 3
  unfoldable pub made_by : ℕ → ℕ → ℕ → ℕ
  made_by k rounds left = cond (draws k) ((stage_of k).before + rounds * b K + ((stage_of k).each - left)) (stage_of k).before

  -- word 6: the job's sizes
  abbrev pub sizes_word : ℕ
  sizes_word = packed S C T K.n

  abbrev pub record_rules : Record → List Rule
  record_rules r =
      rule 20 (eqb r.sizes sizes_word)
      ∷ rule 10 (place_fits r.stage r.rounds r.left)
      ∷ rule 10 (eqb r.made (made_by r.stage r.rounds r.left))
      ∷ rule 10 (error_fits r.stage r.error) ∷ []

  abbrev pub state_rules : State → List Rule
  state_rules s =
      record_rules s.rec
      ++ (working_rules (S * C) s.rec.stage s.palette s.least
      ++ (rule 9 (order_fits K.n s.order) ∷ []))
