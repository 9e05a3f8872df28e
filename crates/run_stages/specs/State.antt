-- What a run holds between two draws, and the tests on its stage. Definitions only. Assumes nothing.
-- Stages: 0 seeding, 1 growing, 2 replacing, 3 stop for reduction, 4 final draws, 5 stop, 6 stop, 7 finished.
use Rattle.std.specs.Prelude.{ℕ, ◌-◌, Bool, cond, ◌||◌, List, [], ◌∷◌, ltb, eqb, Float}
use Rattle.run_stages.specs.declared.Record.{Record}

pub record State : Type 0 where
  pub order : List ℕ
  pub hints : List ℕ
  pub palette : List Float
  pub least : List Float
  pub rec : Record

abbrev pub state_with : List ℕ → List ℕ → List Float → List Float → Record → State
state_with order hints palette least r = record { order = order; hints = hints; palette = palette; least = least; rec = r }

-- ---- a record at the very beginning; and one with its place changed, with its error, and after a draw. None changes the sizes
abbrev pub begun : ℕ → ℕ → Record
begun generator sizes = record { generator = generator; stage = 0; rounds = 0; left = 0; made = 0; error = 0; sizes = sizes }

abbrev pub placed : Record → ℕ → ℕ → ℕ → Record
placed r stage rounds left = record { generator = r.generator; stage = stage; rounds = rounds; left = left; made = r.made; error = r.error; sizes = r.sizes }

abbrev pub noted : Record → ℕ → Record
noted r error = record { generator = r.generator; stage = r.stage; rounds = r.rounds; left = r.left; made = r.made; error = error; sizes = r.sizes }

abbrev pub counted : Record → ℕ → ℕ → Record
counted r generator made = record { generator = generator; stage = r.stage; rounds = r.rounds; left = r.left - 1; made = made; error = r.error; sizes = r.sizes }

-- ---- a state with some of its fields changed
abbrev pub at : State → ℕ → ℕ → ℕ → State
at s stage rounds left = state_with s.order s.hints s.palette s.least (placed s.rec stage rounds left)

abbrev pub painted : State → List ℕ → List Float → State
painted s hints palette = state_with s.order hints palette s.least s.rec

abbrev pub kept : State → List Float → ℕ → State
kept s least error = state_with s.order s.hints s.palette least (noted s.rec error)

-- ---- the stages that draw, and those that wait for reduced colours
abbrev pub draws : ℕ → Bool
draws k = ltb k 3 || eqb k 4

abbrev pub stops : ℕ → Bool
stops k = eqb k 3 || eqb k 5 || eqb k 6

-- ---- what stands beside k in a table, or e where k is not there
unfoldable pub beside {ℓ} : {A : Type ℓ} → ℕ → List (ℕ × A) → A → A
beside k [] e = e
beside k ((n, a) ∷ rest) e = cond (eqb k n) a (beside k rest e)
