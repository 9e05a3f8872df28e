-- The hand-ins that a stage still has ahead of it. Assumes nothing.
use Rattle.std.specs.Prelude.{ℕ, ◌-◌, cond, ltb}

-- the hand-ins that are to come: at stages 3, 5 and 6
unfoldable pub hand_ins : ℕ → ℕ
hand_ins stage = cond (ltb stage 4) 3 (cond (ltb stage 6) 2 (7 - stage))
