-- What the first round and the settling ask of a run's beginning, and what they leave. Assumes nothing.
use Prim.Native.Nat.{◌+◌, ◌-◌, ◌<◌}
use mathlib.Core.Path.{◌≡◌, ap, ◌∙◌}
use mathlib.Core.List.{[]}
use native.Mathlib.Omega.{arith}
use Rattle.quantizer.specs.Course.{Course, course}
use Rattle.run_stages.specs.State.{State}
use Rattle.run_stages.specs.Stages.{settle}
use Rattle.run_calls.proofs.Sound.{all_shown}
use Rattle.run_turns.specs.Asked.{Turning}
use Rattle.run_turns.specs.Rounds.{open_turn}
use Rattle.run_turns.proofs.Turns.{first-turn}
use Rattle.run_round.specs.Settles.{Standing}
use Rattle.run_round.proofs.Orders.{ordered, first_any}
use Rattle.run_round.specs.First.{first_round, Beginning}
use Rattle.run_round.proofs.Begins.{sound, standing}

module _ (K : Course) (s : State) (B : Beginning K s) where
  pub can_open : Turning K.job s.hints s.palette s.least 0 0 s.rec
  can_open =
      let A = sound K s B in
      record {
        lent = record {
          whole = record {
            shown = all_shown K B.passed.ready s.palette A.held;
            each = B.each;
          };
          room = A.room;
        };
        source = omega (arith, B.passed.ready.sizes.subs);
        error = λ (past : (K.job.S - 1) + (K.job.C - 1) < 0). absurd (omega arith);
      }

  module _ (x : State) (same : x.order ≡ s.order) (e : ordered [] x ≡ open_turn (course K.job K.n []) 0 0 (ordered [] s)) where
    opened : x ≡ first_round K s
    unfolding first_round
    opened = first_any K s x same (e ∙ first-turn (course K.job K.n []) (ordered [] s) B.passed.ready.sizes.subs B.passed.ready.sizes.some)

    pub can_settle : Standing K x
    can_settle = standing K s B x opened

    pub settled : (y : State) → y ≡ settle K x → y ≡ settle K (first_round K s)
    settled y f = f ∙ ap (settle K) opened
