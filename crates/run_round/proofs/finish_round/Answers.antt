-- `run_round::finish_round` meets its contract. Assumes nothing.
use mathlib.Core.Path.{◌≡◌}
use mathlib.Core.Logic.{◌≢◌}
use native.Mathlib.Omega.{arith}
use Rattle.run_round.proofs.Finishes.{can_seek, ended, can_turn, turned}
use Rattle.run_round.proofs.finish_round.Goals as goal

pub seek-from-requires : goal.seek-from-requires
seek-from-requires c = can_seek _ _ _ _ c.args.r c.requires

pub returns-in-Ok-FinalDraws : goal.returns-in-Ok-FinalDraws
returns-in-Ok-FinalDraws c =
    let four : c.args.r.stage ≡ 4 = grind arith in
    ended _ _ _ _ c.args.r c.requires _ _ c.seek-from.ensures four _ c.end_final.ensures

pub open_turn-requires : goal.open_turn-requires
open_turn-requires c =
    let other : c.args.r.stage ≢ 4 = grind arith in
    can_turn _ _ _ _ c.args.r c.requires _ _ c.seek-from.ensures other _ c.turn_after.ensures

pub returns-in_default : goal.returns-in_default
returns-in_default c =
    let other : c.args.r.stage ≢ 4 = grind arith in
    turned _ _ _ _ c.args.r c.requires _ _ c.seek-from.ensures other _ c.turn_after.ensures _ c.open_turn.ensures
