-- `cut` meets its contract. The loop's invariant: what stands before i is cut. Assumes nothing.
use native.Mathlib.Omega.{arith}
use lib.ListN.{length-set}
use Rattle.train_parts.proofs.Cuts.{none-cut, cut-more, all-cut}
use mathlib.Core.Path.{sym}
use Rattle.train_parts.proofs.cut.Goals as goal

pub loop-i-init : goal.loop-i-init
loop-i-init c = (sym c.room-to.ensures.0, none-cut c.args.from.now c.room-to.result)

pub loop-i-preserved : goal.loop-i-preserved
loop-i-preserved c =
    let turn = c.loop-i in (
      simp length-set turn.invariant.0,
      cut-more c.args.from.now c.room-to.result turn.i turn.to c.cut_one.result
          (omega (arith, c.requires, c.room-to.ensures.0)) c.loop-i-test.true turn.invariant.1 c.cut_one.ensures,
    )

pub returns : goal.returns
returns c =
    let turn = c.loop-i in (
      sym turn.invariant.0,
      all-cut c.args.from.now c.room-to.result turn.i turn.to (omega arith) c.loop-i-test.false
          turn.invariant.1,
    )
