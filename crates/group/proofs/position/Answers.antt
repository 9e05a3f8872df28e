-- `group::position` meets its contract: the loop keeps that the search from e on gives the whole, e added. Assumes nothing.
use Prim.Native.Nat.{◌-◌}
use borrow.Author.Rules.{rules}
use Rattle.group.proofs.Turns.{seek-start, seek_found, seek_on, seek-none}
use Rattle.group.proofs.position.Goals as goal

pub loop-e-init : goal.loop-e-init
loop-e-init c = seek-start _ _ _

pub returns-then-same_bytes : goal.returns-then-same_bytes
returns-then-same_bytes c = seek_found _ _ _ _ c.loop-e.invariant c.loop-e-test.true c.rgba_at.ensures c.same_bytes.ensures c.if-same_bytes.true

pub loop-e-preserved : goal.loop-e-preserved
loop-e-preserved c = seek_on _ _ _ _ c.loop-e.invariant c.loop-e-test.true c.rgba_at.ensures c.same_bytes.ensures c.if-same_bytes.false

pub returns : goal.returns
returns c = seek-none _ _ _ _ c.loop-e.invariant c.loop-e.auto.e-end c.loop-e-test.false
