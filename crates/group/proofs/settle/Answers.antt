-- `group::settle` meets its contract: a turn, by what the code found: not kept, an entry joined, an entry begun. Assumes nothing.
use mathlib.Core.Bool.{not}
use mathlib.Core.Path.{ap}
use native.Mathlib.Omega.{arith}
use borrow.Author.Tests.{not-true, not-false}
use Rattle.group.proofs.Turns.{at_most, turn_passes, turn_joins, turn_begins}
use Rattle.group.proofs.settle.Goals as goal

pub returns-then-not-is_kept : goal.returns-then-not-is_kept
returns-then-not-is_kept c = turn_passes _ _ _ _ _ _ c.rgba_at-x.ensures c.is_kept.ensures (not-true _ (ap not c.if-not-is_kept.true))

pub overflow_cast-index : goal.overflow_cast-index
overflow_cast-index c = omega (arith, at_most _ _ _ _ c.position-e.ensures)

pub overflow_add-entry_counts : goal.overflow_add-entry_counts
overflow_add-entry_counts c = omega (arith, c.requires.counted c.position-e.result c.if-e-n.true)

pub returns-then-e-n : goal.returns-then-e-n
returns-then-e-n c =
    turn_joins _ _ _ _ _ _ c.rgba_at-x.ensures c.is_kept.ensures
    (not-false _ (ap not c.if-not-is_kept.false)) _ c.position-e.ensures c.if-e-n.true

pub returns : goal.returns
returns c =
    turn_begins _ _ _ _ _ _ c.rgba_at-x.ensures c.is_kept.ensures (not-false _ (ap not c.if-not-is_kept.false)) _ c.position-e.ensures
    c.if-e-n.false c.put_rgba.ensures c.colour.ensures c.put.ensures
