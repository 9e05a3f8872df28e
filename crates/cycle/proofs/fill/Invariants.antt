-- `cycle::fill` meets its contract. The loop's invariant: the first i items are 0 .. i - 1. Assumes nothing.
use mathlib.Core.Path.{◌≡◌}
use lib.ListN.{take}
use Rattle.lists.specs.Firsts.{up_to}
use Rattle.cycle.proofs.fill.Given as goal

abbrev pub invariant-loop-i : goal.invariant-loop-i
invariant-loop-i l = take l.i l.order ≡ up_to l.i
