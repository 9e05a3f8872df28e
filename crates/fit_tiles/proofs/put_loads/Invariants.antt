-- `put_loads` meets its contract. The loop's invariant: the lines of the subpalettes passed stand there. Assumes nothing.
use Prim.Native.Nat.{◌≤◌, ◌+◌, ◌*◌}
use lib.ListN.{get_or}
use Rattle.fit_lines.specs.Lines.{Stored}
use Rattle.fit_tiles.specs.Text.{load_lines}
use Rattle.fit_tiles.proofs.put_loads.Given as goal

abbrev pub invariant-loop-k : goal.invariant-loop-k
invariant-loop-k l = (l.q ≤ l.at + 15 * l.k) × Stored l.initial.out l.out l.at l.q (load_lines (λ j. get_or l.loads j 0) l.k)
