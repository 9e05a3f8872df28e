-- `group::position` meets its contract: the loop keeps that the search from e on gives the whole, e added. Assumes nothing.
use Prim.Native.Nat.{◌+◌, ◌-◌, ◌*◌}
use mathlib.Core.Path.{◌≡◌}
use lib.ListN.{drop}
use Rattle.group.specs.Turn.{seek}
use Rattle.group.proofs.position.Given as goal

abbrev pub invariant-loop-e : goal.invariant-loop-e
invariant-loop-e l = seek l.n l.entry_bytes l.x ≡ l.e + seek (l.n - l.e) (drop (4 * l.e) l.entry_bytes) l.x
