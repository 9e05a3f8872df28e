-- `tile_colours` meets its contract. The loop's invariant: what is left to read, at the sum so far and behind the components so far, gives the
-- whole answer; these components are no more than the bits before. Assumes nothing.
use Prim.Native.Nat.{◌≤◌, ◌-◌, ◌*◌}
use mathlib.Core.Path.{◌≡◌}
use lib.ListN.{length}
use Rattle.sheet_format.specs.Sheet.{colours}
use Rattle.sheet_colours.specs.Steps.{step_at, behind}
use Rattle.sheet_colours.proofs.tile_colours.Given as goal

abbrev pub invariant-loop-i : goal.invariant-loop-i
invariant-loop-i l = (l.at.bit ≤ 8 * length l.s) × (l.at.passed ≤ l.at.bit) × (l.sum ≤ l.e.size) × (behind l.at.passed (step_at (colours l.e (l.n - l._i) l.sum) l.s l.at.bit) ≡ step_at (colours l.e l.n 0) l.s l.p)
