-- `all_tiles` meets its contract. The loop's invariant: what is left to read, behind the components so far, gives the whole answer; these
-- components are no more than the bits before. Assumes nothing.
use Prim.Native.Nat.{◌≤◌, ◌-◌, ◌*◌}
use mathlib.Core.Path.{◌≡◌}
use lib.ListN.{length}
use Rattle.format.specs.Format.{times}
use Rattle.sheet_format.specs.Sheet.{tile}
use Rattle.sheet_colours.specs.Steps.{step_at, behind}
use Rattle.sheet_tiles.proofs.all_tiles.Given as goal

abbrev pub invariant-loop-i : goal.invariant-loop-i
invariant-loop-i l = (l.at.bit ≤ 8 * length l.s) × (l.at.passed ≤ l.at.bit) × (behind l.at.passed (step_at (times (l.t - l._i) (tile l.e)) l.s l.at.bit) ≡ step_at (times l.t (tile l.e)) l.s l.p)
