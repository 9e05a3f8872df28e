-- `components` meets its contract. The loop's invariant: what is left to read, behind the components so far, gives the whole answer.
-- Assumes nothing.
use Prim.Native.Nat.{◌≤◌, ◌-◌, ◌*◌}
use mathlib.Core.Path.{◌≡◌}
use lib.ListN.{length}
use Rattle.format.specs.Format.{times}
use Rattle.sheet_format.specs.Sheet.{component}
use Rattle.sheet_colours.specs.Steps.{step_at, behind}
use Rattle.sheet_colours.proofs.components.Given as goal

abbrev pub invariant-loop-passed : goal.invariant-loop-passed
invariant-loop-passed l = (l.q ≤ 8 * length l.s) × (behind l.passed (step_at (times (l.n - l.passed) component) l.s l.q) ≡ step_at (times l.n component) l.s l.p)
