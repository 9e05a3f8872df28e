-- `put_tiles` meets its contract. The loop's invariant: the lines of the tiles passed stand there, and the loads count them. Assumes nothing.
use Prim.Native.Nat.{ℕ, ◌≤◌, ◌+◌, ◌*◌}
use mathlib.Core.Path.{◌≡◌}
use lib.ListN.{get_or}
use Rattle.job.specs.Job.{job_in}
use Rattle.fit_lines.specs.Lines.{Stored}
use Rattle.fit_tiles.specs.Text.{tile_lines, load_of}
use Rattle.fit_tiles.proofs.put_tiles.Given as goal

abbrev pub invariant-loop-i : goal.invariant-loop-i
invariant-loop-i l =
    (l.q ≤ l.at + 43 * l.i)
    × Stored l.initial.out l.out l.at l.q (tile_lines (job_in l.job) l.palette l.i) × ((k : ℕ) → get_or l.loads k 0 ≡ load_of (job_in l.job) l.palette k l.i)
