-- `count_blanks` meets its contract. The loop's invariant: n counts the empty ones of the tiles passed. Assumes nothing.
use mathlib.Core.Path.{◌≡◌}
use Rattle.fit_tiles.specs.Text.{blanks_of}
use Rattle.fit_tiles.proofs.count_blanks.Given as goal

abbrev pub invariant-loop-i : goal.invariant-loop-i
invariant-loop-i l = l.n ≡ blanks_of l.job.tiles.now l.i
