-- `palette_two_fit::best_two_from` meets its contract. The loop's invariant: b is where the walk from the hint stands before i. Assumes nothing.
use Rattle.stats.proofs.Runner.{Runner}
use Rattle.palette.specs.Palette.{dist_at, tile_in, palette_in}
use Rattle.palette_two_fit.proofs.best_two_from.Given as goal

abbrev pub invariant-loop-i : goal.invariant-loop-i
invariant-loop-i l = Runner (dist_at (palette_in l.palette) (tile_in l.tile) l.w) l.palette.subs l.hint l.i l.b
