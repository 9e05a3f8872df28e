-- `job::is_tile_size` meets its contract: both sizes, the first one decided by the branch. Assumes nothing.
use borrow.Author.Tests.{eq-eqb, ne_eqb}
use Rattle.job.specs.Job.{small_tile}
use Rattle.job.specs.Checks.{tile_sized}
use Rattle.job.proofs.is_tile_size.Goals as goal

pub returns-then-x-eq-SMALL_TILE : goal.returns-then-x-eq-SMALL_TILE
unfolding tile_sized
returns-then-x-eq-SMALL_TILE c = rw (eq-eqb c.args.x small_tile c.if-x-eq-SMALL_TILE.true)

pub returns : goal.returns
unfolding tile_sized
returns c = rw (ne_eqb c.args.x small_tile c.if-x-eq-SMALL_TILE.false)
