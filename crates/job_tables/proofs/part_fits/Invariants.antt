-- `job_tables::part_fits` meets its contract. The invariant: the counts before this one pass, and `done` is their sum. Assumes nothing.
use Rattle.job_tables.proofs.Walks.{Counted}
use Rattle.job_tables.proofs.part_fits.Given as goal

abbrev pub invariant-loop-count : goal.invariant-loop-count
invariant-loop-count l = Counted l.size l.part l.done l.count-index
