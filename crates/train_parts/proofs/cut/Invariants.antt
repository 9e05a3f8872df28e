-- `cut` meets its contract. The loop's invariant: what stands before i is cut. Assumes nothing.
use lib.ListN.{length}
use Rattle.train_parts.proofs.Cuts.{Cut}
use mathlib.Core.Path.{◌≡◌}
use Rattle.train_parts.proofs.cut.Given as goal

abbrev pub invariant-loop-i : goal.invariant-loop-i
invariant-loop-i l = (length l.to ≡ 768) × Cut l.from l.initial.to l.i l.to
