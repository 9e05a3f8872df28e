-- `prng::Prng::shuffle` meets its contract. The loop's invariant: the turns that are left, from the order as it is now, give what the whole shuffle gives.
-- Assumes nothing.
use Rattle.std.proofs.Common.{◌≡◌, ◌-◌}
use Rattle.prng.specs.Shuffle.{deck, turns, shuffle_of}
use Rattle.prng.proofs.Prng.shuffle.Given as goal

abbrev pub invariant-loop-i : goal.invariant-loop-i
invariant-loop-i l = turns (l.i - 1) (deck l.items l.self.state) ≡ shuffle_of l.initial.self.state l.initial.items
