-- `group::fill` meets its contract: the loop keeps that the memory is that of the definition after k pixels. Assumes nothing.
use mathlib.Core.Path.{◌≡◌}
use lib.ListN.{length}
use Rattle.group.specs.Turn.{filled}
use Rattle.group.specs.Entries.{fill_to}
use Rattle.group_refusal.specs.Refusal.{given_in, entry_room}
use Rattle.group.proofs.fill.Given as goal

abbrev pub invariant-loop-k : goal.invariant-loop-k
invariant-loop-k l =
    (length l.entry_bytes ≡ length l.initial.entry_bytes) × (length l.entry_oklab ≡ length l.initial.entry_oklab) × (length l.entry_counts ≡ length l.initial.entry_counts) × (length l.index ≡ length l.initial.index)
    × (filled l.n (entry_room l.entry_bytes l.entry_oklab l.entry_counts l.index) ≡ fill_to (given_in l.q) l.k (entry_room l.initial.entry_bytes l.initial.entry_oklab l.initial.entry_counts l.initial.index))
