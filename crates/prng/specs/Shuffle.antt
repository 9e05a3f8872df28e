-- The Fisher-Yates shuffle, driven by SplitMix64. Definitions only. Assumes nothing.
use Rattle.std.specs.Prelude.{ℕ, zero, suc, ◌+◌, ◌-◌, ◌%◌, List, length}
use Rattle.lists.specs.Count.{swapped}
use Rattle.prng.specs.SplitMix.{next_state, output}

-- an order of items, and the state of the generator that shuffles it next
pub record Deck : Type 0 where
  pub order : List ℕ
  pub state : ℕ

abbrev pub deck : List ℕ → ℕ → Deck
deck xs s = record { order = xs; state = s }

-- a turn at place i: the item there and the one at a drawn place of 0 .. i are exchanged
unfoldable pub turn : ℕ → Deck → Deck
turn i d = deck (swapped i (output d.state % (i + 1)) d.order) (next_state d.state)

-- the turns at places i, i - 1 .. 1
unfoldable pub turns : ℕ → Deck → Deck
turns zero d = d
turns (suc i) d = turns i (turn (suc i) d)

-- xs shuffled by a generator in state s
unfoldable pub shuffle_of : ℕ → List ℕ → Deck
shuffle_of s xs = turns (length xs - 1) (deck xs s)
