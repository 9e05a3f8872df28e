-- The cycle of samples: draws in rounds, each of which goes through an order of all samples; the order, as it is then, is shuffled again between two
-- rounds. Definitions only. Assumes nothing.
use Rattle.std.specs.Prelude.{Bool, true, false, ◌&&◌, ℕ, zero, suc, ◌+◌, ◌%◌, eqb, ltb, length, get_or}
use Rattle.lists.specs.Firsts.{up_to}
use Rattle.prng.specs.Shuffle.{Deck, shuffle_of}

-- an order with the generator that shuffles it next, and the number of draws made from it since the start
pub record Cycle : Type 0 where
  pub cards : Deck
  pub made : ℕ

abbrev pub cycle : Deck → ℕ → Cycle
cycle d m = record { cards = d; made = m }

-- what a draw gives: a sample, and the cycle after the draw
pub record Drawn : Type 0 where
  pub sample : ℕ
  pub next : Cycle

abbrev pub drawn : ℕ → Cycle → Drawn
drawn i c = record { sample = i; next = c }

-- ---- one draw

-- a round of n draws is over, and another begins
abbrev pub round_over : ℕ → ℕ → Bool
round_over n made = ltb 0 made && eqb (made % n) 0

-- d, or d shuffled again
abbrev pub shuffled_if : Bool → Deck → Deck
shuffled_if true d = shuffle_of d.state d.order
shuffled_if false d = d

-- the deck that the next draw reads
unfoldable pub ready : Cycle → Deck
ready c = shuffled_if (round_over (length c.cards.order) c.made) c.cards

unfoldable pub draw_one : Cycle → Drawn
draw_one c = drawn (get_or (ready c).order (c.made % length c.cards.order) 0) (cycle (ready c) (c.made + 1))

-- ---- all draws of n samples from a seed

-- the cycle after t draws
unfoldable pub after : ℕ → ℕ → ℕ → Cycle
after n seed zero = cycle (shuffle_of seed (up_to n)) 0
after n seed (suc t) = (draw_one (after n seed t)).next

-- draw number k, from 0
unfoldable pub draw_at : ℕ → ℕ → ℕ → ℕ
draw_at n seed k = (draw_one (after n seed k)).sample

-- the deck of round j, from 0
unfoldable pub round_at : ℕ → ℕ → ℕ → Deck
round_at n seed zero = shuffle_of seed (up_to n)
round_at n seed (suc j) = shuffle_of (round_at n seed j).state (round_at n seed j).order
