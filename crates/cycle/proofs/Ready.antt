-- The three cases of `ready`, and what it keeps: the length, and a bound on the samples. Assumes nothing.
use mathlib.Core.Bool.{Bool, true, false}
use mathlib.Core.Path.{◌≡◌, refl, ap}
use Prim.Native.Nat.{ℕ, ◌%◌, ◌<◌}
use native.Mathlib.Nat.{mod-le, mod-lt}
use native.Mathlib.Omega.{arith}
use lib.Dec.{eqb}
use lib.ListN.{length, get_or}
use borrow.Author.Tests.{eq-eqb, ne_eqb, lt-ltb}
use Rattle.prng.specs.Shuffle.{Deck, shuffle_of}
use Rattle.prng.proofs.Shuffled.{shuffle_length, shuffle_below}
use Rattle.cycle.specs.Cycle.{Cycle, cycle, shuffled_if, round_over, ready, draw_one}

over : (n made : ℕ) (b : Bool) → 0 < made → eqb (made % n) 0 ≡ b → round_over n made ≡ b
over n made b h e = simp (lt-ltb 0 made h, e)

module _ (d : Deck) where
  pub ready_first : ready (cycle d 0) ≡ d
  unfolding ready
  ready_first = refl

  pub ready_within : (made : ℕ) → 0 < made % length d.order → ready (cycle d made) ≡ d
  unfolding ready
  ready_within made h =
      let n : ℕ = length d.order in
      ap (λ (b : Bool). shuffled_if b d) (over n made false (omega (arith, mod-le made n)) (ne_eqb (made % n) 0 (omega arith)))

  pub ready_again : (made : ℕ) → 0 < made → made % length d.order ≡ 0 → ready (cycle d made) ≡ shuffle_of d.state d.order
  unfolding ready
  ready_again made h e = ap (λ (b : Bool). shuffled_if b d) (over (length d.order) made true h (eq-eqb (made % length d.order) 0 e))

-- what holds of the deck, and of the deck shuffled again, holds of the one that is ready
either : (P : Deck → Type 0) (again : Bool) (d : Deck) → P (shuffle_of d.state d.order) → P d → P (shuffled_if again d)
either P true d shuffled kept = shuffled
either P false d shuffled kept = kept

module _ (c : Cycle) where
  pub ready-length : length (ready c).order ≡ length c.cards.order
  unfolding ready
  ready-length =
      either (λ (d : Deck). length d.order ≡ length c.cards.order) (round_over (length c.cards.order) c.made) c.cards
      (shuffle_length c.cards.state c.cards.order) refl

  module _ (n : ℕ) (below : (i : ℕ) → i < length c.cards.order → get_or c.cards.order i 0 < n) where
    pub ready-below : (i : ℕ) → i < length c.cards.order → get_or (ready c).order i 0 < n
    unfolding ready
    ready-below i h =
        either (λ (d : Deck). get_or d.order i 0 < n) (round_over (length c.cards.order) c.made) c.cards
        (shuffle_below n c.cards.state c.cards.order below i h) (below i h)

    pub sample-below : 0 < length c.cards.order → (draw_one c).sample < n
    unfolding draw_one
    sample-below some = ready-below (c.made % length c.cards.order) (mod-lt c.made some)
