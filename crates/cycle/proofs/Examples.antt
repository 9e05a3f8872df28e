-- Worked examples: a shuffle, draws, tenths, and how often samples come up. Assumes nothing.
use mathlib.Core.List.{[], ◌∷◌}
use mathlib.Core.Path.{◌≡◌, refl}
use Prim.Native.Nat.{ℕ, ◌<◌}
use lib.Dec.{lit<, lit≤}
use Rattle.lists.specs.Count.{swapped}
use Rattle.lists.specs.Firsts.{firsts, hits}
use Rattle.prng.specs.SplitMix.{xor_shift, mix, next_state, output}
use Rattle.prng.specs.Shuffle.{deck, turn, turns, shuffle_of}
use Rattle.cycle.specs.Cycle.{ready, draw_one, after, draw_at}
use Rattle.cycle.proofs.Even.{even}
use Rattle.cycle.proofs.Shares.{share_up, share_down}
use Rattle.cycle.specs.Tenth.{tenth}
use Rattle.cycle.proofs.Tenths.{tenth-is}

four : shuffle_of 0 (0 ∷ 1 ∷ 2 ∷ 3 ∷ []) ≡ deck (2 ∷ 1 ∷ 0 ∷ 3 ∷ []) 15755400384260043839
unfolding shuffle_of turns turn swapped output mix xor_shift next_state
four = refl

-- four samples from seed 0: two rounds, and two draws of a third
ten : firsts (draw_at 4 0) 10 ≡ 2 ∷ 1 ∷ 0 ∷ 3 ∷ 0 ∷ 3 ∷ 1 ∷ 2 ∷ 0 ∷ 2 ∷ []
unfolding firsts draw_at after draw_one ready shuffle_of turns turn swapped output mix xor_shift next_state
ten = refl

pub tenths : (tenth 9 ≡ 0) × (tenth 10 ≡ 1) × (tenth 19 ≡ 1) × (tenth 20 ≡ 2)
tenths = (tenth-is 9 (lit≤ tt), tenth-is 10 (lit≤ tt), tenth-is 19 (lit≤ tt), tenth-is 20 (lit≤ tt))

-- 20 draws of 10 samples: each twice, whatever the seed
pub twenty_of_ten : (seed i : ℕ) → i < 10 → hits (draw_at 10 seed) i 20 ≡ 2
twenty_of_ten seed i h = (even 10 seed i 20 h).exact refl

-- 44 draws of 25 samples: 19 samples twice and 6 once, whatever the seed
pub forty_four_of_twenty_five : (seed : ℕ) → (hits (λ i. hits (draw_at 25 seed) i 44) 2 25 ≡ 19) × (hits (λ i. hits (draw_at 25 seed) i 44) 1 25 ≡ 6)
forty_four_of_twenty_five seed = (share_up 25 seed 44 (lit< tt), share_down 25 seed 44 (lit< tt))
