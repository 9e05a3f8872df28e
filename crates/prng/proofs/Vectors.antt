-- The public vectors of SplitMix64: its first outputs from seed 0, computed. Assumes nothing.
use Rattle.std.proofs.Common.{◌≡◌, ℕ, zero, suc, List, [], ◌∷◌, refl}
use Rattle.prng.specs.SplitMix.{xor_shift, next_state, mix, output}

-- the first k outputs from the state s
unfoldable pub outputs : ℕ → ℕ → List ℕ
outputs zero s = []
outputs (suc k) s = output s ∷ outputs k (next_state s)

pub seed_0 : outputs 5 0 ≡ 0xe220a8397b1dcdaf ∷ 0x6e789e6aa1b965f4 ∷ 0x06c45d188009454f ∷ 0xf88bb8a8724c81ec ∷ 0x1b39896a51a8749b ∷ []
unfolding outputs output mix xor_shift next_state
seed_0 = refl
