-- SplitMix64, from its public description (Sebastiano Vigna, splitmix64.c), over ℕ: a word is a number below 2 ^ 64, sums and products are taken
-- modulo 2 ^ 64, and a shift to the right by k divides by 2 ^ k. Definitions only. Assumes nothing.
use Rattle.std.specs.Prelude.{ℕ, ◌+◌, ◌*◌, ◌/◌, ◌%◌, ◌^◌, bit_xor}

-- x ^ (x >> k)
unfoldable pub xor_shift : ℕ → ℕ → ℕ
xor_shift k x = bit_xor x (x / 2 ^ k)

-- the state after a step: `x += 0x9e3779b97f4a7c15`
unfoldable pub next_state : ℕ → ℕ
next_state s = (s + 0x9e3779b97f4a7c15) % 2 ^ 64

-- the finalizer: `z = (z ^ (z >> 30)) * ..; z = (z ^ (z >> 27)) * ..; return z ^ (z >> 31)`
unfoldable pub mix : ℕ → ℕ
unfolding xor_shift
mix x =
    let y = xor_shift 30 x * 0xbf58476d1ce4e5b9 % 2 ^ 64 in
    let z = xor_shift 27 y * 0x94d049bb133111eb % 2 ^ 64 in
    xor_shift 31 z

-- what a step from the state s answers: `z = (x += ..)`, mixed
unfoldable pub output : ℕ → ℕ
output s = mix (next_state s)
