-- `prng::wrapping_mul` meets its contract. Assumes nothing.
use Rattle.std.proofs.Common.{ℕ, ◌+◌, ◌*◌, ◌%◌, ◌^◌, ap, ◌∙◌, shr_lt}
use lib.Bits.{bit_and, mask_lt}
use Rattle.prng.proofs.Halves.{halves, half_product}
use Rattle.prng.proofs.wrapping_mul.Goals as goal

pub overflow_mul-a1 : goal.overflow_mul-a1
overflow_mul-a1 c = half_product (shr_lt 32 32 c.ranges.a.fits) (mask_lt c.args.b 32)

pub overflow_mul-a0 : goal.overflow_mul-a0
overflow_mul-a0 c = half_product (mask_lt c.args.a 32) (shr_lt 32 32 c.ranges.b.fits)

pub overflow_mul-a0-2 : goal.overflow_mul-a0-2
overflow_mul-a0-2 c = half_product (mask_lt c.args.a 32) (mask_lt c.args.b 32)

pub returns : goal.returns
returns c =
    let a = c.args.a in
    let b = c.args.b in
    c.wrapping_add_u64.ensures.value
    ∙ ap (λ (x : ℕ). (x * 2 ^ 32 % 2 ^ 64 + bit_and a 0xffff_ffff * bit_and b 0xffff_ffff) % 2 ^ 64) c.wrapping_add_u64-cross.ensures.value
    ∙ halves a b
