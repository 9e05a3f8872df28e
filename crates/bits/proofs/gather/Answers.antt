-- `gather` meets its contract. The loop's invariant: v is the number of the bytes passed. Assumes nothing.
use Prim.Native.Nat.{ℕ, ◌+◌, ◌-◌, ◌*◌}
use mathlib.Core.Path.{ap, ◌∙◌}
use native.Mathlib.Omega.{arith}
use lib.ListN.{get_or}
use Rattle.bits.proofs.Gathered.{gathered-lt, gather_step_lem}
use Rattle.bits.proofs.gather.Goals as goal

pub overflow_mul-v : goal.overflow_mul-v
overflow_mul-v c =
    omega (
      arith,
      c.loop-j.invariant,
      gathered-lt c.args.s.now c.args.first (c.loop-j.j - c.args.first) 32 (omega arith) (omega arith),
    )

pub overflow_add-v : goal.overflow_add-v
overflow_add-v c =
    omega (
      arith,
      c.type_inv.s c.loop-j.j,
      c.loop-j.invariant,
      gathered-lt c.args.s.now c.args.first (c.loop-j.j - c.args.first) 32 (omega arith) (omega arith),
    )

pub loop-j-preserved : goal.loop-j-preserved
loop-j-preserved c =
    ap (λ (v : ℕ). v * 256 + get_or c.args.s.now c.loop-j.j 0) c.loop-j.invariant
    ∙ gather_step_lem c.args.s.now c.args.first c.loop-j.j (omega arith) (omega arith)
    (omega (arith, c.type_inv.s c.loop-j.j))
