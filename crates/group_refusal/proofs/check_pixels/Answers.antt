-- `group_refusal::check_pixels` meets its contract: the loop keeps that what is left gives the whole, and that every kept pixel before k has passed for its Oklab. Assumes nothing.
use Prim.Native.Nat.{◌-◌}
use mathlib.Core.Path.{refl}
use native.Mathlib.Omega.{arith}
use Rattle.answer.proofs.Refusals.{never_done, passed_on}
use Rattle.group_refusal.proofs.Faults.{first-start, first_found, first_on, first-none, real_on}
use Rattle.group_refusal.proofs.check_pixels.Goals as goal

pub loop-k-init : goal.loop-k-init
loop-k-init c = (first-start _ _, λ i h. absurd (omega arith))

pub check_pixel-requires : goal.check_pixel-requires
check_pixel-requires c = (record { bytes_there = omega arith; oklab_there = omega arith }, c.loop-k.invariant.1)

pub returns-in_err-check_pixel : goal.returns-in_err-check_pixel
returns-in_err-check_pixel c =
    rw (passed_on _ _ c.from_residual.ensures) (first_found _ _ _ _ c.loop-k.invariant.0 c.loop-k-test.true c.in_err-check_pixel.ensures (never_done _))

pub loop-k-preserved : goal.loop-k-preserved
loop-k-preserved c = (
  first_on _ _ _ _ c.loop-k.invariant.0 c.loop-k-test.true c.in_ok-check_pixel.ensures refl,
  real_on _ _ _ _ _ c.loop-k.invariant.1 c.in_ok-check_pixel.ensures refl,
)

pub returns : goal.returns
returns c = first-none _ _ _ _ c.loop-k.invariant.0 c.loop-k-test.false
