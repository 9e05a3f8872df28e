-- `palette_two::nearest_two_four` meets its contract. The loop's invariant: each lane is a scan of its colour's first i gaps. Assumes nothing.
use Prim.Native.Nat.{◌/◌}
use mathlib.Core.Path.{◌≡◌, refl}
use native.Mathlib.Omega.{arith}
use lib.ListN.{length}
use lib.Ieee.{of_bits}
use Rattle.stats.specs.Stats.{scan_two}
use Rattle.palette_two.proofs.Weighs.{nearest-step, nearest_end, four_end}
use Rattle.palette_two.proofs.nearest_two_four.Goals as goal

pub loop-i-init : goal.loop-i-init
unfolding scan_two of_bits
loop-i-init c = (refl, (refl, (refl, refl)))

pub loop-i-preserved : goal.loop-i-preserved
loop-i-preserved c =
    let v = c.loop-i in
    let e = c.colour-c.ensures in (
      nearest-step _ _ _ v.i _ _ _ _ v.invariant.0 e c.oklab_sqdist.ensures c.smallest_two-first.ensures,
      (
        nearest-step _ _ _ v.i _ _ _ _ v.invariant.1.0 e c.oklab_sqdist-in-loop-i.ensures c.smallest_two-second.ensures,
        (
          nearest-step _ _ _ v.i _ _ _ _ v.invariant.1.1.0 e c.oklab_sqdist-in-loop-i-2.ensures c.smallest_two-third.ensures,
          nearest-step _ _ _ v.i _ _ _ _ v.invariant.1.1.1 e c.oklab_sqdist-in-loop-i-3.ensures c.smallest_two-fourth.ensures,
        ),
      ),
    )

pub returns : goal.returns
returns c =
    let v = c.loop-i in
    let a = c.args in
    let end : v.i ≡ length a.s.now / 3 = omega arith in
    four_end _ a.tile.now _ a.k _ _ _ _
    (nearest_end _ _ v.i _ _ _ _ end c.colour-p.ensures v.invariant.0 c.with_other.ensures)
    (nearest_end _ _ v.i _ _ _ _ end c.colour-q.ensures v.invariant.1.0 c.with_other-2.ensures)
    (nearest_end _ _ v.i _ _ _ _ end c.colour-r.ensures v.invariant.1.1.0 c.with_other-3.ensures)
    (nearest_end _ _ v.i _ _ _ _ end c.colour-t.ensures v.invariant.1.1.1 c.with_other-4.ensures)
