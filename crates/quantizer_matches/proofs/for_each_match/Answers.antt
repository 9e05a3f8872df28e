-- `quantizer_matches::for_each_match` meets its contract. The loop's invariant: the sums are those after the first k colours. Assumes nothing.
use native.Mathlib.Omega.{arith}
use Rattle.quantizer_matches.proofs.Walks.{needs_start, needs_length, near_place, needs_more}
use Rattle.quantizer_matches.proofs.for_each_match.Goals as goal

pub loop-k-init : goal.loop-k-init
loop-k-init c = needs_start _ _ _ _ _ c.requires

pub overflow_add-p : goal.overflow_add-p
overflow_add-p c =
    omega (
      arith,
      near_place _ _ _ _ _ c.requires _ _ c.loop-k.invariant _ c.colour.ensures _ c.nearest-near.ensures,
    )

pub offset_bounds-total-p : goal.offset_bounds-total-p
offset_bounds-total-p c =
    omega (
      arith,
      near_place _ _ _ _ _ c.requires _ _ c.loop-k.invariant _ c.colour.ensures _ c.nearest-near.ensures,
    )

pub bounds-total-p : goal.bounds-total-p
bounds-total-p c = omega (arith, near_place _ _ _ _ _ c.requires _ _ c.loop-k.invariant _ c.colour.ensures _ c.nearest-near.ensures, needs_length _ _ _ _ _ c.requires _ _ c.loop-k.invariant)

pub bounds-total-p-in-loop-k : goal.bounds-total-p-in-loop-k
bounds-total-p-in-loop-k c = omega (arith, near_place _ _ _ _ _ c.requires _ _ c.loop-k.invariant _ c.colour.ensures _ c.nearest-near.ensures, needs_length _ _ _ _ _ c.requires _ _ c.loop-k.invariant)

pub loop-k-preserved : goal.loop-k-preserved
loop-k-preserved c = needs_more _ _ _ _ _ c.requires _ _ c.loop-k.invariant _ c.colour.ensures _ c.nearest-near.ensures
