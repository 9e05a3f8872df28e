-- `group_refusal::check_pixels` meets its contract: the loop keeps that what is left gives the whole, and that every kept pixel before k has passed for its Oklab. Assumes nothing.
use Prim.Native.Nat.{◌-◌}
use mathlib.Core.Path.{◌≡◌}
use Rattle.group_refusal.specs.Faults.{fault, first_of, Real}
use Rattle.group_refusal.proofs.check_pixels.Given as goal

abbrev pub invariant-loop-k : goal.invariant-loop-k
invariant-loop-k l =
    let f = fault l.q.bytes.now l.q.oklab.now l.q.zero in
    (first_of f 0 l.q.p ≡ first_of f l.k (l.q.p - l.k)) × Real l.q.bytes.now l.q.oklab.now l.q.zero l.k
