-- `group::fill` meets its contract: the loop keeps that the memory is that of the definition after k pixels. Assumes nothing.
use Prim.Native.Nat.{◌-◌}
use mathlib.Core.Path.{refl}
use native.Mathlib.Omega.{arith}
use borrow.Author.Rules.{rules}
use Rattle.group.proofs.Fills.{start, held-few, turn_on, ended}
use Rattle.group_refusal.proofs.Passes.{sizes}
use Rattle.group.proofs.fill.Goals as goal

pub loop-k-init : goal.loop-k-init
loop-k-init c = (refl, refl, refl, refl, start _ _)

pub settle-n-requires : goal.settle-n-requires
settle-n-requires c =
    let z = sizes _ _ _ _ _ _ _ c.requires.1 in
    let f = held-few _ _ _ _ _ c.loop-k.invariant.4 in
    record {
      fits = omega arith;
      few = f.0;
      there = record { bytes_there = omega arith; oklab_there = omega arith };
      bytes_room = omega arith;
      oklab_room = omega arith;
      counts_room = omega arith;
      index_room = omega arith;
      counted = f.1;
    }

pub loop-k-preserved : goal.loop-k-preserved
loop-k-preserved c =
    let z = sizes _ _ _ _ _ _ _ c.requires.1 in
    (search rules, search rules, search rules, search rules, turn_on _ _ _ _ _ _ _ c.loop-k.invariant.4 c.settle-n.ensures (omega arith) (omega arith) (omega arith))

pub returns : goal.returns
returns c = ended _ _ _ _ _ c.loop-k.invariant.4 c.loop-k.auto.k-end c.loop-k-test.false
