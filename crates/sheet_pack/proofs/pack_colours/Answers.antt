-- `pack_colours` meets its contract. The loop's invariant: what is left to write gives the whole. Assumes nothing.
use Prim.Native.Nat.{◌≤◌, ◌+◌, ◌*◌}
use mathlib.Core.Path.{refl, ap, ◌∙◌}
use mathlib.Core.List.{List}
use native.Mathlib.Omega.{arith}
use lib.ListN.{length}
use lib.Seq.{sets}
use lib.Ieee.{Float}
use Rattle.bits.specs.Bits.{bits}
use Rattle.sheet_format.specs.Sheet.{entry_size}
use Rattle.sheet_format.specs.Lists.{patterns}
use Rattle.sheet_format.proofs.Editions.{one_more}
use Rattle.sheet_pack.specs.Packed.{words}
use Rattle.sheet_pack.proofs.Writes.{three-part, three-long, three-bounded, colours_again, colours_end}
use Rattle.sheet_pack.proofs.pack_colours.Goals as goal

pub loop-i-init : goal.loop-i-init
loop-i-init c = (omega arith, refl)

pub overflow_sub-counts : goal.overflow_sub-counts
overflow_sub-counts c = c.requires.4 c.loop-i.i (omega arith)

pub put-requires : goal.put-requires
put-requires c =
    let turn = c.loop-i in let a = c.args in
    let room = one_more (entry_size a.e) turn.i (length a.counts.now) c.loop-i-test.true in
    omega (arith, room, c.requires.0.narrow_each, c.requires.1, c.requires.2, turn.invariant.0, turn.auto.dst)

pub overflow_add-q : goal.overflow_add-q
overflow_add-q c =
    let turn = c.loop-i in let a = c.args in
    let room = one_more (entry_size a.e) turn.i (length a.counts.now) c.loop-i-test.true in
    omega (arith, room, c.requires.0.narrow_each, c.requires.1, c.requires.2, turn.invariant.0)

pub pack_components-requires : goal.pack_components-requires
pack_components-requires c =
    let turn = c.loop-i in let a = c.args in
    let room = one_more (entry_size a.e) turn.i (length a.counts.now) c.loop-i-test.true in
    let three_there : 3 * turn.i + 3 ≤ length a.colours.now = omega (arith, c.loop-i-test.true, c.requires.3) in
    let long = three-long a.colours.now (3 * turn.i) three_there in
    let kept = c.put.auto.s in
    (omega (arith, long, kept, room, c.requires.0.narrow_each, c.requires.1, c.requires.2, turn.invariant.0, turn.auto.dst), omega (arith, long, room, c.requires.0.narrow_each, c.requires.1, c.requires.2, turn.invariant.0), three-bounded a.colours.now (3 * turn.i) three_there 2 c.requires.5)

pub overflow_add-q-in-loop-i : goal.overflow_add-q-in-loop-i
overflow_add-q-in-loop-i c = omega (arith, c.requires.0.narrow_each)

pub overflow_add-q-in-loop-i-2 : goal.overflow_add-q-in-loop-i-2
overflow_add-q-in-loop-i-2 c =
    let turn = c.loop-i in let a = c.args in
    let room = one_more (entry_size a.e) turn.i (length a.counts.now) c.loop-i-test.true in
    omega (arith, room, c.requires.0.narrow_each, c.requires.1, c.requires.2, turn.invariant.0)

pub loop-i-preserved : goal.loop-i-preserved
loop-i-preserved c =
    let turn = c.loop-i in let a = c.args in
    let room = one_more (entry_size a.e) turn.i (length a.counts.now) c.loop-i-test.true in (
      omega (arith, turn.invariant.0),
      colours_again a.e a.counts.now a.colours.now turn.dst c.put.new.s c.pack_components.new.dst turn.q turn.i _
          c.loop-i-test.true c.requires.3 (omega (arith, room, c.requires.1, turn.auto.dst, turn.invariant.0))
          c.put.ensures
          (c.pack_components.ensures
          ∙ ap (λ (x : List Float). sets (bits c.put.new.s) (turn.q + a.e.each) (words (patterns x))) (three-part a.colours.now (3 * turn.i) (omega (arith, c.loop-i-test.true, c.requires.3))))
          turn.invariant.1,
    )

pub returns : goal.returns
returns c =
    let turn = c.loop-i in let a = c.args in
    colours_end a.e a.counts.now a.colours.now turn.dst turn.q turn.i _ (omega arith) turn.invariant.1
