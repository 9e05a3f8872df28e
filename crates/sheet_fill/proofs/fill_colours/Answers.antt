-- `fill_colours` meets its contract. The loop's invariant: what is left to store, at some sum, gives the whole. Assumes nothing.
use Prim.Native.Nat.{ℕ}
use mathlib.Core.Path.{sym, subst}
use native.Mathlib.Omega.{arith}
use native.Mathlib.Nat.{sub-zero, add-zero}
use Rattle.bits.specs.Bits.{bits}
use Rattle.bits.proofs.Bytes.{length-bits}
use Rattle.bits.proofs.Fields.{field_lt}
use Rattle.sheet_format.specs.Sheet.{colours}
use Rattle.sheet_fill.specs.Fill.{Reads}
use Rattle.sheet_fill.proofs.Colours.{filling_now, filling_again, filling_end}
use Rattle.sheet_fill.proofs.fill_colours.Goals as goal

pub loop-i-init : goal.loop-i-init
loop-i-init c =
    let a = c.args in
    record {
      sum = 0;
      reads = subst (λ (j : ℕ). Reads (colours a.e j 0) a.s.now a.p) (sym (sub-zero a.n)) c.requires.4;
      counts = rw (add-zero, sub-zero);
      parts = rw (add-zero, sub-zero);
    }

pub get-requires : goal.get-requires
get-requires c =
    let a = c.args in
    omega (arith, (filling_now a.e a.n c.loop-i.i a.k c.loop-i.invariant (omega arith)).room)

pub overflow_add-counts : goal.overflow_add-counts
overflow_add-counts c =
    let turn = c.loop-i in let a = c.args in
    let room = (filling_now a.e a.n turn.i a.k turn.invariant (omega arith)).room in
    omega (arith, c.get.ensures, field_lt (bits a.s.now) turn.q a.e.each 8 (rw length-bits (omega arith)) (omega arith))

pub overflow_add-q : goal.overflow_add-q
overflow_add-q c =
    let a = c.args in
    omega (arith, (filling_now a.e a.n c.loop-i.i a.k c.loop-i.invariant (omega arith)).room)

pub fill_components-requires : goal.fill_components-requires
fill_components-requires c =
    let a = c.args in
    (c.requires.1, omega arith, (filling_now a.e a.n c.loop-i.i a.k c.loop-i.invariant (omega arith)).parts)

pub overflow_add-q-in-loop-i : goal.overflow_add-q-in-loop-i
overflow_add-q-in-loop-i c = omega (arith, c.requires.0.narrow_each)

pub overflow_add-q-in-loop-i-2 : goal.overflow_add-q-in-loop-i-2
overflow_add-q-in-loop-i-2 c =
    let a = c.args in
    let turn = filling_now a.e a.n c.loop-i.i a.k c.loop-i.invariant c.loop-i-test.true in
    omega (arith, turn.room, c.requires.0.narrow_each, c.requires.0.wide_each)

pub loop-i-preserved : goal.loop-i-preserved
loop-i-preserved c =
    let turn = c.loop-i in
    let a = c.args in
    filling_again a.e a.n turn.i a.k turn.invariant (omega arith) c.get.result _ c.get.ensures c.fill_components.ensures

pub returns : goal.returns
returns c =
    let a = c.args in
    filling_end a.e a.n c.loop-i.i a.k c.loop-i.invariant (omega arith)
