-- `tile_colours` meets its contract. The loop's invariant: what is left to read, at the sum so far and behind the components so far, gives the
-- whole answer; these components are no more than the bits before. Assumes nothing.
use Prim.Native.Nat.{ℕ, ◌≤◌, ◌*◌, ◌+◌}
use mathlib.Core.Path.{◌≡◌, sym, ◌∙◌}
use mathlib.Core.List.{List}
use native.Mathlib.Omega.{arith}
use lib.ListN.{length}
use Rattle.format.specs.Format.{times}
use Rattle.bits.specs.Bits.{bits}
use Rattle.bits.proofs.Fields.{field_lt}
use Rattle.bits.proofs.Bytes.{length-bits}
use Rattle.sheet_format.specs.Sheet.{component}
use Rattle.format.proofs.Lawful.{times_lawful}
use Rattle.format.proofs.Light.{times_light}
use Rattle.sheet_format.proofs.Exact.{component_lawful}
use Rattle.sheet_format.proofs.Light.{component_light}
use Rattle.std.proofs.lemmas.Result.{err_from_is_err_and}
use Rattle.sheet_colours.specs.Steps.{Step, reached, stopped, number_of, numbered, step_at}
use Rattle.sheet_colours.proofs.Turns.{colours_end, colours-fault, colours-got, Read, read_at, behind-ok, behind-err}
use Rattle.sheet_colours.proofs.Entries.{entry-short, entry_big, entry_read}
use Rattle.sheet_colours.proofs.tile_colours.Goals as goal

pub returns-then-end-at : goal.returns-then-end-at
returns-then-end-at c =
    let turn = c.loop-i in let a = c.args in
    c.stopped.ensures ∙ colours-fault a.e a.s.now a.n turn._i turn.at.bit turn.at.passed turn.sum _ turn.invariant.3 13 0 turn.at.passed (omega arith) (omega arith)
    (entry-short a.e a.s.now turn.at.bit turn.sum (omega arith))

pub overflow_add-c : goal.overflow_add-c
overflow_add-c c = omega (arith, c.get-c.ensures, field_lt (bits c.args.s.now) c.loop-i.at.bit c.args.e.each 8 (rw length-bits (omega arith)) (omega arith))

pub overflow_add-sum : goal.overflow_add-sum
overflow_add-sum c = omega (arith, c.get-c.ensures, field_lt (bits c.args.s.now) c.loop-i.at.bit c.args.e.each 8 (rw length-bits (omega arith)) (omega arith))

pub returns-then-e-sum : goal.returns-then-e-sum
returns-then-e-sum c =
    let turn = c.loop-i in
    let a = c.args in
    c.stopped-then-e-sum.ensures ∙ colours-fault a.e a.s.now a.n turn._i turn.at.bit turn.at.passed turn.sum _ turn.invariant.3 6 0 turn.at.passed (omega arith) (omega arith)
    (entry_big a.e a.s.now turn.at.bit turn.sum c.get-c.result (omega arith) c.get-c.ensures (omega arith))

-- the next colour's components, read from bit p of s
read-three : (s : List ℕ) (p : ℕ) → p ≤ 8 * length s → (x : Step) → x ≡ step_at (times 3 component) s p → Read (times 3 component) s p x
read-three s p h = read_at (times 3 component) (times_lawful 3 component component_lawful) (times_light 3 component component_light) s p h

pub returns-in_err-at : goal.returns-in_err-at
returns-in_err-at c =
    let turn = c.loop-i in let a = c.args in let f = c.in_err-at.field-0.0 in
    let n = number_of f.kind in
    let m = behind-err turn.at.passed (numbered c.components.result) (record { number = n; passed = f.passed }) c.in_err-at.ensures in
    let x = read-three a.s.now (turn.at.bit + a.e.each) (omega arith) (stopped n m.0) (sym m.2 ∙ c.components.ensures) in
    let p = err_from_is_err_and c.from_residual.result c.from_residual.ensures.1 in
    rw (p.1, p.2) (colours-fault a.e a.s.now a.n turn._i turn.at.bit turn.at.passed turn.sum _ turn.invariant.3 n m.0 f.passed m.1 (omega arith)
    (entry_read a.e a.s.now turn.at.bit turn.sum c.get-c.result _ (omega arith) c.get-c.ensures (omega arith) x.0))

pub loop-i-preserved : goal.loop-i-preserved
loop-i-preserved c =
    let turn = c.loop-i in let a = c.args in let at = c.in_ok-at.at in
    let m = behind-ok turn.at.passed (numbered c.components.result) at c.in_ok-at.ensures in
    let x = read-three a.s.now (turn.at.bit + a.e.each) (omega arith) (reached at.bit m.0) (sym m.2 ∙ c.components.ensures) in
    let count = c.get-c.result in
    let more : at.passed ≡ turn.at.passed + (0 + (times 3 component).counts x.value) = omega (arith, m.1, x.holds) in
    let entry = entry_read a.e a.s.now turn.at.bit turn.sum count _ (omega arith) c.get-c.ensures (omega arith) x.reads in (
      omega (arith, x.inside, length-bits a.s.now),
      omega (arith, m.1, x.few),
      omega arith,
      colours-got a.e a.s.now a.n turn._i turn.at.bit turn.at.passed turn.sum _ turn.invariant.3 (count + 1, x.value) at.bit at.passed more
          (omega arith) entry,
    )

pub returns : goal.returns
returns c =
    let turn = c.loop-i in let a = c.args in
    colours_end a.e a.s.now a.n turn._i turn.at.bit turn.at.passed turn.sum _ turn.invariant.3 (omega arith) (omega arith)
