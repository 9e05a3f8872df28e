-- `components` meets its contract. The loop's invariant: what is left to read, behind the components so far, gives the whole answer.
-- Assumes nothing.
use Prim.Native.Nat.{◌+◌}
use mathlib.Core.Path.{refl, sym, ap, ◌∙◌}
use mathlib.Core.Path.{◌≡◌}
use Rattle.sheet_colours.specs.Steps.{reached}
use mathlib.Core.Bool.{true, false}
use native.Mathlib.Omega.{arith}
use Rattle.sheet_format.specs.Sheet.{component}
use Rattle.sheet_colours.proofs.Entries.{component-short, component-read}
use Rattle.sheet_colours.proofs.Turns.{turn_end, turn-fault, turn-got}
use Rattle.sheet_colours.proofs.components.Goals as goal

pub returns-then-end-q-lt32 : goal.returns-then-end-q-lt32
returns-then-end-q-lt32 c =
    let turn = c.loop-passed in let a = c.args in
    c.stopped.ensures ∙ turn-fault component a.s.now a.n turn.passed turn.q turn.passed _ turn.invariant.1 13 0 turn.passed (omega arith) (omega arith) (component-short a.s.now turn.q (omega arith))

pub loop-passed-preserved : goal.loop-passed-preserved
loop-passed-preserved c =
    let turn = c.loop-passed in
    let a = c.args in (
      omega arith,
      turn-got component a.s.now a.n turn.passed turn.q turn.passed _ turn.invariant.1 c.get.result (turn.q + 32) (turn.passed + 1) refl (omega arith)
          (component-read a.s.now turn.q c.get.result true (omega arith) c.get.ensures
          (sym c.is_small.ensures ∙ c.if-not-is_small.false)),
    )

pub returns-then-not-is_small : goal.returns-then-not-is_small
returns-then-not-is_small c =
    let turn = c.loop-passed in let a = c.args in
    c.stopped-then-not-is_small.ensures ∙ turn-fault component a.s.now a.n turn.passed turn.q turn.passed _ turn.invariant.1 7 0 turn.passed (omega arith) (omega arith)
    (component-read a.s.now turn.q c.get.result false (omega arith) c.get.ensures
    (sym c.is_small.ensures ∙ c.if-not-is_small.true))

pub returns : goal.returns
returns c =
    let turn = c.loop-passed in let a = c.args in let all : turn.passed ≡ a.n = omega arith in
    ap (reached turn.q) (sym all) ∙ turn_end component a.s.now a.n turn.passed turn.q turn.passed _ turn.invariant.1 (omega arith) (omega arith)
