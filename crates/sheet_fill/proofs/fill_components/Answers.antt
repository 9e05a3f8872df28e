-- `fill_components` meets its contract. The loop's invariant: what is left to store gives the whole. Assumes nothing.
use Prim.Native.Nat.{ℕ, ◌+◌}
use mathlib.Core.Path.{sym, ap, ◌∙◌, subst}
use native.Mathlib.Omega.{arith}
use native.Mathlib.Nat.{sub-zero, add-zero}
use lib.Dec.{T}
use lib.ListN.{set}
use lib.Ieee.{binary32, of_bits}
use Rattle.format.specs.Format.{times}
use Rattle.format_pattern.specs.Pattern.{small}
use Rattle.sheet_format.specs.Sheet.{component}
use Rattle.sheet_fill.specs.Fill.{Reads}
use Rattle.sheet_fill.proofs.Components.{fill_now, fill_again, fill_end}
use Rattle.sheet_fill.proofs.fill_components.Goals as goal

pub loop-i-init : goal.loop-i-init
loop-i-init c =
    let a = c.args in (
      subst (λ (j : ℕ). Reads (times j component) a.s.now a.p) (sym (sub-zero a.n)) c.requires.2,
      rw (add-zero, sub-zero),
    )

pub get-requires : goal.get-requires
get-requires c =
    let turn = c.loop-i in let a = c.args in
    omega (arith, (fill_now a.s.now a.n turn.i turn.q a.at turn.dst _ turn.invariant.0 turn.invariant.1 (omega arith)).room)

pub component-requires : goal.component-requires
component-requires c =
    let turn = c.loop-i in let a = c.args in
    subst (λ (v : ℕ). T (small v)) (sym c.get.ensures)
    (fill_now a.s.now a.n turn.i turn.q a.at turn.dst _ turn.invariant.0 turn.invariant.1 (omega arith)).fine

pub overflow_add-q : goal.overflow_add-q
overflow_add-q c =
    let turn = c.loop-i in let a = c.args in
    omega (arith, (fill_now a.s.now a.n turn.i turn.q a.at turn.dst _ turn.invariant.0 turn.invariant.1 (omega arith)).room)

pub loop-i-preserved : goal.loop-i-preserved
loop-i-preserved c =
    let turn = c.loop-i in
    let a = c.args in (
      (fill_now a.s.now a.n turn.i turn.q a.at turn.dst _ turn.invariant.0 turn.invariant.1 (omega arith)).left,
      fill_again a.s.now a.n turn.i turn.q a.at turn.dst _ turn.invariant.0 turn.invariant.1 (omega arith) _
          (ap (set turn.dst (a.at + turn.i)) (c.component.ensures.0 ∙ ap (of_bits binary32) c.get.ensures)),
    )

pub returns : goal.returns
returns c =
    let turn = c.loop-i in let a = c.args in
    fill_end a.s.now a.n turn.i turn.q a.at turn.dst _ turn.invariant.0 turn.invariant.1 (omega arith)
