-- `head` meets its contract, by each of its tests. Assumes nothing.
use mathlib.Core.Bool.{not}
use mathlib.Core.Path.{sym, ap, ◌∙◌}
use native.Mathlib.Omega.{arith}
use borrow.Author.Tests.{not-true, not-false}
use Rattle.bits.specs.Bits.{bits}
use Rattle.bits.proofs.Bytes.{length-bits}
use Rattle.bits.proofs.Fields.{field_lt}
use Rattle.sheet_check.specs.Steps.{head_of}
use Rattle.sheet_check.proofs.Heads.{opening-short, opening_wrong, edition-short, edition_wrong, sizes-short, weight_wrong, head_read}
use Rattle.sheet_check.proofs.head.Goals as goal

pub returns-then-end-lt32 : goal.returns-then-end-lt32
returns-then-end-lt32 c = sym (ap head_of (opening-short c.args.e c.args.s.now (omega arith)))

pub returns-then-get-ne-OPENING : goal.returns-then-get-ne-OPENING
returns-then-get-ne-OPENING c = sym (ap head_of (opening_wrong c.args.e c.args.s.now c.get.result (omega arith) c.get.ensures c.if-get-ne-OPENING.true))

pub returns-then-end-lt-SUBS_AT : goal.returns-then-end-lt-SUBS_AT
returns-then-end-lt-SUBS_AT c = sym (ap head_of (edition-short c.args.e c.args.s.now c.get.result c.get.ensures c.if-get-ne-OPENING.false (omega arith) (omega arith)))

pub returns-then-get-e : goal.returns-then-get-e
returns-then-get-e c =
    sym (ap head_of (edition_wrong c.args.e c.args.s.now c.get.result c.get.ensures c.if-get-ne-OPENING.false c.get-2.result
    (omega arith) c.get-2.ensures c.if-get-e.true))

pub returns-then-end-lt-HEAD_BITS : goal.returns-then-end-lt-HEAD_BITS
returns-then-end-lt-HEAD_BITS c =
    sym (ap head_of (sizes-short c.args.e c.args.s.now c.get.result c.get.ensures c.if-get-ne-OPENING.false c.get-2.result
    c.get-2.ensures c.if-get-e.false (omega arith) (omega arith)))

pub returns-then-not-is_weight : goal.returns-then-not-is_weight
returns-then-not-is_weight c =
    sym (ap head_of (weight_wrong c.args.e c.args.s.now c.get.result c.get.ensures c.if-get-ne-OPENING.false c.get-2.result
    c.get-2.ensures c.if-get-e.false c.get-weight.result (omega arith) c.get-weight.ensures
    (sym c.is_weight.ensures ∙ not-true c.is_weight.result (ap not c.if-not-is_weight.true))))

pub overflow_add-result : goal.overflow_add-result
overflow_add-result c = omega (arith, c.get-3.ensures, field_lt (bits c.args.s.now) 36 4 4 (rw length-bits (omega arith)) (omega arith))

pub overflow_add-result-2 : goal.overflow_add-result-2
overflow_add-result-2 c = omega (arith, c.get-4.ensures, field_lt (bits c.args.s.now) 40 4 4 (rw length-bits (omega arith)) (omega arith))

pub overflow_add-result-3 : goal.overflow_add-result-3
overflow_add-result-3 c = omega (arith, c.get-5.ensures, field_lt (bits c.args.s.now) 44 10 10 (rw length-bits (omega arith)) (omega arith))

pub returns : goal.returns
returns c =
    sym (ap head_of (head_read c.args.e c.args.s.now c.get.result c.get.ensures c.if-get-ne-OPENING.false c.get-2.result
    c.get-2.ensures c.if-get-e.false c.get-weight.result (omega arith) c.get-weight.ensures
    (sym c.is_weight.ensures ∙ not-false c.is_weight.result (ap not c.if-not-is_weight.false))
    c.get-3.result c.get-4.result c.get-5.result c.get-3.ensures c.get-4.ensures c.get-5.ensures))
