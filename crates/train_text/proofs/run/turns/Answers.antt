-- `turns` meets its contract. The loop's invariant: the memory is what so many turns leave. Assumes nothing.
use native.Mathlib.Omega.{arith}
use Rattle.sheet_parts.proofs.Parts.{front_long}
use Rattle.train_text.proofs.Joined.{none_turned, one_more, all_turned}
use Rattle.train_text.proofs.run.turns.Goals as goal

pub loop-passed-init : goal.loop-passed-init
loop-passed-init c = none_turned _ _

pub advance-requires : goal.advance-requires
advance-requires c = tt

pub cut-reduced-requires : goal.cut-reduced-requires
cut-reduced-requires c = omega (arith, c.requires, c.loop-passed.invariant.palette, c.advance.auto.palette)

pub slice_bounds-reduced-end : goal.slice_bounds-reduced-end
slice_bounds-reduced-end c = omega (arith, c.cut-reduced.ensures.0, c.requires, c.loop-passed.invariant.palette, c.advance.auto.palette)

pub slice_bounds-hand_in-end : goal.slice_bounds-hand_in-end
slice_bounds-hand_in-end c =
    front_long _ c.cut-reduced.result (omega (
      arith,
      c.cut-reduced.ensures.0,
      c.requires,
      c.loop-passed.invariant.palette,
      c.advance.auto.palette,
    ))

pub hand_in-requires : goal.hand_in-requires
hand_in-requires c = tt

pub loop-passed-preserved : goal.loop-passed-preserved
loop-passed-preserved c =
    one_more _ _ _ _ c.loop-passed.invariant c.loop-passed-test.true _ _ _ _ _ c.advance.ensures c.cut-reduced.ensures.1
    c.hand_in.ensures c.advance.auto.order c.advance.auto.hints
    c.hand_in.auto.hints c.advance.auto.palette c.hand_in.auto.palette
    c.advance.auto.least c.advance.auto.words
    c.hand_in.auto.words

pub shape_of-order : goal.shape_of-order
shape_of-order c = c.loop-passed.invariant.order

pub shape_of-hints : goal.shape_of-hints
shape_of-hints c = c.loop-passed.invariant.hints

pub shape_of-palette : goal.shape_of-palette
shape_of-palette c = c.loop-passed.invariant.palette

pub shape_of-least : goal.shape_of-least
shape_of-least c = c.loop-passed.invariant.least

pub shape_of-words : goal.shape_of-words
shape_of-words c = c.loop-passed.invariant.words

pub returns : goal.returns
returns c = all_turned _ _ _ _ c.loop-passed-test.false c.loop-passed.invariant
