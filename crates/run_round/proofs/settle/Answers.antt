-- `run_round::settle` meets its contract. The invariant: what settling gives is still to come, from a state that can be closed. Assumes nothing.
use mathlib.Core.Path.{refl, sym, ◌∙◌}
use Rattle.run_round.proofs.Closes.{begun, to_close, fewer, again, ended}
use Rattle.run_round.proofs.settle.Goals as goal

pub loop-hints-init : goal.loop-hints-init
loop-hints-init c = begun _ _ c.requires

pub finish_round-at-requires : goal.finish_round-at-requires
finish_round-at-requires c = to_close _ _ c.loop-hints.invariant.standing (sym c.is_due.ensures ∙ c.loop-hints-test.true)

pub loop-hints-smaller : goal.loop-hints-smaller
loop-hints-smaller c = fewer _ _ c.loop-hints.invariant.standing (sym c.is_due.ensures ∙ c.loop-hints-test.true) _ refl c.finish_round-at.ensures

pub loop-hints-preserved : goal.loop-hints-preserved
loop-hints-preserved c = again _ _ _ c.loop-hints.invariant (sym c.is_due.ensures ∙ c.loop-hints-test.true) _ refl c.finish_round-at.ensures

pub shape_of-hints : goal.shape_of-hints
shape_of-hints c = c.loop-hints.invariant.standing.sound.hints ∙ sym c.requires.sound.hints

pub shape_of-palette : goal.shape_of-palette
shape_of-palette c = c.loop-hints.invariant.standing.sound.held.size ∙ sym c.requires.sound.held.size

pub shape_of-least : goal.shape_of-least
shape_of-least c = c.loop-hints.invariant.standing.sound.room ∙ sym c.requires.sound.room

pub returns : goal.returns
returns c = ended _ _ _ c.loop-hints.invariant (sym c.is_due.ensures ∙ c.loop-hints-test.false)
