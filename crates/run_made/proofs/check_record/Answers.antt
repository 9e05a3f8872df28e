-- `run_made::check_record` meets its contract, return by return. Assumes nothing.
use mathlib.Core.Bool.{not}
use mathlib.Core.Path.{sym, ap, ◌∙◌}
use lib.Dec.{eqb}
use borrow.Author.Tests.{eq-eqb, ne_eqb, not-false}
use Rattle.answer.proofs.Passing.{refuses, passes, fails, skips, none}
use Rattle.run_made.proofs.check_record.Goals as goal

pub returns-then-not-ours : goal.returns-then-not-ours
returns-then-not-ours c = refuses _ _ _ (ap (eqb _) c.sizes_word-sizes.ensures) (ap not (ne_eqb _ _ c.if-not-ours.true))

pub returns-then-not-placed : goal.returns-then-not-placed
returns-then-not-placed c = passes _ _ _ _ (ap (eqb _) c.sizes_word-sizes.ensures) (ap not (eq-eqb _ _ c.if-not-ours.false)) (refuses _ _ _ c.place_fits-placed.ensures (ap not c.if-not-placed.true))

pub made_by-requires : goal.made_by-requires
made_by-requires c = (c.requires, sym c.place_fits-placed.ensures ∙ not-false _ (ap not c.if-not-placed.false))

pub returns-then-r-made_by : goal.returns-then-r-made_by
returns-then-r-made_by c =
    passes _ _ _ _ (ap (eqb _) c.sizes_word-sizes.ensures) (ap not (eq-eqb _ _ c.if-not-ours.false))
    (passes _ _ _ _ c.place_fits-placed.ensures (ap not c.if-not-placed.false) (fails _ _ (rw (← c.made_by.ensures) (ne_eqb _ _ c.if-r-made_by.true))))

pub returns-then-not-error_fits : goal.returns-then-not-error_fits
returns-then-not-error_fits c =
    passes _ _ _ _ (ap (eqb _) c.sizes_word-sizes.ensures) (ap not (eq-eqb _ _ c.if-not-ours.false))
    (passes _ _ _ _ c.place_fits-placed.ensures (ap not c.if-not-placed.false)
    (skips _ _ _ (eq-eqb _ _ (c.if-r-made_by.false ∙ c.made_by.ensures)) (refuses _ _ _ c.error_fits.ensures (ap not c.if-not-error_fits.true))))

pub returns : goal.returns
returns c =
    passes _ _ _ _ (ap (eqb _) c.sizes_word-sizes.ensures) (ap not (eq-eqb _ _ c.if-not-ours.false))
    (passes _ _ _ _ c.place_fits-placed.ensures (ap not c.if-not-placed.false)
    (skips _ _ _ (eq-eqb _ _ (c.if-r-made_by.false ∙ c.made_by.ensures))
    (passes _ _ _ _ c.error_fits.ensures (ap not c.if-not-error_fits.false) none)))
