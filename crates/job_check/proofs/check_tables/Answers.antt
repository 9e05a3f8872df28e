-- `job_check::check_tables` meets its contract, return by return. Assumes nothing.
use mathlib.Core.Bool.{not}
use mathlib.Core.Path.{sym, ◌∙◌, ap}
use borrow.Author.Tests.{le-leb, lt-leb, not-false}
use Rattle.answer.proofs.Passing.{refuses, passes, fails, skips, none}
use Rattle.job_check.proofs.check_tables.Goals as goal

pub returns-then-not-weight_fits : goal.returns-then-not-weight_fits
returns-then-not-weight_fits c = refuses _ _ _ c.weight_fits.ensures (ap not c.if-not-weight_fits.true)

pub returns-then-total-gt-MOST_TILE_COLOURS : goal.returns-then-total-gt-MOST_TILE_COLOURS
returns-then-total-gt-MOST_TILE_COLOURS c = passes _ _ _ _ c.weight_fits.ensures (ap not c.if-not-weight_fits.false) (fails _ _ (lt-leb _ _ c.if-total-gt-MOST_TILE_COLOURS.true))

pub returns-then-not-tiles_fit : goal.returns-then-not-tiles_fit
returns-then-not-tiles_fit c =
    passes _ _ _ _ c.weight_fits.ensures (ap not c.if-not-weight_fits.false)
    (skips _ _ _ (le-leb _ _ c.if-total-gt-MOST_TILE_COLOURS.false) (refuses _ _ _ c.tiles_fit.ensures (ap not c.if-not-tiles_fit.true)))

pub counts_fit-requires : goal.counts_fit-requires
counts_fit-requires c = (c.requires, sym c.tiles_fit.ensures ∙ not-false _ (ap not c.if-not-tiles_fit.false))

pub returns-then-not-counts_fit : goal.returns-then-not-counts_fit
returns-then-not-counts_fit c =
    passes _ _ _ _ c.weight_fits.ensures (ap not c.if-not-weight_fits.false)
    (skips _ _ _ (le-leb _ _ c.if-total-gt-MOST_TILE_COLOURS.false)
    (passes _ _ _ _ c.tiles_fit.ensures (ap not c.if-not-tiles_fit.false) (refuses _ _ _ c.counts_fit.ensures (ap not c.if-not-counts_fit.true))))

pub returns : goal.returns
returns c =
    passes _ _ _ _ c.weight_fits.ensures (ap not c.if-not-weight_fits.false)
    (skips _ _ _ (le-leb _ _ c.if-total-gt-MOST_TILE_COLOURS.false)
    (passes _ _ _ _ c.tiles_fit.ensures (ap not c.if-not-tiles_fit.false)
    (passes _ _ _ _ c.counts_fit.ensures (ap not c.if-not-counts_fit.false) none)))
