-- `group_refusal::check_group` meets its contract: the refusals in the order of the table. Assumes nothing.
use mathlib.Core.Bool.{not}
use mathlib.Core.Path.{sym, ◌∙◌, ap}
use native.Mathlib.Omega.{arith}
use borrow.Author.Tests.{not-true, not-false}
use Rattle.job.proofs.Ready.{tile-bound}
use Rattle.group_refusal.proofs.Passes.{no_size, too_many, misfit, fitting, sizes}
use Rattle.group_refusal.proofs.check_group.Goals as goal

pub returns-then-not-is_tile_size : goal.returns-then-not-is_tile_size
returns-then-not-is_tile_size c = no_size _ _ _ (sym c.is_tile_size.ensures ∙ not-true _ (ap not c.if-not-is_tile_size.true))

pub returns-then-q-size : goal.returns-then-q-size
returns-then-q-size c = too_many _ _ _ (sym c.is_tile_size.ensures ∙ not-false _ (ap not c.if-not-is_tile_size.false)) c.if-q-size.true

pub is_sized-requires : goal.is_sized-requires
is_sized-requires c = omega (arith, tile-bound _ (sym c.is_tile_size.ensures ∙ not-false _ (ap not c.if-not-is_tile_size.false)))

pub returns-then-not-is_sized : goal.returns-then-not-is_sized
returns-then-not-is_sized c =
    misfit _ _ _ (sym c.is_tile_size.ensures ∙ not-false _ (ap not c.if-not-is_tile_size.false)) c.if-q-size.false
    (sym c.is_sized.ensures ∙ not-true _ (ap not c.if-not-is_sized.true))

pub check_pixels-requires : goal.check_pixels-requires
check_pixels-requires c = let z = sizes _ _ _ _ _ _ _ (sym c.is_sized.ensures ∙ not-false _ (ap not c.if-not-is_sized.false)) in (z.0, z.1)

pub returns : goal.returns
returns c =
    fitting _ _ _ (sym c.is_tile_size.ensures ∙ not-false _ (ap not c.if-not-is_tile_size.false)) c.if-q-size.false
    (sym c.is_sized.ensures ∙ not-false _ (ap not c.if-not-is_sized.false)) _ c.check_pixels.ensures
