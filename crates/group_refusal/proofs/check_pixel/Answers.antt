-- `group_refusal::check_pixel` meets its contract: a pixel that is asked for clashes is kept, and has passed for its Oklab. Assumes nothing.
use mathlib.Core.Bool.{not}
use mathlib.Core.Path.{ap}
use borrow.Author.Tests.{not-false}
use Rattle.group_pixels.specs.Pixel.{kept, in_gamut}
use Rattle.group_refusal.proofs.Faults.{told}
use Rattle.group_refusal.proofs.check_pixel.Goals as goal

pub clashes-requires : goal.clashes-requires
clashes-requires c =
    let p = c.requires in (
      p.1,
      record {
        there = p.0;
        is_kept = told (kept _) c.rgba_at.ensures c.is_kept.ensures
            (not-false _ (ap not c.if-not-is_kept.false));
        is_real = told in_gamut c.colour.ensures c.in_gamut.ensures (not-false _ (ap not c.if-not-in_gamut.false));
      },
    )
