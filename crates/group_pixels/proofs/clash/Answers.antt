-- `group_pixels::clash` meets its contract: equal bytes make the other pixel a kept one, so that it has passed for its Oklab too. Assumes nothing.
use mathlib.Core.Path.{ap, ◌∙◌}
use Rattle.group_pixels.proofs.Alike.{same_kept}
use Rattle.group_pixels.specs.Pixel.{in_gamut}
use Rattle.group_pixels.proofs.Told.{same-told}
use Rattle.group_pixels.proofs.clash.Goals as goal

pub same_bits-requires : goal.same_bits-requires
same_bits-requires c =
    let k = c.requires.2 in
    let same = same-told c.rgba_at.ensures c.rgba_at-2.ensures c.same_bytes.ensures c.if-same_bytes.true in
    (ap in_gamut c.colour.ensures ∙ c.requires.1 (same_kept _ _ _ same ∙ k.is_kept), ap in_gamut c.colour-then-same_bytes.ensures ∙ k.is_real)
