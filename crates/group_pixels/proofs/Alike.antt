-- Whether a pixel is kept goes by its bytes alone. Assumes nothing.
use Rattle.std.specs.Prelude.{Option, Some, None}
use mathlib.Core.Path.{◌≡◌}
use mathlib.Core.Bool.{true, ◌&&◌}
use lib.Dec.{eqb}
use borrow.Author.Tests.{eqb-true}
use Rattle.lists.proofs.Tests.{and_l, and_r}
use Rattle.group_pixels.specs.declared.Rgba.{Rgba}
use Rattle.group_pixels.specs.declared.Rgb.{Rgb}
use Rattle.group_pixels.specs.Pixel.{is_zero, kept, same_bytes}

alike : (cz : Option Rgb) (x y : Rgba) → x.r ≡ y.r → x.g ≡ y.g → x.b ≡ y.b → x.a ≡ y.a → kept cz x ≡ kept cz y
unfolding kept is_zero
alike (Some z) x y er eg eb ea = rw (er, eg, eb, ea)
alike None x y er eg eb ea = rw ea

pub same_kept : (cz : Option Rgb) (x y : Rgba) → same_bytes x y ≡ true → kept cz x ≡ kept cz y
unfolding same_bytes
same_kept cz x y e =
    let gba = and_r (eqb x.r y.r) (eqb x.g y.g && (eqb x.b y.b && eqb x.a y.a)) e in
    let ba = and_r (eqb x.g y.g) (eqb x.b y.b && eqb x.a y.a) gba in
    alike cz x y
    (eqb-true x.r y.r (and_l (eqb x.r y.r) (eqb x.g y.g && (eqb x.b y.b && eqb x.a y.a)) e))
    (eqb-true x.g y.g (and_l (eqb x.g y.g) (eqb x.b y.b && eqb x.a y.a) gba))
    (eqb-true x.b y.b (and_l (eqb x.b y.b) (eqb x.a y.a) ba))
    (eqb-true x.a y.a (and_r (eqb x.b y.b) (eqb x.a y.a) ba))
