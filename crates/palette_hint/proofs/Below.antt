-- The best of a palette that has a subpalette is an index of one. Assumes nothing.
use Prim.Native.Nat.{◌≤◌, ◌<◌}
use mathlib.Core.Path.{◌≡◌, subst⁻¹}
use lib.Ieee.{Float}
use Rattle.stats.specs.declared.Near.{Near}
use Rattle.stats.specs.declared.Two.{Two}
use Rattle.stats.proofs.Scan.{least-below}
use Rattle.stats.proofs.BestTwo.{two-below}
use Rattle.palette.specs.Palette.{Palette, Tile, dist_at, best_fit}
use Rattle.palette_two.specs.PaletteTwo.{best_two}

pub best_below : (P : Palette) (X : Tile) (w : Float) (b : Near) → 1 ≤ P.subs → b ≡ best_fit P X w → b.index < P.subs
best_below P X w b h e = subst⁻¹ (λ (x : Near). x.index < P.subs) e (least-below (dist_at P X w) P.subs h)

pub best_two-below : (P : Palette) (X : Tile) (w : Float) (b : Two) → 1 ≤ P.subs → b ≡ best_two P X w → b.index < P.subs
best_two-below P X w b h e = subst⁻¹ (λ (x : Two). x.index < P.subs) e (two-below (dist_at P X w) P.subs h)
