-- `palette_then_tiles` meets its contract: a fault of the palette comes before the tiles', and a tile's stands behind the palette. Assumes nothing.
use Prim.Native.Nat.{ℕ, ◌≤◌, ◌*◌}
use mathlib.Core.Path.{◌≡◌, sym, ap, ◌∙◌}
use mathlib.Core.List.{List}
use native.Mathlib.Omega.{arith}
use lib.ListN.{length}
use Rattle.bits.proofs.Bytes.{length-bits}
use Rattle.format.specs.Format.{times}
use Rattle.format.proofs.Lawful.{times_lawful}
use Rattle.format.proofs.Light.{times_light}
use Rattle.sheet_format.specs.Sheet.{component, tile}
use Rattle.sheet_format.proofs.Exact.{component_lawful, tile_lawful}
use Rattle.sheet_format.proofs.Light.{component_light, tile_light}
use Rattle.std.specs.Prelude.{Ok}
use Rattle.sheet_colours.specs.Steps.{Step, step_at, behind}
use Rattle.sheet_colours.proofs.Turns.{Read, read_at, few}
use Rattle.sheet_tiles.proofs.Rest.{rest-got}
use Rattle.sheet_tiles.proofs.palette_then_tiles.Goals as goal

-- n components, read from bit p of s
read-palette : (s : List ℕ) (p n : ℕ) → p ≤ 8 * length s → (x : Step) → x ≡ step_at (times n component) s p → Read (times n component) s p x
read-palette s p n h = read_at (times n component) (times_lawful n component component_lawful) (times_light n component component_light) s p h

pub all_tiles-requires : goal.all_tiles-requires
all_tiles-requires c =
    let a = c.args in let x = read-palette a.s.now a.p a.n (omega arith) (Ok c.in_ok-palette.palette) c.in_ok-palette.ensures in
    (c.requires.0, omega arith, omega (arith, x.inside, length-bits a.s.now))

pub behind-requires : goal.behind-requires
behind-requires c =
    let a = c.args in let palette = c.in_ok-palette.palette in
    let x = read-palette a.s.now a.p a.n (omega arith) (Ok palette) c.in_ok-palette.ensures in
    let inside : palette.bit ≤ 8 * length a.s.now = omega (arith, x.inside, length-bits a.s.now) in
    few (times a.t (tile a.e)) a.s.now palette.bit palette.passed _ (omega (arith, x.few)) inside (omega arith)
    (read_at (times a.t (tile a.e)) (times_lawful a.t (tile a.e) (tile_lawful a.e)) (times_light a.t (tile a.e) (tile_light a.e)) a.s.now palette.bit inside _ c.all_tiles.ensures)

pub returns : goal.returns
returns c =
    let a = c.args in let palette = c.in_ok-palette.palette in
    let x = read-palette a.s.now a.p a.n (omega arith) (Ok palette) c.in_ok-palette.ensures in
    c.behind.ensures ∙ ap (behind palette.passed) c.all_tiles.ensures
    ∙ sym (rest-got a.e a.s.now a.p a.n a.t x.value palette.bit palette.passed x.holds x.reads)
