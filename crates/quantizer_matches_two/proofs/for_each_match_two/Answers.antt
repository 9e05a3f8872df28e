-- `quantizer_matches_two::for_each_match_two` meets its contract. The loops' invariant: the sums are those after the first 4·j colours, then
-- after the first k. Assumes nothing.
use mathlib.Core.Path.{◌≡◌, refl, sym, ap, ◌∙◌}
use mathlib.Core.List.{List}
use native.Mathlib.Omega.{arith}
use lib.ListN.{length}
use lib.Ieee.{Float}
use Rattle.color.specs.declared.Oklab.{Oklab}
use Rattle.palette.specs.Palette.{tile_in}
use Rattle.palette_two.specs.PaletteTwo.{nearest_two_of}
use Rattle.quantizer.specs.Replacing.{shares}
use Rattle.quantizer_matches_two.proofs.Walks.{shares-start, shares-wide, match_asks, match_more, one-after, four-after}
use Rattle.quantizer_matches_two.proofs.for_each_match_two.Goals as goal

nearest-of : (s : List Float) (w : Float) (p q : Oklab) → p ≡ q → nearest_two_of s p w ≡ nearest_two_of s q w
nearest-of s w p q e = ap (λ (x : Oklab). nearest_two_of s x w) e

-- ---- four colours at a time
pub loop-j-init : goal.loop-j-init
loop-j-init c = shares-start _ _ _ _ _

pub match_four-requires : goal.match_four-requires
match_four-requires c =
    let W = shares-wide _ _ _ _ _ _ (length c.args.had.now) _ (record { had = refl; lost = c.requires.1 }) c.loop-j.invariant in
    let M = c.requires.0 in
    (record { some = M.some; place = omega (arith, M.place, W.had); three = M.three; high = M.high }, (W.lost ∙ sym W.had, omega arith))

pub loop-j-preserved : goal.loop-j-preserved
loop-j-preserved c = four-after _ _ _ _ _ _ _ _ _ (omega arith) c.loop-j.invariant c.match_four.ensures

-- ---- colour by colour
pub add_nearest-requires : goal.add_nearest-requires
add_nearest-requires c =
    let r = c.nearest_two-r.ensures ∙ nearest-of _ _ _ _ c.colour.ensures in
    let W = shares-wide _ _ _ _ _ _ (length c.args.had.now) _ (record { had = refl; lost = c.requires.1 }) c.loop-k.invariant.1 in
    match_asks _ (tile_in c.args.tile.now) _ c.args.base c.loop-k.k _ r _ c.requires.0 (shares c.loop-k.had c.loop-k.lost) W _ (omega arith)

pub loop-k-preserved : goal.loop-k-preserved
loop-k-preserved c =
    let X = tile_in c.args.tile.now in
    let b = c.args.base in
    let k = c.loop-k.k in
    let r = c.nearest_two-r.ensures ∙ nearest-of _ _ _ _ c.colour.ensures in
    let A = shares c.args.had.now c.args.lost.now in
    let B = shares c.loop-k.had c.loop-k.lost in
    (omega arith, one-after _ X _ b A B _ k _ refl c.loop-k.invariant.1 (match_more _ X _ b k _ r B _ c.add_nearest.ensures))
