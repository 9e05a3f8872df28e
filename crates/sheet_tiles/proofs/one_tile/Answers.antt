-- `one_tile` meets its contract, by each answer to the number of colours. Assumes nothing.
use mathlib.Core.Path.{sym, ◌∙◌}
use native.Mathlib.Omega.{arith}
use Rattle.sheet_tiles.proofs.Tiles.{tile-short, tile-many, tile-read}
use Rattle.sheet_tiles.proofs.one_tile.Goals as goal

pub returns-then-end-p : goal.returns-then-end-p
returns-then-end-p c = let a = c.args in c.stopped.ensures ∙ sym (tile-short a.e a.s.now a.p (omega arith))

pub returns-then-e-n : goal.returns-then-e-n
returns-then-e-n c =
    let a = c.args in
    c.stopped-then-e-n.ensures ∙ sym (tile-many a.e a.s.now a.p c.get-n.result (omega arith) c.get-n.ensures (omega arith))

pub returns : goal.returns
returns c =
    let a = c.args in
    c.tile_colours.ensures ∙ sym (tile-read a.e a.s.now a.p c.get-n.result (omega arith) c.get-n.ensures (omega arith))
