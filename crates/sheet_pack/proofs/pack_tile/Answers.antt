-- `pack_tile` meets its contract: the number of colours, then those. Assumes nothing.
use mathlib.Core.Path.{refl}
use native.Mathlib.Omega.{arith}
use lib.ListN.{length}
use Rattle.bits.proofs.Bytes.{length-bits}
use Rattle.sheet_pack.proofs.Writes.{tile-done}
use Rattle.sheet_pack.proofs.pack_tile.Goals as goal

pub returns : goal.returns
returns c =
    let a = c.args in
    tile-done a.e a.counts.now a.colours.now _ _ _ a.p (length a.counts.now) (rw length-bits (omega arith)) refl c.put.ensures
    c.pack_colours.ensures
