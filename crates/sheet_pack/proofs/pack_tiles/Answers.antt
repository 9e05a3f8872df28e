-- `pack_tiles` meets its contract. The loop's invariant: what is left to write gives the whole. Assumes nothing.
use native.Mathlib.Omega.{arith}
use native.Mathlib.Nat.{sub-zero}
use Rattle.job.proofs.Tiles.{counts-placed, colours-placed}
use Rattle.sheet_pack.proofs.Writes.{tiles_again, tiles_end}
use Rattle.sheet_pack.proofs.Here.{none_before, here}
use Rattle.sheet_pack.proofs.pack_tiles.Goals as goal

pub loop-i-init : goal.loop-i-init
loop-i-init c = (rw (none_before c.args.job.now.tiles.now) (omega arith), rw sub-zero)

pub counts_part-part-requires : goal.counts_part-part-requires
counts_part-part-requires c = counts-placed _ c.requires.3 c.loop-i.i (omega arith)

pub tile_part-requires : goal.tile_part-requires
tile_part-requires c = colours-placed _ c.requires.3 c.loop-i.i (omega arith)

pub pack_tile-requires : goal.pack_tile-requires
pack_tile-requires c =
    let turn = c.loop-i in let a = c.args in
    let H = here a.e _ c.requires.3 turn.i c.loop-i-test.true _ _ c.counts_part-part.ensures c.tile_part.ensures in
    (c.requires.0, omega (arith, H.room, c.requires.1, c.requires.2, turn.invariant.0, turn.auto.dst), omega (arith, H.room, c.requires.1, c.requires.2, turn.invariant.0), H.three, H.counted, H.bounded)

pub overflow_add-q : goal.overflow_add-q
overflow_add-q c = omega (arith, c.requires.0.narrow_each)

pub overflow_mul-q : goal.overflow_mul-q
overflow_mul-q c =
    let turn = c.loop-i in let a = c.args in
    let H = here a.e _ c.requires.3 turn.i c.loop-i-test.true _ _ c.counts_part-part.ensures c.tile_part.ensures in
    omega (arith, H.room, c.requires.1, c.requires.2, turn.invariant.0)

pub overflow_add-q-in-loop-i : goal.overflow_add-q-in-loop-i
overflow_add-q-in-loop-i c =
    let turn = c.loop-i in let a = c.args in
    let H = here a.e _ c.requires.3 turn.i c.loop-i-test.true _ _ c.counts_part-part.ensures c.tile_part.ensures in
    omega (arith, H.room, c.requires.1, c.requires.2, turn.invariant.0)

pub overflow_add-q-in-loop-i-2 : goal.overflow_add-q-in-loop-i-2
overflow_add-q-in-loop-i-2 c =
    let turn = c.loop-i in let a = c.args in
    let H = here a.e _ c.requires.3 turn.i c.loop-i-test.true _ _ c.counts_part-part.ensures c.tile_part.ensures in
    omega (arith, H.room, c.requires.1, c.requires.2, turn.invariant.0)

pub loop-i-preserved : goal.loop-i-preserved
loop-i-preserved c =
    let turn = c.loop-i in
    let a = c.args in
    let H = here a.e _ c.requires.3 turn.i c.loop-i-test.true _ _ c.counts_part-part.ensures c.tile_part.ensures in (
      rw H.after (omega (arith, turn.invariant.0)),
      tiles_again a.e _ _ _ turn.dst c.pack_tile.new.dst _ turn.q turn.i _ _ _ c.loop-i-test.true H.bits H.next c.pack_tile.ensures turn.invariant.1,
    )

pub returns : goal.returns
returns c =
    let turn = c.loop-i in
    tiles_end c.args.e _ _ _ turn.dst turn.q c.args.job.now.sizes.t turn.i _ (omega arith) turn.invariant.1
