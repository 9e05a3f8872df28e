-- `pack_components` meets its contract. The loop's invariant: what is left to write gives the whole. Assumes nothing.
use mathlib.Core.Path.{refl}
use native.Mathlib.Omega.{arith}
use lib.ListN.{get_or}
use lib.Ieee.{nan}
use Rattle.ieee.proofs.Bounds.{within_real}
use Rattle.sheet_pack.proofs.Writes.{words_again, words_end}
use Rattle.sheet_pack.proofs.pack_components.Goals as goal

pub loop-x-init : goal.loop-x-init
loop-x-init c = (omega arith, refl)

pub float_to_bits-x : goal.float_to_bits-x
float_to_bits-x c = within_real (get_or c.args.src.now c.loop-x.x-index nan) 2 1 (c.requires.2 c.loop-x.x-index (omega arith))

pub loop-x-preserved : goal.loop-x-preserved
loop-x-preserved c =
    let turn = c.loop-x in (
      omega arith,
      words_again c.args.src.now turn.dst c.put.new.s turn.q turn.x-index _ _ (omega arith) (omega arith) refl c.put.ensures
          turn.invariant.1,
    )

pub returns : goal.returns
returns c =
    let turn = c.loop-x in
    words_end c.args.src.now turn.dst turn.q turn.x-index _ (omega arith) turn.invariant.1
