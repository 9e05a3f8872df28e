-- `spell` meets its contract. The loop's invariant: the bytes that are left, stored, give the whole. Assumes nothing.
use mathlib.Core.Path.{refl}
use native.Mathlib.Omega.{arith}
use Rattle.bits.proofs.Spelled.{spell_step}
use Rattle.bits.proofs.spell.Goals as goal

pub loop-j-preserved : goal.loop-j-preserved
loop-j-preserved c =
    let turn = c.loop-j in
    let a = c.args in
    spell_step turn.s _ a.x turn.j a.end _ (omega arith) (omega arith) refl turn.invariant
