-- `put_digits` meets its contract. The loop's invariant: the digits that are left, stored, give the whole. Assumes nothing.
use Prim.Native.Nat.{ℕ, ◌+◌, ◌-◌}
use mathlib.Core.Path.{refl, sym, ap}
use native.Mathlib.Omega.{arith}
use native.Mathlib.Nat.{mod-lt}
use lib.ListN.{set}
use Rattle.fit_lines.proofs.Lengths.{length_digits}
use Rattle.fit_lines.proofs.Puts.{digits_again, digits_end}
use Rattle.fit_lines.proofs.put_digits.Goals as goal

pub loop-i-init : goal.loop-i-init
loop-i-init c = refl

pub glyph-requires : goal.glyph-requires
glyph-requires c = omega (arith, mod-lt c.loop-i.rest c.requires.1)

pub loop-i-preserved : goal.loop-i-preserved
loop-i-preserved c =
    let turn = c.loop-i in
    let a = c.args in
    digits_again turn.out _ _ a.base a.at turn.i turn.rest (omega arith) (ap (set turn.out (a.at + (turn.i - 1))) c.glyph.ensures) turn.invariant

pub returns : goal.returns
returns c =
    let turn = c.loop-i in let a = c.args in
    record {
      text = digits_end turn.out _ a.base a.at turn.i turn.rest (omega arith) turn.invariant;
      place = ap (λ (n : ℕ). a.at + n) (sym (length_digits a.base a.k a.n));
    }
