-- `put_field` meets its contract: the digits stand behind the word. Assumes nothing.
use Prim.Native.Nat.{ℕ}
use mathlib.Core.Path.{ap, subst}
use mathlib.Core.List.{List}
use native.Mathlib.Omega.{arith}
use Rattle.io.specs.Digits.{last_digits}
use Rattle.fit_lines.specs.Lines.{Stored, decimal}
use Rattle.fit_lines.proofs.Lengths.{width_most}
use Rattle.fit_lines.proofs.Stores.{both_stored}
use Rattle.fit_lines.proofs.put_field.Goals as goal

pub put_digits-requires : goal.put_digits-requires
put_digits-requires c = omega (arith, c.width.ensures, width_most c.args.n)

pub returns : goal.returns
unfolding decimal
returns c =
    both_stored c.put_word-next.ensures
    (subst (λ (x : List ℕ). Stored c.put_word-next.new.out c.put_digits.new.out c.put_word-next.result
    c.put_digits.result x)
    (ap (λ (k : ℕ). last_digits 10 k c.args.n) c.width.ensures) c.put_digits.ensures)
