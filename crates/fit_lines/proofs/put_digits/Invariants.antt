-- `put_digits` meets its contract. The loop's invariant: the digits that are left, stored, give the whole. Assumes nothing.
use mathlib.Core.Path.{◌≡◌}
use lib.Seq.{sets}
use Rattle.io.specs.Digits.{last_digits}
use Rattle.fit_lines.proofs.put_digits.Given as goal

abbrev pub invariant-loop-i : goal.invariant-loop-i
invariant-loop-i l = sets l.out l.at (last_digits l.base l.i l.rest) ≡ sets l.initial.out l.at (last_digits l.base l.k l.n)
