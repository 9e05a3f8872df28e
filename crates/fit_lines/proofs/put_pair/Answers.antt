-- `put_pair` meets its contract: a field, and the last one. Assumes nothing.
use native.Mathlib.Omega.{arith}
use Rattle.fit_lines.specs.Lines.{pair}
use Rattle.fit_lines.proofs.Lengths.{field-most}
use Rattle.fit_lines.proofs.Stores.{both_stored}
use Rattle.fit_lines.proofs.put_pair.Goals as goal

pub put_last-requires : goal.put_last-requires
put_last-requires c = omega (arith, c.put_field-next.ensures.place, field-most c.args.word.now c.args.n)

pub returns : goal.returns
unfolding pair
returns c = both_stored c.put_field-next.ensures c.put_last.ensures
