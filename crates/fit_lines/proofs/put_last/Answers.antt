-- `put_last` meets its contract: a field and the line's end. Assumes nothing.
use native.Mathlib.Omega.{arith}
use Rattle.fit_lines.proofs.Lengths.{field-most}
use Rattle.fit_lines.proofs.Stores.{both_stored}
use Rattle.fit_lines.proofs.put_last.Goals as goal

pub put_word-requires : goal.put_word-requires
put_word-requires c = omega (arith, c.put_field-next.ensures.place, field-most c.args.word.now c.args.n)

pub returns : goal.returns
returns c = both_stored c.put_field-next.ensures c.put_word.ensures
