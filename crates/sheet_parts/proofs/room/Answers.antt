-- `room` meets its contract. Assumes nothing.
use mathlib.Core.Path.{sym}
use lib.ListN.{length-replicate}
use Rattle.sheet_parts.proofs.Hints.{blank_at}
use Rattle.sheet_parts.proofs.room.Goals as goal

pub returns : goal.returns
returns g c = (sym (length-replicate {A = g.row.T.Denot} g.row.N c.args.blank), blank_at c.args.blank g.row.N)
