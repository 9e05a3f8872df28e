-- `edition_of` meets its contract, by whether the size is that of edition 2. Assumes nothing.
use borrow.Author.Tests.{eq-eqb, ne_eqb}
use Rattle.sheet_format.specs.Sheet.{edition2, edition_of}
use Rattle.sheet_format.proofs.edition_of.Goals as goal

pub returns-then-size-eq-LARGE_TILE : goal.returns-then-size-eq-LARGE_TILE
unfolding edition_of
returns-then-size-eq-LARGE_TILE c = rw (eq-eqb c.args.size edition2.size c.if-size-eq-LARGE_TILE.true)

pub returns : goal.returns
unfolding edition_of
returns c = rw (ne_eqb c.args.size edition2.size c.if-size-eq-LARGE_TILE.false)
