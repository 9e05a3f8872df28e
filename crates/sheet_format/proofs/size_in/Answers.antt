-- `size_in` meets its contract, by each of its tests. Assumes nothing.
use Rattle.sheet_format.proofs.Editions.{size-short, size-other, size_large}
use Rattle.sheet_format.proofs.size_in.Goals as goal

pub returns-then-s-lt5 : goal.returns-then-s-lt5
returns-then-s-lt5 c = size-short _ c.if-s-lt5.true

pub returns-then-get-ne2 : goal.returns-then-get-ne2
returns-then-get-ne2 c = size-other _ c.if-s-lt5.false _ c.get.ensures c.if-get-ne2.true

pub returns : goal.returns
returns c = size_large _ c.if-s-lt5.false _ c.get.ensures c.if-get-ne2.false
