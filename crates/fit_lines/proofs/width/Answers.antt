-- `width` meets its contract, by its tests. Assumes nothing.
use borrow.Author.Tests.{lt-ltb, le-ltb}
use Rattle.fit_lines.specs.Lines.{width_of}
use Rattle.fit_lines.proofs.width.Goals as goal

pub returns-then-n-lt10 : goal.returns-then-n-lt10
unfolding width_of
returns-then-n-lt10 c = rw (lt-ltb c.args.n 10 c.if-n-lt10.true)

pub returns-then-n-lt100 : goal.returns-then-n-lt100
unfolding width_of
returns-then-n-lt100 c = rw (le-ltb c.args.n 10 c.if-n-lt10.false, lt-ltb c.args.n 100 c.if-n-lt100.true)

pub returns-then-n-lt1000 : goal.returns-then-n-lt1000
unfolding width_of
returns-then-n-lt1000 c =
    let a = c.args in
    rw (le-ltb a.n 10 c.if-n-lt10.false, le-ltb a.n 100 c.if-n-lt100.false, lt-ltb a.n 1000 c.if-n-lt1000.true)

pub returns : goal.returns
unfolding width_of
returns c =
    let a = c.args in
    rw (le-ltb a.n 10 c.if-n-lt10.false, le-ltb a.n 100 c.if-n-lt100.false, le-ltb a.n 1000 c.if-n-lt1000.false)
