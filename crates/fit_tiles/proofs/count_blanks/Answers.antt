-- `count_blanks` meets its contract. The loop's invariant: n counts the empty ones of the tiles passed. Assumes nothing.
use Prim.Native.Nat.{ℕ}
use mathlib.Core.Path.{◌≡◌, refl, sym, ap, ◌∙◌}
use native.Mathlib.Omega.{arith}
use lib.Dec.{eqb}
use Rattle.lists.specs.Count.{hit}
use Rattle.lists.specs.Every.{sum}
use Rattle.lists.proofs.Loops.{sum_more}
use Rattle.job.specs.Job.{size_of}
use Rattle.fit_tiles.specs.Text.{blanks_of}
use Rattle.fit_tiles.proofs.Loads.{blanks-few}
use Rattle.fit_tiles.proofs.count_blanks.Goals as goal
use Rattle.fit_tiles.proofs.count_blanks.Goals.{then-is_empty, else-is_empty}

pub loop-i-init : goal.loop-i-init
unfolding blanks_of sum
loop-i-init c = refl

pub overflow_add-n : goal.overflow_add-n
overflow_add-n c =
    let few = blanks-few c.args.job.now.tiles.now c.loop-i.i in
    elim c.if-is_empty.branch [ then-is_empty w ↦ omega arith | else-is_empty w ↦ omega arith ]

pub loop-i-preserved : goal.loop-i-preserved
unfolding blanks_of hit
loop-i-preserved c =
    let turn = c.loop-i in
    let blank : ℕ → ℕ = λ t. hit (eqb (size_of c.args.job.now.tiles.now t) 0) in let is = c.is_empty.ensures in
    let one : c.if-is_empty.n ≡ blank turn.i =
    elim c.if-is_empty.branch [
      | then-is_empty w ↦ w.n-is ∙ ap hit (sym w.if-is_empty.true ∙ is)
      | else-is_empty w ↦ w.n-is ∙ ap hit (sym w.if-is_empty.false ∙ is)
    ] in
    sum_more blank turn.i turn.n c.if-is_empty.n turn.invariant one

pub returns : goal.returns
returns c =
    let turn = c.loop-i in
    let e : turn.i ≡ c.args.job.now.sizes.t = omega arith in
    turn.invariant ∙ ap (blanks_of c.args.job.now.tiles.now) e
