-- `put_loads` meets its contract. The loop's invariant: the lines of the subpalettes passed stand there. Assumes nothing.
use Prim.Native.Nat.{ℕ}
use mathlib.Core.Path.{◌≡◌, subst}
use native.Mathlib.Omega.{arith}
use lib.ListN.{get_or}
use Rattle.fit_lines.specs.Lines.{Stored}
use Rattle.fit_tiles.specs.Text.{load_lines}
use Rattle.fit_lines.proofs.Lengths.{load_most}
use Rattle.fit_tiles.proofs.Tiles.{loads-none, loads-more}
use Rattle.fit_tiles.proofs.put_loads.Goals as goal

pub loop-k-init : goal.loop-k-init
loop-k-init c = (omega arith, loads-none _ c.args.out.now c.args.at)

pub loop-k-preserved : goal.loop-k-preserved
loop-k-preserved c =
    let turn = c.loop-k in let a = c.args in
    let room = load_most turn.k (get_or a.loads.now turn.k 0) in (
      omega (arith, c.put_load-q.ensures.place),
      loads-more _ a.out.now turn.out c.put_load-q.new.out a.at turn.q c.put_load-q.result turn.k turn.invariant.1
          c.put_load-q.ensures,
    )

pub returns : goal.returns
returns c =
    let turn = c.loop-k in let a = c.args in
    let e : turn.k ≡ a.s = omega arith in
    subst (λ (k : ℕ). Stored a.out.now turn.out a.at turn.q (load_lines (λ j. get_or a.loads.now j 0) k)) e turn.invariant.1
