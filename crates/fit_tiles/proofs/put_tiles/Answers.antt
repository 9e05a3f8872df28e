-- `put_tiles` meets its contract. The loop's invariant: the lines of the tiles passed stand there, and the loads count them. Assumes nothing.
use Prim.Native.Nat.{ℕ}
use mathlib.Core.Path.{◌≡◌, sym, ap, ◌∙◌, subst}
use mathlib.Core.List.{List}
use native.Mathlib.Omega.{arith}
use lib.ListN.{get_or}
use Rattle.job.specs.Job.{Job, job_in}
use Rattle.fit_lines.specs.declared.Found.{Found}
use Rattle.fit_lines.specs.Lines.{Stored}
use Rattle.fit_tiles.specs.Text.{tile_lines, load_of}
use Rattle.fit_lines.proofs.Lengths.{tile-most}
use Rattle.fit_tiles.proofs.Tiles.{sub-below, lines_none, lines_more}
use Rattle.fit_tiles.proofs.Loads.{load_none, load_few, load_more}
use Rattle.fit_tiles.proofs.put_tiles.Goals as goal

pub loop-i-init : goal.loop-i-init
loop-i-init c =
    let a = c.args in (
      omega arith,
      lines_none (job_in a.job.now) a.palette.now a.out.now a.at,
      λ k. c.requires.3 k ∙ sym (load_none (job_in a.job.now) a.palette.now k),
    )

pub tile_found-found-requires : goal.tile_found-found-requires
tile_found-found-requires c = record { shown = c.requires.0; tile = omega arith; each = c.loop-i.auto.hints ∙ c.requires.1 }

pub overflow_cast-i : goal.overflow_cast-i
overflow_cast-i c = omega (arith, c.requires.0.ready.sizes.tiles)

pub count_tile-requires : goal.count_tile-requires
count_tile-requires c =
    let turn = c.loop-i in let a = c.args in
    let J : Job = job_in a.job.now in (
      omega (arith, c.requires.0.ready.table),
      omega (arith, ap (λ (x : Found). x.sub) c.tile_found-found.ensures, sub-below J a.palette.now c.requires.0 turn.i),
      omega (arith, turn.invariant.2 c.tile_found-found.result.sub, load_few J a.palette.now c.tile_found-found.result.sub turn.i, c.requires.0.ready.sizes.tiles),
    )

pub loop-i-preserved : goal.loop-i-preserved
loop-i-preserved c =
    let turn = c.loop-i in let a = c.args in
    let J : Job = job_in a.job.now in
    let found = c.tile_found-found.result in let its = c.tile_found-found.ensures in let sub = ap (λ (x : Found). x.sub) its in
    let room = tile-most turn.i found in (
      omega (arith, c.put_tile-q.ensures.place),
      lines_more J a.palette.now a.out.now turn.out c.put_tile-q.new.out a.at turn.q c.put_tile-q.result turn.i found turn.invariant.1 c.put_tile-q.ensures its,
      λ j. ap (λ (x : List ℕ). get_or x j 0) c.count_tile.ensures
          ∙ load_more J a.palette.now turn.loads turn.i found.sub sub (omega (arith, sub, sub-below J a.palette.now c.requires.0 turn.i)) turn.invariant.2 j,
    )

pub returns : goal.returns
returns c =
    let turn = c.loop-i in let a = c.args in
    let e : turn.i ≡ a.job.now.sizes.t = omega arith in (
      subst (λ (k : ℕ). Stored a.out.now turn.out a.at turn.q
          (tile_lines (job_in a.job.now) a.palette.now k)) e turn.invariant.1,
      λ k. turn.invariant.2 k ∙ ap (load_of (job_in a.job.now) a.palette.now k) e,
    )
