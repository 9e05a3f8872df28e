-- `all_tiles` meets its contract. The loop's invariant: what is left to read, behind the components so far, gives the whole answer; these
-- components are no more than the bits before. Assumes nothing.
use Prim.Native.Nat.{ℕ, ◌≤◌, ◌*◌, ◌+◌}
use mathlib.Core.Path.{◌≡◌, sym, ◌∙◌}
use Rattle.std.proofs.lemmas.Result.{err_from_is_err_and}
use mathlib.Core.List.{List}
use native.Mathlib.Omega.{arith}
use lib.ListN.{length}
use Rattle.bits.proofs.Bytes.{length-bits}
use Rattle.sheet_format.specs.declared.Edition.{Edition}
use Rattle.sheet_format.specs.Sheet.{tile}
use Rattle.sheet_format.proofs.Exact.{tile_lawful}
use Rattle.sheet_format.proofs.Light.{tile_light}
use Rattle.sheet_colours.specs.Steps.{Step, reached, stopped, number_of, numbered, step_at}
use Rattle.sheet_colours.proofs.Turns.{turn_end, turn-fault, turn-got, Read, read_at, few, behind-ok, behind-err}
use Rattle.sheet_tiles.proofs.all_tiles.Goals as goal

-- the next tile, read from bit p of s
read-tile : (E : Edition) (s : List ℕ) (p : ℕ) → p ≤ 8 * length s → (x : Step) → x ≡ step_at (tile E) s p → Read (tile E) s p x
read-tile E s p h = read_at (tile E) (tile_lawful E) (tile_light E) s p h

pub behind-requires : goal.behind-requires
behind-requires c =
    let a = c.args in let p : ℕ = c.loop-i.at.bit in
    few (tile a.e) a.s.now p c.loop-i.at.passed _ (omega arith) (omega arith) (omega arith) (read-tile a.e a.s.now p (omega arith) _ c.one_tile.ensures)

pub returns-in_err-at : goal.returns-in_err-at
returns-in_err-at c =
    let turn = c.loop-i in let a = c.args in let f = c.in_err-at.field-0.0 in
    let n = number_of f.kind in
    let m = behind-err turn.at.passed (numbered c.one_tile.result) (record { number = n; passed = f.passed }) c.in_err-at.ensures in
    let x = read-tile a.e a.s.now turn.at.bit (omega arith) (stopped n m.0) (sym m.2 ∙ c.one_tile.ensures) in
    let p = err_from_is_err_and c.from_residual.result c.from_residual.ensures.1 in
    rw (p.1, p.2) (turn-fault (tile a.e) a.s.now a.t turn._i turn.at.bit turn.at.passed _ turn.invariant.2 n m.0 f.passed m.1 (omega arith) x.0)

pub loop-i-preserved : goal.loop-i-preserved
loop-i-preserved c =
    let turn = c.loop-i in let a = c.args in let at = c.in_ok-at.at in
    let m = behind-ok turn.at.passed (numbered c.one_tile.result) at c.in_ok-at.ensures in
    let x = read-tile a.e a.s.now turn.at.bit (omega arith) (reached at.bit m.0) (sym m.2 ∙ c.one_tile.ensures) in
    let more : at.passed ≡ turn.at.passed + (tile a.e).counts x.value = omega (arith, m.1, x.holds) in (
      omega (arith, x.inside, length-bits a.s.now),
      omega (arith, m.1, x.few),
      turn-got (tile a.e) a.s.now a.t turn._i turn.at.bit turn.at.passed _ turn.invariant.2 x.value at.bit at.passed more (omega arith) x.reads,
    )

pub returns : goal.returns
returns c =
    let turn = c.loop-i in let a = c.args in
    turn_end (tile a.e) a.s.now a.t turn._i turn.at.bit turn.at.passed _ turn.invariant.2 (omega arith) (omega arith)
