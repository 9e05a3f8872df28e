-- `fill_tiles` meets its contract. The loop's invariant: what is left to store gives the whole, and has room. Assumes nothing.
use Prim.Native.Nat.{ℕ}
use mathlib.Core.Path.{refl, sym, subst}
use native.Mathlib.Omega.{arith}
use native.Mathlib.Nat.{sub-zero, zero-add}
use lib.ListN.{length-set}
use Rattle.bits.specs.Bits.{bits, field_at}
use Rattle.format.specs.Format.{times}
use Rattle.sheet_format.specs.Sheet.{tile}
use Rattle.sheet_format.specs.Lists.{total}
use Rattle.sheet_fill.specs.Fill.{Reads, list_at}
use Rattle.sheet_fill.proofs.Tiles.{tile-most, tiling_turn, tiling_fits, tiling_again, tiling_end}
use Rattle.sheet_fill.proofs.fill_tiles.Goals as goal

pub loop-i-init : goal.loop-i-init
loop-i-init c =
    let a = c.args in
    record {
      reads = subst (λ (j : ℕ). Reads (times j (tile a.e)) a.s.now a.p) (sym (sub-zero a.t)) c.requires.6;
      room = rw sub-zero (zero-add (total (list_at (times a.t (tile a.e)) a.s.now a.p)));
      table = rw sub-zero;
      counts = rw sub-zero;
      parts = rw sub-zero;
    }

pub get-n-requires : goal.get-n-requires
get-n-requires c =
    let turn = c.loop-i in let a = c.args in
    omega (arith, (tiling_turn a.e a.t turn.i turn.invariant (omega arith) (field_at (bits a.s.now) turn.q a.e.many) refl).room, c.requires.0.narrow_many, c.requires.0.wide_many)

pub overflow_cast-n : goal.overflow_cast-n
overflow_cast-n c = omega (arith, (tiling_turn c.args.e c.args.t c.loop-i.i c.loop-i.invariant (omega arith) c.get-n.result c.get-n.ensures).few)

pub overflow_cast-table : goal.overflow_cast-table
overflow_cast-table c = omega (arith, tiling_fits c.args.e c.args.t c.loop-i.i c.loop-i.invariant (omega arith) c.get-n.result c.get-n.ensures)

pub overflow_cast-table-in-loop-i : goal.overflow_cast-table-in-loop-i
overflow_cast-table-in-loop-i c = omega (arith, (tiling_turn c.args.e c.args.t c.loop-i.i c.loop-i.invariant (omega arith) c.get-n.result c.get-n.ensures).few)

pub bounds-table-j-in-loop-i : goal.bounds-table-j-in-loop-i
bounds-table-j-in-loop-i c = simp length-set (omega arith)

pub overflow_add-q : goal.overflow_add-q
overflow_add-q c = omega (arith, (tiling_turn c.args.e c.args.t c.loop-i.i c.loop-i.invariant (omega arith) c.get-n.result c.get-n.ensures).room, c.requires.0.narrow_many, c.requires.0.wide_many)

pub fill_colours-requires : goal.fill_colours-requires
fill_colours-requires c =
    let turn = c.loop-i in let a = c.args in
    let fits = tiling_fits a.e a.t turn.i turn.invariant (omega arith) c.get-n.result c.get-n.ensures in
    (c.requires.0, c.requires.1, omega arith, omega arith, (tiling_turn a.e a.t turn.i turn.invariant (omega arith) c.get-n.result c.get-n.ensures).here)

pub overflow_add-q-in-loop-i : goal.overflow_add-q-in-loop-i
overflow_add-q-in-loop-i c = omega (arith, c.requires.0.narrow_each)

pub overflow_mul-q : goal.overflow_mul-q
overflow_mul-q c =
    let turn = tiling_turn c.args.e c.args.t c.loop-i.i c.loop-i.invariant (omega arith) c.get-n.result c.get-n.ensures in
    omega (arith, tile-most c.args.e c.requires.0 turn)

pub overflow_add-q-in-loop-i-2 : goal.overflow_add-q-in-loop-i-2
overflow_add-q-in-loop-i-2 c =
    let turn = tiling_turn c.args.e c.args.t c.loop-i.i c.loop-i.invariant (omega arith) c.get-n.result c.get-n.ensures in
    omega (arith, tile-most c.args.e c.requires.0 turn)

pub overflow_add-q-in-loop-i-3 : goal.overflow_add-q-in-loop-i-3
overflow_add-q-in-loop-i-3 c =
    let turn = tiling_turn c.args.e c.args.t c.loop-i.i c.loop-i.invariant (omega arith) c.get-n.result c.get-n.ensures in
    omega (arith, tile-most c.args.e c.requires.0 turn, turn.room, c.requires.0.wide_many)

pub overflow_add-k : goal.overflow_add-k
overflow_add-k c = omega (arith, tiling_fits c.args.e c.args.t c.loop-i.i c.loop-i.invariant (omega arith) c.get-n.result c.get-n.ensures)

pub loop-i-preserved : goal.loop-i-preserved
loop-i-preserved c =
    let turn = c.loop-i in
    tiling_again c.args.e c.args.t turn.i turn.invariant (omega arith) c.get-n.result c.get-n.ensures _ _
    c.fill_colours.ensures.0 c.fill_colours.ensures.1

pub returns : goal.returns
returns c = tiling_end c.args.e c.args.t c.loop-i.i c.loop-i.invariant (omega arith)
