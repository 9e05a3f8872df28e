-- `check` meets its contract: the head's faults come first, then those of the palette and the tiles, then what is left behind them. Assumes nothing.
use Prim.Native.Nat.{◌*◌}
use mathlib.Core.Path.{sym, ap, ◌∙◌}
use mathlib.Core.Bool.{true, false}
use native.Mathlib.Omega.{arith}
use Rattle.sheet_colours.proofs.Turns.{read_at}
use Rattle.std.specs.Prelude.{Err}
use Rattle.sheet_format.specs.Sheet.{rest}
use Rattle.sheet_format.proofs.Exact.{rest_lawful}
use Rattle.sheet_format.proofs.Light.{rest_light}
use Rattle.sheet_colours.specs.Steps.{stopped, number_of}
use Rattle.sheet_check.proofs.Whole.{headed_of, parted_of, read-rest, read_end}
use Rattle.sheet_check.proofs.check.Goals as goal

-- the head that was read sizes the palette
pub overflow_mul-n : goal.overflow_mul-n
overflow_mul-n c =
    let a = c.args in let x = c.in_ok-found.found in
    let h = headed_of a.e a.s.now x.subs x.each x.tiles x.weight c.in_ok-found.ensures in
    omega (arith, h.cells)

pub overflow_mul-n-2 : goal.overflow_mul-n-2
overflow_mul-n-2 c =
    let a = c.args in let x = c.in_ok-found.found in
    let h = headed_of a.e a.s.now x.subs x.each x.tiles x.weight c.in_ok-found.ensures in
    omega (arith, h.cells)

pub overflow_cast-n : goal.overflow_cast-n
overflow_cast-n c =
    let a = c.args in let x = c.in_ok-found.found in
    let h = headed_of a.e a.s.now x.subs x.each x.tiles x.weight c.in_ok-found.ensures in
    omega (arith, h.cells)

pub palette_then_tiles-requires : goal.palette_then_tiles-requires
palette_then_tiles-requires c =
    let a = c.args in let x = c.in_ok-found.found in
    let h = headed_of a.e a.s.now x.subs x.each x.tiles x.weight c.in_ok-found.ensures in
    (c.requires, omega arith, h.long)

-- and the palette and the tiles stand behind it
pub only_spare-requires : goal.only_spare-requires
only_spare-requires c =
    let a = c.args in let x = c.in_ok-found.found in
    let h = headed_of a.e a.s.now x.subs x.each x.tiles x.weight c.in_ok-found.ensures in
    let parts = parted_of a.e a.s.now (3 * (x.subs * x.each)) x.tiles c.in-Ok.at h.long c.in-Ok.ensures in
    (omega arith, parts.reach)

pub returns-in-Err : goal.returns-in-Err
returns-in-Err c =
    let a = c.args in let x = c.in_ok-found.found in
    let h = headed_of a.e a.s.now x.subs x.each x.tiles x.weight c.in_ok-found.ensures in
    let fault = c.in-Err.fault in
    ap Err c.fault_of.ensures
    ∙ read-rest a.e a.s.now (omega arith) x.subs x.each x.tiles x.weight _ h.reads (number_of fault.kind) fault.passed
    (read_at (rest a.e (3 * (x.subs * x.each)) x.tiles) (rest_lawful a.e (3 * (x.subs * x.each)) x.tiles) (rest_light a.e (3 * (x.subs * x.each)) x.tiles) a.s.now 86 h.long (stopped (number_of fault.kind) fault.passed) c.in-Err.ensures).0

pub returns-then-only_spare : goal.returns-then-only_spare
returns-then-only_spare c =
    let a = c.args in let x = c.in_ok-found.found in
    let h = headed_of a.e a.s.now x.subs x.each x.tiles x.weight c.in_ok-found.ensures in
    let parts = parted_of a.e a.s.now (3 * (x.subs * x.each)) x.tiles c.in-Ok.at h.long c.in-Ok.ensures in
    read_end a.e a.s.now (omega arith) x.subs x.each x.tiles x.weight _ h.reads parts.parts _ true parts.reads
    (sym c.only_spare.ensures ∙ c.if-only_spare.true)

pub returns-else-only_spare : goal.returns-else-only_spare
returns-else-only_spare c =
    let a = c.args in let x = c.in_ok-found.found in
    let h = headed_of a.e a.s.now x.subs x.each x.tiles x.weight c.in_ok-found.ensures in
    let parts = parted_of a.e a.s.now (3 * (x.subs * x.each)) x.tiles c.in-Ok.at h.long c.in-Ok.ensures in
    read_end a.e a.s.now (omega arith) x.subs x.each x.tiles x.weight _ h.reads parts.parts _ false parts.reads
    (sym c.only_spare.ensures ∙ c.if-only_spare.false)
