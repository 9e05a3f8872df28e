-- `pack_sheet` meets its contract: head, palette, tiles and spare bits, one after another. Assumes nothing.
use Prim.Native.Nat.{ℕ, ◌-◌, ◌*◌}
use mathlib.Core.Path.{ap}
use native.Mathlib.Omega.{arith}
use Rattle.bits.proofs.Bytes.{length-bits}
use Rattle.ieee.proofs.Bounds.{within_real}
use Rattle.job.specs.Job.{job_in}
use Rattle.sheet_whole.proofs.Whole.{sheet-done}
use Rattle.sheet_whole.proofs.pack_sheet.Goals as goal

pub float_to_bits-job : goal.float_to_bits-job
float_to_bits-job c = within_real c.args.job.now.sizes.weight 16 1 c.requires.1.heavy

pub returns : goal.returns
returns c =
    let a = c.args in
    sheet-done a.e (job_in a.job.now) c.requires.1 a.palette.now c.requires.2
    _ _ _ _ _ a.size (8 * c.bytes_for.result - a.size) c.requires.3 (rw length-bits (omega arith))
    (ap (λ (n : ℕ). 8 * n - a.size) c.bytes_for.ensures)
    c.pack_head.ensures c.pack_components.ensures c.pack_tiles.ensures c.put.ensures
