-- `train` meets its contract: a refusal's line, or what is written for the job that was read. Assumes nothing.
use mathlib.Core.Path.{ap}
use native.Mathlib.Omega.{arith}
use Rattle.answer.specs.Refusals.{numbered_as, by_number}
use Rattle.sheet.proofs.Files.{are_bytes_lem}
use Rattle.sheet_parts.proofs.Readings.{lengths}
use Rattle.sheet_parts.proofs.Texts.{held, refused-text, front_text, nothing-told, told}
use Rattle.train_text.specs.Trained.{job_text}
use Rattle.fit_lines.proofs.Lengths.{refused-most}
use Rattle.train_text.proofs.train.Goals as goal

pub returns-then-out-lt-MOST_BYTES : goal.returns-then-out-lt-MOST_BYTES
returns-then-out-lt-MOST_BYTES c = nothing-told _ _ _ c.if-out-lt-MOST_BYTES.true

-- the room that there is for any sheet, and what the caller lent
pub put_job-requires : goal.put_job-requires
put_job-requires c =
    let bytes = are_bytes_lem c.args.bytes.now (λ i. omega (arith, c.type_inv.bytes i)) in
    let rooms = lengths c.room-tiles.ensures.0 c.room-colours.ensures.0 c.room-counts.ensures.0 c.room-palette.ensures.0 in
    (held _ _ c.size_in-size.ensures _ rooms _ _ c.read.ensures bytes c.in-Ok.z (ap by_number c.in-Ok.is), c.if-out-lt-MOST_BYTES.false)

pub returns-in-Err : goal.returns-in-Err
returns-in-Err c =
    let line = c.put_refused in
    let rooms = lengths c.room-tiles.ensures.0 c.room-colours.ensures.0 c.room-counts.ensures.0 c.room-palette.ensures.0 in
    told _ _ _ _ _ c.if-out-lt-MOST_BYTES.false (refused-text _ _ c.size_in-size.ensures _ rooms _ _ c.read.ensures (λ J p. job_text J) _ _ _ (numbered_as c.in-Err.e) (ap by_number c.in-Err.is)
    (rw c.number.ensures at line.ensures))
    (omega (arith, line.ensures.place, refused-most c.number.result)) line.auto.out

pub returns-in-Ok : goal.returns-in-Ok
returns-in-Ok c =
    let lines = c.put_job in
    let bytes = are_bytes_lem c.args.bytes.now (λ i. omega (arith, c.type_inv.bytes i)) in
    let rooms = lengths c.room-tiles.ensures.0 c.room-colours.ensures.0 c.room-counts.ensures.0 c.room-palette.ensures.0 in
    told _ _ _ _ _ c.if-out-lt-MOST_BYTES.false (front_text _ _ c.size_in-size.ensures _ rooms _ _ c.read.ensures (λ J p. job_text J) _ _ _ bytes c.in-Ok.z (ap by_number c.in-Ok.is)
    lines.ensures.0)
    lines.ensures.1 lines.auto.out
