-- `write` meets its contract: the job's refusals first, then the size, then the room. Assumes nothing.
use Prim.Native.Nat.{ℕ}
use mathlib.Core.Path.{◌≡◌, refl, subst⁻¹}
use native.Mathlib.Omega.{arith}
use Rattle.answer.specs.Refusals.{nothing}
use Rattle.answer.proofs.Refusals.{never_done, passed_on}
use borrow.Author.Rules.{rules}
use lib.ListN.{length}
use Rattle.sheet_format.specs.declared.Edition.{Edition}
use Rattle.sheet_format.specs.Sheet.{edition_of}
use Rattle.sheet_format.specs.Proper.{Proper}
use Rattle.sheet_format.proofs.Editions.{proper, tiles-most}
use Rattle.sheet_room.proofs.Places.{placed}
use Rattle.sheet.proofs.Files.{job-refused, passed, no_place, file_written}
use Rattle.sheet.proofs.write.Goals as goal

pub returns-in_err-check_job : goal.returns-in_err-check_job
returns-in_err-check_job c =
    rw (passed_on _ _ c.from_residual.ensures) (job-refused _ _ c.args.dst.now _ c.in_err-check_job.ensures (never_done _))

-- the edition, as the code has it
is-proper : {E : Edition} (size : ℕ) → E ≡ edition_of size → Proper E
is-proper size e = subst⁻¹ Proper e (proper size)

pub size_of-size-requires : goal.size_of-size-requires
size_of-size-requires c =
    let R = (passed _ _ c.args.dst.now _ c.in_ok-check_job.ensures refl).ready in
    (is-proper _ c.edition_of-e.ensures, R.sizes.cells, R.sizes.tiles, R.total)

pub bytes_for-n-requires : goal.bytes_for-n-requires
bytes_for-n-requires c =
    let a = c.args in
    let R = (passed _ _ c.args.dst.now _ c.in_ok-check_job.ensures refl).ready in
    let most = tiles-most c.edition_of-e.result (is-proper _ c.edition_of-e.ensures) a.job.now.sizes.t (length a.job.now.counts.now) in
    omega (arith, c.size_of-size.ensures, most, R.sizes.cells, R.sizes.tiles, R.total)

pub returns-in_err-place_for : goal.returns-in_err-place_for
returns-in_err-place_for c =
    rw (passed_on _ _ c.from_residual-in_err-place_for.ensures)
    (no_place _ _ c.args.dst.now _ c.in_ok-check_job.ensures refl _ c.edition_of-e.ensures c.size_of-size.result
    c.bytes_for-n.result c.size_of-size.ensures c.bytes_for-n.ensures _ c.in_err-place_for.ensures (never_done _))

pub pack_sheet-requires : goal.pack_sheet-requires
pack_sheet-requires c =
    let P = passed _ _ c.args.dst.now _ c.in_ok-check_job.ensures refl in
    let k = placed c.bytes_for-n.result _ nothing c.in_ok-place_for.ensures refl in
    (is-proper _ c.edition_of-e.ensures, P.ready, P.lent, c.size_of-size.ensures, omega (arith, c.bytes_for-n.ensures), omega (arith, c.bytes_for-n.ensures))

pub returns : goal.returns
returns c =
    let k = placed c.bytes_for-n.result _ nothing c.in_ok-place_for.ensures refl in
    file_written _ _ c.args.dst.now _ c.in_ok-check_job.ensures refl _ c.edition_of-e.ensures c.size_of-size.result
    c.bytes_for-n.result c.size_of-size.ensures c.bytes_for-n.ensures _ k.0 k.1
    (λ i. search rules) (λ i. search rules)
    c.pack_sheet.auto.dst c.pack_sheet.ensures
