-- `read` meets its contract: what the first pass found decides, and a sheet that it accepts fits the room. Assumes nothing.
use mathlib.Core.Bool.{not}
use Prim.Native.Nat.{ℕ}
use mathlib.Core.Path.{◌≡◌, ap, ◌∙◌, subst⁻¹}
use mathlib.Core.List.{List}
use native.Mathlib.Omega.{arith}
use Rattle.job.specs.Job.{sizes_of}
use Rattle.sheet_format.specs.declared.Edition.{Edition}
use Rattle.sheet_format.specs.Sheet.{edition_of, read_sheet}
use Rattle.sheet_format.specs.Proper.{Proper}
use Rattle.sheet_format.proofs.Editions.{proper}
use Rattle.answer.specs.Refusals.{numbered_as}
use Rattle.answer.proofs.Refusals.{passed_on}
use Rattle.sheet_check.specs.Steps.{sound, checked_of}
use Rattle.sheet.proofs.Accepted.{Accepted, accepted_says}
use Rattle.sheet.proofs.Outcomes.{roomy_says, no_size, no_room, refused-out, accepted-out}
use Rattle.sheet.proofs.read.Goals as goal

pub returns-then-not-is_tile_size : goal.returns-then-not-is_tile_size
returns-then-not-is_tile_size c = no_size _ _ _ _ c.is_tile_size.ensures (ap not c.if-not-is_tile_size.true)

pub returns-then-not-has_room : goal.returns-then-not-has_room
returns-then-not-has_room c = no_room _ _ _ _ c.is_tile_size.ensures (ap not c.if-not-is_tile_size.false) _ c.has_room.ensures (ap not c.if-not-has_room.true)

-- the edition, as the code has it
is-proper : {E : Edition} (size : ℕ) → E ≡ edition_of size → Proper E
is-proper size e = subst⁻¹ Proper e (proper size)

pub check-requires : goal.check-requires
check-requires c = is-proper _ c.edition_of-e.ensures

-- what the first pass found
says : {E : Edition} (size : ℕ) → E ≡ edition_of size → (s : List ℕ) → {a b t w : ℕ} → sound a b t w ≡ checked_of (read_sheet E s) → Accepted E s a b t w
says size e s f = accepted_says _ (is-proper size e) s _ _ _ _ f

pub overflow_mul-n : goal.overflow_mul-n
overflow_mul-n c = let x = says _ c.edition_of-e.ensures c.args.bytes.now c.in_ok-found.ensures in omega (arith, x.few)

pub overflow_mul-n-2 : goal.overflow_mul-n-2
overflow_mul-n-2 c = let x = says _ c.edition_of-e.ensures c.args.bytes.now c.in_ok-found.ensures in omega (arith, x.few)

pub fill_components-requires : goal.fill_components-requires
fill_components-requires c =
    let x = says _ c.edition_of-e.ensures c.args.bytes.now c.in_ok-found.ensures in
    let y = roomy_says _ _ _ _ _ c.has_room.ensures (ap not c.if-not-has_room.false) in
    (x.long, omega (arith, x.few, y.palette), x.colours)

pub overflow_mul-p : goal.overflow_mul-p
overflow_mul-p c = let x = says _ c.edition_of-e.ensures c.args.bytes.now c.in_ok-found.ensures in omega (arith, x.few)

pub overflow_add-p : goal.overflow_add-p
overflow_add-p c = let x = says _ c.edition_of-e.ensures c.args.bytes.now c.in_ok-found.ensures in omega (arith, x.few)

pub fill_tiles-requires : goal.fill_tiles-requires
fill_tiles-requires c =
    let x = says _ c.edition_of-e.ensures c.args.bytes.now c.in_ok-found.ensures in
    let y = roomy_says _ _ _ _ _ c.has_room.ensures (ap not c.if-not-has_room.false) in
    (is-proper _ c.edition_of-e.ensures, x.long, omega (arith, x.tiles, y.tiles), omega (arith, x.fit, y.counts), omega (arith, x.fit, y.colours), omega (arith, x.fit), x.content)

pub weight-weight-requires : goal.weight-weight-requires
weight-weight-requires c = let x = says _ c.edition_of-e.ensures c.args.bytes.now c.in_ok-found.ensures in x.weight

pub returns-in_err-found : goal.returns-in_err-found
returns-in_err-found c =
    rw (passed_on _ _ c.from_residual.ensures)
    (refused-out _ _ _ _ c.is_tile_size.ensures (ap not c.if-not-is_tile_size.false) _ c.has_room.ensures (ap not c.if-not-has_room.false)
    _ c.edition_of-e.ensures (numbered_as c.in_err-found.field-0.0) c.in_err-found.ensures)

pub returns : goal.returns
returns c =
    let found = c.in_ok-found.found in
    accepted-out _ _ _ _ c.is_tile_size.ensures (ap not c.if-not-is_tile_size.false) _ c.has_room.ensures (ap not c.if-not-has_room.false)
    _ c.edition_of-e.ensures found.subs found.each found.tiles found.weight _ _ _ _ _
    (says _ c.edition_of-e.ensures c.args.bytes.now c.in_ok-found.ensures)
    (c.sizes_of.ensures ∙ ap (sizes_of c.args.size found.subs found.each found.tiles 0) c.weight-weight.ensures.0)
    c.fill_components.ensures
    c.fill_tiles.ensures.0 c.fill_tiles.ensures.1 c.fill_tiles.ensures.2
