-- `run_start::start` meets its contract, refused or not. Assumes nothing.
use mathlib.Core.Path.{refl}
use Rattle.answer.proofs.Refusals.{never_done, passed_on}
use Rattle.run_start.proofs.Laws.{refused, passed, can_blank, can_deal, recorded, beginning, accepted}
use Rattle.run_start.proofs.start.Goals as goal

pub returns-in_err-check_start : goal.returns-in_err-check_start
returns-in_err-check_start c = rw (passed_on _ _ c.from_residual.ensures) (refused _ _ _ _ c.in_err-check_start.ensures (never_done _))

pub blank-requires : goal.blank-requires
blank-requires c = can_blank _ _ 0 _ c.in_ok-check_start.ensures refl

pub deal-r-requires : goal.deal-r-requires
deal-r-requires c =
    let job = passed _ _ 0 _ c.in_ok-check_start.ensures refl in
    (record { range = job.ready.sizes; short = job.few }, can_deal _ _ 0 _ c.in_ok-check_start.ensures refl)

pub set_out-next-requires : goal.set_out-next-requires
set_out-next-requires c = beginning _ _ _ _ c.in_ok-check_start.ensures refl _ _ c.blank.ensures _ _ c.deal-r.ensures

pub write_record-requires : goal.write_record-requires
write_record-requires c = recorded _ _ 0 _ c.in_ok-check_start.ensures refl

pub returns : goal.returns
returns c =
    accepted _ _ _ _ c.in_ok-check_start.ensures refl _ _ c.blank.ensures _ _ c.deal-r.ensures _ _ _ _
    c.set_out-next.ensures _ c.write_record.ensures
