-- `run_hand_in::hand_in` meets its contract, refused or not. Assumes nothing.
use mathlib.Core.Path.{refl}
use Rattle.answer.proofs.Refusals.{never_done, passed_on}
use Rattle.run_hand_in.proofs.Laws.{refused, same-room, recorded, handed, accepted}
use Rattle.run_hand_in.proofs.hand_in.Goals as goal

pub returns-in_err-check_hand_in : goal.returns-in_err-check_hand_in
returns-in_err-check_hand_in c = rw (passed_on _ _ c.from_residual.ensures) (refused _ _ _ _ c.in_err-check_hand_in.ensures (never_done _))

pub copy-requires : goal.copy-requires
copy-requires c = same-room _ _ _ _ c.in_ok-check_hand_in.ensures refl

pub record_of-r-requires : goal.record_of-r-requires
record_of-r-requires c = recorded _ _ _ _ c.in_ok-check_hand_in.ensures refl

pub after_stop-next-requires : goal.after_stop-next-requires
after_stop-next-requires c = handed _ _ _ _ c.in_ok-check_hand_in.ensures refl _ c.copy.ensures _ c.record_of-r.ensures

pub write_record-requires : goal.write_record-requires
write_record-requires c = recorded _ _ _ _ c.in_ok-check_hand_in.ensures refl

pub returns : goal.returns
returns c =
    accepted _ _ _ _ c.in_ok-check_hand_in.ensures refl _ c.copy.ensures _ c.record_of-r.ensures _ _ _
    c.after_stop-next.ensures _ c.write_record.ensures
