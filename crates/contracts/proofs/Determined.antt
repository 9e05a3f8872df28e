-- Number and index are of one refusal, so what a caller sees of an answer is of that answer alone. Assumes nothing.
use Prim.Native.Nat.{ℕ}
use mathlib.Core.Path.{◌≡◌, refl, sym, ap}
use mathlib.Core.List.{List}
use lib.Ieee.{Float}
use Rattle.std.specs.Prelude.{Result, Ok, Err}
use Rattle.job.specs.declared.Sizes.{Sizes}
use Rattle.stats.specs.declared.Near.{Near}
use Rattle.stats.specs.declared.Two.{Two}
use Rattle.answer.specs.declared.Refusal.{Refusal}
use Rattle.answer.specs.Refusals.{Answered}
use Rattle.answer.specs.Outcome.{Outcome}
use Rattle.answer.proofs.Refusals.{never_done, refusal_alone, answer_alone, done_alone}
use Rattle.assign_tiles.specs.Tiles.{TileMemory}
use Rattle.group_refusal.specs.Refusal.{EntryRoom}
use Rattle.run_stages.specs.Calls.{Memory, Advanced, advanced_as}
use Rattle.sheet.specs.Sheets.{Room}
use Rattle.contracts.specs.Calls.{Determined}

drawn_alone : (x y : Result ℕ Refusal) → advanced_as x ≡ advanced_as y → x ≡ y
drawn_alone (Ok n) (Ok m) e = ap Ok (ap (λ (z : Advanced). z.draws) e)
drawn_alone (Ok n) (Err r) e = absurd (never_done r (sym (ap (λ (z : Advanced). z.refusal.number) e)))
drawn_alone (Err r) (Ok n) e = absurd (never_done r (ap (λ (z : Advanced). z.refusal.number) e))
drawn_alone (Err r) (Err q) e = ap Err (refusal_alone r q (ap (λ (z : Advanced). z.refusal) e))

pub determined : Determined
determined =
    record {
      start = λ κs a r q e d h. done_alone (λ u v. refl) r q (ap (λ (x : Outcome Answered Memory). x.answer) h);
      advance = λ κs a r q e d h. drawn_alone r q (ap (λ (x : Outcome Advanced Memory). x.answer) h);
      hand_in = λ κs a r q e d h. done_alone (λ u v. refl) r q (ap (λ (x : Outcome Answered Memory). x.answer) h);
      result = λ κs a r q e d h. done_alone (λ u v. refl) r q (ap (λ (x : Outcome Answered (List Float)). x.answer) h);
      single_fit = λ κs a r q e d h. answer_alone r q (ap (λ (x : Outcome (Result Near Answered) (List ℕ)). x.answer) h);
      best_two = λ κs a r q e d h. answer_alone r q (ap (λ (x : Outcome (Result Two Answered) (List ℕ)). x.answer) h);
      assign = λ κs a r q e d h. done_alone (λ u v. refl) r q (ap (λ (x : Outcome Answered TileMemory). x.answer) h);
      grouping = λ κs a r q e d h. answer_alone r q (ap (λ (x : Outcome (Result ℕ Answered) EntryRoom). x.answer) h);
      read = λ κs a r q e d h. answer_alone r q (ap (λ (x : Outcome (Result Sizes Answered) Room). x.answer) h);
      write = λ κs a r q e d h. answer_alone r q (ap (λ (x : Outcome (Result ℕ Answered) (List ℕ)). x.answer) h);
    }
