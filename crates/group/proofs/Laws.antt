-- Laws of the whole call. Assumes nothing.
use Prim.Native.Nat.{ℕ, ◌≤◌}
use mathlib.Core.Path.{◌≡◌, refl, sym, ◌∙◌, ap}
use mathlib.Core.Bool.{Bool, true, false, cond}
use native.Mathlib.Omega.{arith}
use lib.Dec.{leb}
use borrow.Author.Tests.{leb-true}
use Rattle.lists.proofs.Tests.{and_l, and_r}
use Rattle.std.specs.Prelude.{Ok, Err}
use Rattle.answer.specs.Refusals.{Answered, refusal}
use Rattle.answer.specs.Outcome.{outcome}
use Rattle.answer.proofs.Outcomes.{was_refused, was_done}
use Rattle.job.specs.Job.{most_tile_size}
use Rattle.job.specs.Checks.{tile_sized}
use Rattle.job.proofs.Ready.{tile-bound}
use Rattle.group_refusal.specs.Refusal.{Pixels, EntryRoom, first_of, fault, pixels_fit, refusal_where, group_answer}
use Rattle.group.specs.Turn.{Filled, filled}
use Rattle.group.specs.Entries.{fill_to}
use Rattle.group.specs.Group.{grouping}

accept : (a b : Bool) (v : Answered) → (cond a (cond b v (refusal 3 0)) (refusal 2 0)).number ≡ 0 → (a ≡ true) × (b ≡ true)
accept true true v e = (refl, refl)
accept true false v e = absurd (omega arith)
accept false b v e = absurd (omega arith)

-- what is not refused fits
pub accepted : (size : ℕ) (q : Pixels) (fits : Bool) (r : Answered) → r ≡ refusal_where size q fits → r.number ≡ 0 → (q.p ≤ most_tile_size) × (fits ≡ true)
unfolding refusal_where pixels_fit
accepted size q fits r e z =
    let a = accept (pixels_fit size q.p) fits (first_of (fault q.bytes q.oklab q.zero) 0 q.p) (ap (λ (x : Answered). x.number) (sym e) ∙ z) in
    let few = leb-true q.p size (and_r (tile_sized size) (leb q.p size) a.0) in
    (omega (arith, tile-bound size (and_l (tile_sized size) (leb q.p size) a.0)), a.1)

module _ (size : ℕ) (q : Pixels) (m : EntryRoom) where
  -- a refusal writes nothing
  pub stop : (r : Answered) → r ≡ group_answer size q m → (r.number ≡ 0 → ⊥) → outcome (Err r) m ≡ grouping size q m
  unfolding grouping
  stop r e n = was_refused r _ e _ Err m n

  pub done : (r : Answered) (n : ℕ) (after : EntryRoom) → r ≡ group_answer size q m → r.number ≡ 0 → filled n after ≡ fill_to q q.p m → outcome (Ok n) after ≡ grouping size q m
  unfolding grouping fill_to
  done r n after e z f = was_done r _ e _ Err m z _ (ap (λ (g : Filled). outcome (Ok g.entries) g.memory) f)
