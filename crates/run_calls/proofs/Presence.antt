-- At a place of a run some subpalettes and colours are present, and no more than there are; and places not in use keep theirs through a draw.
-- Assumes nothing.
use Prim.Native.Nat.{ℕ, ◌+◌, ◌*◌, ◌-◌, ◌≤◌, ◌<◌}
use mathlib.Core.Path.{◌≡◌}
use mathlib.Core.Logic.{◌⊎◌}
use native.Mathlib.Nat.{le_refl}
use native.Mathlib.Omega.{arith}
use lib.ListN.{length}
use lib.Dec.{eqb}
use borrow.Author.Tests.{eqb-true}
use Rattle.color.specs.Color.{colour_at, Bounded}
use Rattle.job.specs.Gives.{Ready}
use Rattle.palette_edit.specs.Edits.{place_of}
use Rattle.palette_tile.specs.Tiles.{Shown}
use Rattle.quantizer.specs.Course.{Course}
use Rattle.quantizer.proofs.Unused.{moved_unused}
use Rattle.run_stages.specs.State.{State}
use Rattle.run_stages.specs.Stages.{subs_of, have_of, draw, draw_with}
use Rattle.run_calls.proofs.Cases.{by-test, both}
use Rattle.run_calls.specs.Place.{seeding, growing, replacing, reducing, finishing, over, Placed}

module _ (K : Course) (S1 : 1 ≤ K.job.S) (C1 : 1 ≤ K.job.C) (s : State) where
  pub some-subs : 1 ≤ subs_of K.job.S s.rec
  unfolding subs_of
  some-subs = both (λ (x : ℕ). 1 ≤ x) (eqb s.rec.stage 0) (omega arith) S1

  pub some-colours : 1 ≤ have_of K.job.C s.rec
  unfolding have_of
  some-colours = both (λ (x : ℕ). 1 ≤ x) (eqb s.rec.stage 0) (omega arith) (both (λ (x : ℕ). 1 ≤ x) (eqb s.rec.stage 1) (omega arith) C1)

  pub seeding-rounds : Placed K s → s.rec.stage ≡ 0 → s.rec.rounds + 2 ≤ K.job.S
  seeding-rounds (seeding k r l e) h = omega arith
  seeding-rounds (growing k r l e) h = absurd (omega arith)
  seeding-rounds (replacing k r l e) h = absurd (omega arith)
  seeding-rounds (reducing k r l e) h = absurd (omega arith)
  seeding-rounds (finishing k r l e) h = absurd (omega arith)
  seeding-rounds (over k past r l e) h = absurd (omega arith)

  pub growing-rounds : Placed K s → s.rec.stage ≡ 1 → s.rec.rounds + 2 ≤ K.job.C
  growing-rounds (seeding k r l e) h = absurd (omega arith)
  growing-rounds (growing k r l e) h = omega arith
  growing-rounds (replacing k r l e) h = absurd (omega arith)
  growing-rounds (reducing k r l e) h = absurd (omega arith)
  growing-rounds (finishing k r l e) h = absurd (omega arith)
  growing-rounds (over k past r l e) h = absurd (omega arith)

  pub few-subs : Placed K s → subs_of K.job.S s.rec ≤ K.job.S
  unfolding subs_of
  few-subs p = by-test (λ (x : ℕ). x ≤ K.job.S) (eqb s.rec.stage 0) (λ t. seeding-rounds p (eqb-true s.rec.stage 0 t)) (λ _. le_refl K.job.S)

  pub few-colours : Placed K s → have_of K.job.C s.rec ≤ K.job.C
  unfolding have_of
  few-colours p =
      both (λ (x : ℕ). x ≤ K.job.C) (eqb s.rec.stage 0) C1
      (by-test (λ (x : ℕ). x ≤ K.job.C) (eqb s.rec.stage 1) (λ t. growing-rounds p (eqb-true s.rec.stage 1 t)) (λ _. le_refl K.job.C))

-- what a draw asks of the palette
pub draw-shown : (K : Course) → Ready K.job → (s : State) → Placed K s → length s.palette ≡ 3 * (K.job.S * K.job.C) → Bounded s.palette 4
    → Shown K.job s.palette (subs_of K.job.S s.rec) (have_of K.job.C s.rec)
draw-shown K R s p L B =
    record {
      ready = R;
      subs = some-subs K R.sizes.subs R.sizes.some s;
      most = few-subs K R.sizes.subs R.sizes.some s p;
      some = some-colours K R.sizes.subs R.sizes.some s;
      present = few-colours K R.sizes.subs R.sizes.some s p;
      room = L;
      bounded = B;
    }

pub draw_unused : (K : Course) (s : State) → Shown K.job s.palette (subs_of K.job.S s.rec) (have_of K.job.C s.rec) → (i c : ℕ) → c < K.job.C → (subs_of K.job.S s.rec ≤ i) ⊎ (have_of K.job.C s.rec ≤ c)
    → colour_at (draw K s).palette (place_of K.job.C i c) ≡ colour_at s.palette (place_of K.job.C i c)
unfolding draw draw_with
draw_unused K s H i c h u = moved_unused K.job s.palette (subs_of K.job.S s.rec) (have_of K.job.C s.rec) H _ _ _ i c h u
