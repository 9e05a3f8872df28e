-- What seeking asks and leaves. Assumes nothing.
use Prim.Native.Nat.{ℕ, ◌+◌, ◌≤◌}
use mathlib.Core.Path.{◌≡◌, ◌∙◌}
use mathlib.Core.Logic.{◌≢◌}
use mathlib.Core.List.{List, []}
use native.Mathlib.Omega.{arith}
use lib.ListN.{length}
use lib.Ieee.{Float}
use Rattle.job.specs.Job.{Job}
use Rattle.palette_tile.specs.Tiles.{Shown, hints_of}
use Rattle.palette_tile.proofs.Hints.{length-hints}
use Rattle.quantizer.specs.Course.{Course}
use Rattle.quantizer.specs.Seeding.{worst_of}
use Rattle.quantizer.proofs.Indexes.{worst_below}
use Rattle.run_stages.specs.declared.Record.{Record}
use Rattle.run_stages.specs.State.{state_with}
use Rattle.run_stages.specs.Stages.{noticed}
use Rattle.run_keeping.specs.Closing.{Whole}
use Rattle.run_round.specs.Seeds.{Sought}

module _ (J : Job) (h : List ℕ) (p : List Float) (r : Record) (A : Whole J h p) (more : r.rounds + 2 ≤ J.S) where
  pub shown : Shown J p (r.rounds + 2) 1
  shown =
      let A1 = A.shown in
      record { ready = A1.ready; subs = omega arith; most = more; some = omega arith; present = A1.ready.sizes.some; room = A1.room; bounded = A1.bounded }

  pub still_each : (h2 : List ℕ) → h2 ≡ hints_of J p (r.rounds + 2) 1 h J.T → length h2 ≡ J.T
  still_each h2 e = rw e (length-hints J p (r.rounds + 2) 1 h J.T ∙ A.each)

pub sought : (J : Job) (h : List ℕ) (p : List Float) (r : Record) (A : Whole J h p) (more : r.rounds + 2 ≤ J.S) (from : ℕ) (h2 : List ℕ) → r.stage ≡ 0 → from ≡ worst_of J p (r.rounds + 2)
    → h2 ≡ hints_of J p (r.rounds + 2) 1 h J.T → Sought J h p r from h2
sought J h p r A more from h2 z f e =
    record {
      found = λ _. f;
      hinted = λ _. e;
      idle = λ (n : r.stage ≢ 0). absurd (n z);
      source = rw f (omega (arith, worst_below J p (r.rounds + 2) (shown J h p r A more)));
    }

pub hinted : (K : Course) (h : List ℕ) (p l : List Float) (r : Record) (h2 : List ℕ) → h2 ≡ hints_of K.job p (r.rounds + 2) 1 h K.job.T → state_with [] h2 p l r ≡ noticed K (r.rounds + 2) 1 (state_with [] h p l r)
unfolding noticed
hinted K h p l r h2 eh = rw eh
