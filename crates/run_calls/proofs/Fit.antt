-- What a call may be handed: a run of the job's sizes, at a place of its record with nothing due, whose memory is sound. Every call keeps it.
-- Assumes nothing.
use mathlib.Core.Path.{◌≡◌, ◌∙◌}
use mathlib.Core.Bool.{Bool, true, false}
use mathlib.Core.Logic.{◌≢◌}
use mathlib.Core.List.{List}
use Prim.Native.Nat.{ℕ, ◌≤◌}
use lib.ListN.{length}
use lib.Ieee.{Float}
use Rattle.job.specs.Gives.{Sampled}
use Rattle.quantizer.specs.Course.{Course}
use Rattle.run_stages.specs.State.{State, draws}
use Rattle.run_stages.specs.Stages.{draw, going, step, advance, start, hand_in}
use Rattle.run_calls.proofs.Whilsts.{whilst_keeps}
use Rattle.run_calls.proofs.Place.{step-rests, start-rests, hand_in-rests}
use Rattle.run_calls.proofs.Made.{step-sizes, start-sizes, hand_in-sizes}
use Rattle.run_calls.specs.Sound.{Held}
use Rattle.run_calls.proofs.Sound.{settle-sound, draw-sound, start-sound, hand_in-sound}
use Rattle.run_calls.specs.Fit.{Fit}

module _ (K : Course) (given : Bool) (D : Sampled K.job K.n K.samples given) where
  pub step-fit : (s : State) → Fit K s → draws s.rec.stage ≡ true → Fit K (step K s)
  unfolding step
  step-fit s F d =
      record {
        sizes = step-sizes K s ∙ F.sizes;
        rests = step-rests K D.ready.sizes.subs D.ready.sizes.some s F.rests d;
        sound = settle-sound K D.ready (draw K s) (draw-sound K given D s F.rests.place F.sound);
      }

  pub advance-fit : (a : ℕ) (s : State) → Fit K s → Fit K (advance K a s)
  advance-fit a s F = whilst_keeps going (step K) (Fit K) step-fit a s F

  pub start-fit : (seed : ℕ) (hints : List ℕ) → length hints ≡ K.job.T → Fit K (start K seed hints)
  start-fit seed hints h = record { sizes = start-sizes K seed hints; rests = start-rests K D.ready.sizes.subs D.ready.sizes.some seed hints; sound = start-sound K given D seed hints h }

  pub hand_in-fit : (reduced : List Float) (s : State) → Held K reduced → Fit K s → draws s.rec.stage ≡ false → s.rec.stage ≤ 6 → s.rec.stage ≢ 2 → Fit K (hand_in K reduced s)
  hand_in-fit reduced s H F d l n =
      record {
        sizes = hand_in-sizes K reduced s ∙ F.sizes;
        rests = hand_in-rests K D.ready.sizes.subs D.ready.sizes.some reduced s F.rests d l;
        sound = hand_in-sound K D.ready reduced s H F.sound n;
      }
