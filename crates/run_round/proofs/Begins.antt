-- The state that a start begins with is sound, and so is its first round, which stands at a place of the record. Assumes nothing.
use mathlib.Core.Path.{◌≡◌, subst⁻¹}
use Rattle.quantizer.specs.Course.{Course}
use Rattle.run_stages.specs.State.{State}
use Rattle.run_calls.specs.Place.{Placed}
use Rattle.run_calls.proofs.Place.{first-placed}
use Rattle.run_calls.specs.Sound.{Sound}
use Rattle.run_calls.proofs.Sound.{fresh-sound, first-sound}
use Rattle.run_round.specs.Settles.{Standing}
use Rattle.run_round.specs.First.{first_round, Beginning}

module _ (K : Course) (s : State) (B : Beginning K s) where
  pub sound : Sound K s
  sound = subst⁻¹ (Sound K) B.same (fresh-sound K B.room B.passed B.seed s.hints B.each)

  -- what the first round and the settling ask
  pub standing : (x : State) → x ≡ first_round K s → Standing K x
  unfolding first_round
  standing x e =
      let R = B.passed.ready in
      subst⁻¹ (Standing K) e
      (record {
        ready = R;
        place = subst⁻¹ (λ (y : State). Placed K (first_round K y)) B.same (first-placed K R.sizes.subs R.sizes.some B.seed s.hints);
        sound = subst⁻¹ (λ (y : State). Sound K (first_round K y)) B.same (first-sound K B.room B.passed B.seed s.hints B.each);
      })
