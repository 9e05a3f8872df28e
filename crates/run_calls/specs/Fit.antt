-- What a call may be handed: a run of the job's sizes, at a place of its record with nothing due, whose memory is sound. Assumes nothing.
use Rattle.std.specs.Prelude.{◌≡◌}
use Rattle.quantizer.specs.Course.{Course}
use Rattle.run_stages.specs.State.{State}
use Rattle.run_stages.specs.Record.{sizes_word}
use Rattle.run_calls.specs.Place.{Rests}
use Rattle.run_calls.specs.Sound.{Sound}

pub record Fit (K : Course) (s : State) : Type 0 where
  pub sizes : s.rec.sizes ≡ sizes_word K
  pub rests : Rests K s
  pub sound : Sound K s
