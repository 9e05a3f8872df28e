-- Memory of a run that is sound, beside the record's words 1 to 4: lengths, bounds, order entries, hints, the least palette. Assumes nothing.
use Rattle.std.specs.Prelude.{◌≡◌, ◌≢◌, List, ℕ, ◌*◌, ◌<◌, length, get_or, Float}
use Rattle.color.specs.Color.{Bounded}
use Rattle.quantizer.specs.Course.{Course}
use Rattle.run_stages.specs.State.{State}

-- a palette of the job's size, within 4
pub record Held (K : Course) (pal : List Float) : Type 0 where
  pub size : length pal ≡ 3 * (K.job.S * K.job.C)
  pub bound : Bounded pal 4

-- n entries, each below n
pub record Dealt (n : ℕ) (order : List ℕ) : Type 0 where
  pub size : length order ≡ n
  pub below : (i : ℕ) → i < length order → get_or order i 0 < n

-- word 5 and the second palette: in stage 2 an error and a palette, elsewhere 0 and any
pub data Second (K : Course) (k e : ℕ) (p : List Float) : Type 0 where
  in2 : k ≡ 2 → e < 0x7f800000 → Bounded p 4 → Second K k e p
  out2 : k ≢ 2 → e ≡ 0 → Second K k e p

pub record Sound (K : Course) (s : State) : Type 0 where
  pub held : Held K s.palette
  pub room : length s.least ≡ 3 * (K.job.S * K.job.C)
  pub second : Second K s.rec.stage s.rec.error s.least
  pub hints : length s.hints ≡ K.job.T
  pub dealt : Dealt K.n s.order
