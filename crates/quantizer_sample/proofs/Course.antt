-- The samples of a course that passed: each names a tile that is not empty and a colour of it. Assumes nothing.
use Prim.Native.Nat.{ℕ, ◌≤◌, ◌<◌}
use native.Mathlib.Omega.{arith}
use Rattle.job.specs.Job.{size_of}
use Rattle.job.proofs.Tiles.{colours-placed}
use Rattle.quantizer.specs.Course.{Course, sample_tile}
use Rattle.quantizer_sample.specs.Samples.{Told, Sampling}

module _ (K : Course) (i : ℕ) (D : Sampling K) (l : i < K.n) where
  pub told : Told K.job.tiles K.job.colours K.samples i
  told =
      record {
        listed = omega (arith, D.passed.pairs);
        tile = colours-placed K.job D.passed.ready (sample_tile K i) (D.passed.tile i l);
        place = D.passed.place i l;
      }

  pub tile-full : 1 ≤ size_of K.job.tiles (sample_tile K i)
  tile-full = omega (arith, D.passed.place i l)
