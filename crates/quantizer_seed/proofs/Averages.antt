-- A course that passed has samples to average, and their mean, written first, is the first colour. Assumes nothing.
use Prim.Native.Nat.{◌/◌}
use mathlib.Core.Path.{◌≡◌, ap, ◌∙◌}
use mathlib.Core.List.{List}
use native.Mathlib.Omega.{arith}
use lib.ListN.{length}
use lib.Ieee.{Float}
use Rattle.color.specs.declared.Oklab.{Oklab}
use Rattle.color.specs.Color.{put_at, mean_of}
use Rattle.quantizer.specs.Course.{Course, sample_colour}
use Rattle.quantizer.specs.Seeding.{seed_mean, seeded}
use Rattle.quantizer_sample.proofs.Course.{told}
use Rattle.quantizer_seed.specs.Seeds.{Averaging, Seeding}

module _ (K : Course) (pal : List Float) (D : Seeding K pal) where
  pairs : length K.samples / 2 ≡ K.n
  pairs = omega (arith, D.sampling.passed.pairs)

  pub averaging : Averaging K.job.tiles K.job.colours K.samples
  averaging =
      record {
        some = omega (arith, pairs, D.sampling.passed.some);
        few = omega (arith, pairs, D.sampling.passed.few);
        told = λ i l. told K i D.sampling (omega (arith, pairs));
      }

  pub seed-done : (after : List Float) (mean : Oklab) → mean ≡ mean_of (sample_colour K) (length K.samples / 2) → after ≡ put_at pal 0 mean → after ≡ seeded K pal
  unfolding seeded seed_mean
  seed-done after mean e f = f ∙ ap (put_at pal 0) (e ∙ ap (mean_of (sample_colour K)) pairs)
