-- A course of training: a job and its samples. Definitions only. Assumes nothing.
use Rattle.std.specs.Prelude.{ℕ, ◌+◌, ◌*◌, ◌/◌, List, [], get_or, Float}
use Rattle.color.specs.declared.Oklab.{Oklab}
use Rattle.color.specs.Color.{colour_at}
use Rattle.job.specs.declared.Sizes.{Sizes}
use Rattle.job.specs.declared.Job as lent
use Rattle.job.specs.Job.{Job, job_of, job_in, tile_of}
use Rattle.quantizer.specs.declared.Course as declared

-- n samples, two numbers each: a tile, and a colour by its place in that tile
pub record Course : Type 0 where
  pub job : Job
  pub n : ℕ
  pub samples : List ℕ

abbrev pub course : Job → ℕ → List ℕ → Course
course J n samples = record { job = J; n = n; samples = samples }

-- the course that a call's numbers and lists make
abbrev pub course_of : Sizes → List ℕ → List Float → List ℕ → List ℕ → Course
course_of z tiles colours counts samples = course (job_of z tiles colours counts) z.n samples

-- the course that is lent
abbrev pub course_in : declared.Course → Course
course_in c = course (job_in c.job) c.job.sizes.n c.samples.now

-- the course of a lent job without its samples
abbrev pub unsampled : lent.Job → Course
unsampled j = course (job_in j) j.sizes.n []

-- draws in a round: a tenth of the samples
abbrev pub b : Course → ℕ
b K = K.n / 10

abbrev pub sample_tile : Course → ℕ → ℕ
sample_tile K i = get_or K.samples (2 * i) 0

abbrev pub sample_place : Course → ℕ → ℕ
sample_place K i = get_or K.samples (2 * i + 1) 0

unfoldable pub sample_colour : Course → ℕ → Oklab
sample_colour K i = colour_at (tile_of K.job (sample_tile K i)) (sample_place K i)
