-- The sizes of a call by themselves, as a course of empty tables: the record's rules read nothing else. Definitions only. Assumes nothing.
use Rattle.std.specs.Prelude.{◌≤◌, []}
use Rattle.job.specs.declared.Sizes.{Sizes}
use Rattle.job.specs.Job.{most_samples}
use Rattle.job.specs.Gives.{InRange}
use Rattle.quantizer.specs.Course.{Course, course_of}

abbrev pub plain : Sizes → Course
plain z = course_of z [] [] [] []

-- within their limits
pub record Sized (z : Sizes) : Type 0 where
  pub range : InRange z.size z.s z.c z.t
  pub short : z.n ≤ most_samples
