-- What `train` writes for a job that a sheet holds. Definitions only. Assumes nothing.
use Rattle.std.specs.Prelude.{ℕ, ◌*◌, ◌≡◌, cond, true, List, eqb, length, replicate, Float}
use Rattle.job.specs.Job.{Job}
use Rattle.answer.specs.Rules.{Passed}
use Rattle.quantizer.specs.Course.{Course, course}
use Rattle.run_stages.specs.Calls.{job_rules}
use Rattle.sheet.specs.Sheets.{file_of}
use Rattle.fit_lines.specs.Lines.{refused_line}
use Rattle.train_run.specs.Training.{trained}
use Rattle.train_samples.specs.Refusal.{refusal_of}
use Rattle.train_samples.specs.Samples.{samples_to, units_to}

-- the job with one sample for each unit of count
unfoldable pub unit_course : Job → Course
unit_course J = course J (units_to J.tiles J.counts J.T) (samples_to J.tiles J.counts J.T)

-- the palette that training gives, from hints of 0
unfoldable pub trained_palette : Course → List Float
trained_palette K = (trained K (replicate K.job.T 0)).palette

-- the sheet with that palette in place of its own, in the same edition
unfoldable pub trained_file : Job → List ℕ
trained_file J = file_of J (trained_palette (unit_course J))

-- that sheet, or the line of a refusal
unfoldable pub job_text : Job → List ℕ
job_text J = cond (eqb (refusal_of (unit_course J).n) 0) (trained_file J) (refused_line (refusal_of (unit_course J).n))

-- ---- what is asked
-- a job with samples that every call of a run accepts, and a palette of its size
pub record Drawable (K : Course) (palette : List Float) : Type 0 where
  pub passed : Passed (job_rules K true)
  pub long : length palette ≡ 3 * (K.job.S * K.job.C)
