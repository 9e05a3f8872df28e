-- Memory that the calls of a run accept. Assumes nothing.
use Rattle.std.specs.Prelude.{◌≡◌, true, ◌*◌, length}
use Rattle.answer.specs.Rules.{Passed}
use Rattle.quantizer.specs.Course.{Course}
use Rattle.run_stages.specs.Calls.{Memory, record_words, state_of, job_rules}
use Rattle.run_calls.specs.Fit.{Fit}

-- the lengths of the memory lent
pub record Roomy (K : Course) (m : Memory) : Type 0 where
  pub order : length m.order ≡ K.n
  pub hints : length m.hints ≡ K.job.T
  pub palette : length m.palette ≡ 3 * (K.job.S * K.job.C)
  pub least : length m.least ≡ 3 * (K.job.S * K.job.C)
  pub words : length m.words ≡ record_words

-- ---- a memory that every check but the moment's accepts
pub record Accepted (K : Course) (m : Memory) : Type 0 where
  pub passed : Passed (job_rules K true)
  pub roomy : Roomy K m
  pub fit : Fit K (state_of m)
