-- What an answer of 0 to a call with one tile says of the job. Assumes nothing.
use Prim.Native.Nat.{ℕ}
use mathlib.Core.Path.{◌≡◌, refl}
use mathlib.Core.List.{List}
use lib.Dec.{eqb}
use lib.Ieee.{Float}
use borrow.Author.Tests.{eqb-true}
use Rattle.answer.specs.Rules.{numbered, Passed}
use Rattle.answer.proofs.Passing.{all_pass, passed-number}
use Rattle.job.specs.Job.{Job}
use Rattle.job.specs.Checks.{plain_rules, plain_answer}
use Rattle.job.specs.Gives.{Plain}
use Rattle.job.proofs.Ready.{plain_ready}
use Rattle.fits_check.specs.One.{one_rules, one_answer}

module _ (J : Job) (palette : List Float) (n : ℕ) (z : (one_answer J palette n).number ≡ 0) where
  passed : Passed (one_rules J palette n)
  unfolding one_answer numbered
  passed = all_pass (one_rules J palette n) refl z

  pub one-tile : J.T ≡ 1
  one-tile = eqb-true J.T 1 passed.0

  pub one_plain : Plain J palette (eqb n J.T)
  unfolding plain_answer
  one_plain = plain_ready J palette (eqb n J.T) (passed-number (plain_rules J palette (eqb n J.T)) passed.1)
