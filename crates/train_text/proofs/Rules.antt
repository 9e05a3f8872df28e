-- A job that a sheet holds passes the checks of a run over its samples, and those of the writer with another palette. Assumes nothing.
use Prim.Native.Nat.{ℕ, ◌*◌, ◌≤◌}
use mathlib.Core.Path.{◌≡◌, refl}
use mathlib.Core.Bool.{true}
use mathlib.Core.List.{List, ◌++◌}
use native.Mathlib.Omega.{arith}
use lib.Dec.{ltb}
use lib.ListN.{length, get_or}
use lib.Ieee.{Float}
use borrow.Author.Tests.{eq-eqb, le-leb, lt-ltb}
use Rattle.lists.proofs.Tests.{and_i}
use Rattle.job.specs.Job.{Job, most_samples, two}
use Rattle.answer.specs.Rules.{Passed, numbered}
use Rattle.answer.proofs.Passing.{all_pass, passed-number}
use Rattle.job.specs.Checks.{components_fit, sample_test, sample_fits, samples_fit, tables, bound_rules, place_rules, plain_rules, plain_answer}
use Rattle.job.specs.Gives.{Ready}
use Rattle.job.proofs.Ready.{plain_ready}
use Rattle.job.proofs.Tiles.{counts-length, counts-placed}
use Rattle.quantizer.specs.Course.{course}
use Rattle.run_stages.specs.Calls.{job_rules}
use Rattle.lists.proofs.Loops.{every-all}
use Rattle.train_samples.specs.Samples.{units, samples_to, units_to, Countable}
use Rattle.train_samples.proofs.Numbers.{length-samples}
use Rattle.train_samples.proofs.Named.{sample_named}

module _ (J : Job) (p : List Float) (h : (plain_answer J p true).number ≡ 0) where
  passed : Passed (plain_rules J p true)
  unfolding plain_answer numbered
  passed = all_pass (plain_rules J p true) refl h

  ready : Ready J
  ready = (plain_ready J p true h).ready

  pub palette-long : length p ≡ 3 * (J.S * J.C)
  palette-long = (plain_ready J p true h).lent.room

  -- its tiles can be counted
  pub countable : Countable J.tiles J.counts J.T
  countable = record {
    few = ready.sizes.tiles;
    placed = λ i l. counts-placed J ready i l;
    short = λ i l. omega (arith, ready.sizes.small, ready.short i l, counts-length J ready i l);
    full = λ i l. unfold units in omega (arith, ready.sizes.small, ready.full i l);
  }

  -- with another palette
  pub repainted : (x : List Float) → length x ≡ 3 * (J.S * J.C) → components_fit two x ≡ true → (plain_answer J x true).number ≡ 0
  unfolding plain_answer
  repainted x long fit =
      let q = passed.1.1.1.1 in
      let r = q.1.1.1.1 in
      let near : Passed (tables J ++ bound_rules (J.S * J.C) x J.colours) = (r.0, (r.1.0, (r.1.1.0, (r.1.1.1.0, (fit, (r.1.1.1.1.1.0, tt)))))) in
      passed-number (plain_rules J x true)
      (passed.0, (passed.1.0, (passed.1.1.0, (passed.1.1.1.0, (q.0, (q.1.0, (eq-eqb (length x) (3 * (J.S * J.C)) long, (refl, near))))))))

  -- with its samples
  n : ℕ
  n = units_to J.tiles J.counts J.T

  all_named : samples_fit J.tiles J.T (samples_to J.tiles J.counts J.T) n ≡ true
  unfolding samples_fit sample_fits sample_test n
  all_named = every-all _ n (λ i l.
      let s = sample_named J.tiles J.counts J.T i l in
      and_i (ltb (get_or (samples_to J.tiles J.counts J.T) (2 * i) 0) J.T) _ (lt-ltb _ J.T s.0) (lt-ltb _ _ s.1))

  pub run-passed : 1 ≤ units_to J.tiles J.counts J.T → units_to J.tiles J.counts J.T ≤ most_samples
      → Passed (job_rules (course J (units_to J.tiles J.counts J.T) (samples_to J.tiles J.counts J.T)) true)
  unfolding n
  run-passed some few =
      let q = passed.1.1.1.1 in
      let r = q.1.1.1.1 in
      let paired = eq-eqb (length (samples_to J.tiles J.counts J.T)) (2 * n) (length-samples J.tiles J.counts J.T) in
      let placed : Passed (tables J ++ place_rules J.T J.tiles J.colours n (samples_to J.tiles J.counts J.T)) =
      (r.0, (r.1.0, (r.1.1.0, (r.1.1.1.0, (r.1.1.1.1.1.0, (all_named, tt)))))) in
      (passed.0, (passed.1.0, (passed.1.1.0, (passed.1.1.1.0, (le-leb n most_samples few, (q.0, (q.1.0, (paired, (refl, (le-leb 1 n some, placed))))))))))
