-- Which number a number of samples is refused with, and what one is that is not refused. Assumes nothing.
use Prim.Native.Nat.{ℕ, ◌≤◌, ◌<◌}
use mathlib.Core.Path.{◌≡◌, refl, ◌∙◌}
use mathlib.Core.Bool.{Bool, true, false, cond}
use mathlib.Core.Logic.{◌≢◌}
use native.Mathlib.Omega.{arith}
use lib.Dec.{leb, eqb}
use borrow.Author.Tests.{eqb-false, leb-true, eq-eqb, ne_eqb, le-leb, lt-leb}
use Rattle.job.specs.Job.{most_samples}
use Rattle.train_samples.specs.Refusal.{refusal_of}

abbrev by_tests : Bool → Bool → ℕ
by_tests none few = cond none 1 (cond few 0 2)

module _ (n : ℕ) where
  by_tests_lem : (a b : Bool) → eqb n 0 ≡ a → leb n most_samples ≡ b → by_tests a b ≡ refusal_of n
  unfolding refusal_of
  by_tests_lem a b p q = rw (p, q) refl

  pub none : n ≡ 0 → 1 ≡ refusal_of n
  none e = by_tests_lem true (leb n most_samples) (eq-eqb n 0 e) refl

  pub many : n ≢ 0 → most_samples < n → 2 ≡ refusal_of n
  many d l = by_tests_lem false false (ne_eqb n 0 d) (lt-leb n most_samples l)

  pub some : n ≢ 0 → n ≤ most_samples → 0 ≡ refusal_of n
  some d l = by_tests_lem false true (ne_eqb n 0 d) (le-leb n most_samples l)

  pub not-refused : refusal_of n ≡ 0 → (1 ≤ n) × (n ≤ most_samples)
  not-refused e = by (eqb n 0) (leb n most_samples) refl refl (by_tests_lem _ _ refl refl ∙ e)
    where
      by : (a b : Bool) → eqb n 0 ≡ a → leb n most_samples ≡ b → by_tests a b ≡ 0 → (1 ≤ n) × (n ≤ most_samples)
      by true b p q h = absurd (omega arith)
      by false true p q h = (omega (arith, eqb-false n 0 p), leb-true n most_samples q)
      by false false p q h = absurd (omega arith)
