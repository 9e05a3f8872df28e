-- A job with some samples and not too many: the palette that they train passes the writer's checks, and what is written is the sheet with it.
-- Assumes nothing.
use Prim.Native.Nat.{ℕ, ◌≤◌}
use mathlib.Core.Path.{◌≡◌, refl, sym, ap, ◌∙◌}
use native.Mathlib.Omega.{arith}
use mathlib.Core.Bool.{Bool, true, cond}
use mathlib.Core.Logic.{◌≢◌}
use mathlib.Core.List.{List}
use lib.Dec.{eqb}
use lib.ListN.{replicate, length-replicate}
use lib.Ieee.{Float}
use borrow.Author.Tests.{ne_eqb}
use Rattle.job.specs.Job.{Job, most_samples}
use Rattle.answer.specs.Rules.{Passed}
use Rattle.job.specs.Checks.{plain_answer}
use Rattle.run_stages.specs.Calls.{Memory, memory, record_words, job_rules}
use Rattle.run_calls.specs.Accepted.{Roomy}
use Rattle.fit_lines.specs.Lines.{refused_line}
use Rattle.train_run.proofs.ByCalls.{trained-fits}
use Rattle.train_samples.specs.Refusal.{refusal_of}
use Rattle.train_samples.proofs.Accepted as refusals
use Rattle.train_samples.specs.Samples.{units_to}
use Rattle.train_text.specs.Trained.{unit_course, trained_palette, trained_file, job_text}
use Rattle.train_text.proofs.Rules.{palette-long, repainted, run-passed}

-- ---- by the number of samples: the sheet, or the line of a refusal
module _ (J : Job) where
  abbrev n : ℕ
  n = units_to J.tiles J.counts J.T

  by_refusal : (k : ℕ) → k ≡ refusal_of n → job_text J ≡ cond (eqb k 0) (trained_file J) (refused_line k)
  unfolding job_text unit_course
  by_refusal k e = ap (λ (i : ℕ). cond (eqb i 0) (trained_file J) (refused_line i)) (sym e)

  pub text-refused : (k : ℕ) → k ≡ refusal_of n → k ≢ 0 → job_text J ≡ refused_line k
  text-refused k e z = by_refusal k e ∙ ap (λ (b : Bool). cond b (trained_file J) (refused_line k)) (ne_eqb k 0 z)

  pub text-sheet : 1 ≤ n → n ≤ most_samples → job_text J ≡ trained_file J
  text-sheet some few = by_refusal 0 (refusals.some n (λ (e : n ≡ 0). omega arith) few)

-- ---- the palette
module _ (J : Job) (p : List Float) (h : (plain_answer J p true).number ≡ 0) (some : 1 ≤ units_to J.tiles J.counts J.T) (few : units_to J.tiles J.counts J.T ≤ most_samples) where
  pub run_taken : Passed (job_rules (unit_course J) true)
  unfolding unit_course
  run_taken = run-passed J p h some few

  -- memory that its run is accepted with
  any_memory : Memory
  any_memory = memory (replicate (unit_course J).n 0) (replicate J.T 0) p p (replicate record_words 0)

  its_room : Roomy (unit_course J) any_memory
  unfolding any_memory unit_course
  its_room = record { order = length-replicate (unit_course J).n 0; hints = length-replicate J.T 0; palette = palette-long J p h; least = palette-long J p h; words = refl }

  pub trained_passes : (plain_answer J (trained_palette (unit_course J)) true).number ≡ 0
  unfolding trained_palette any_memory unit_course
  trained_passes =
      let f = trained-fits (unit_course J) run_taken any_memory its_room in
      repainted J p h (trained_palette (unit_course J)) f.0 f.1
