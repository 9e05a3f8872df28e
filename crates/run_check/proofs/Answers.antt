-- What the refusals answer that ask others: the first list of rules with a number decides. Assumes nothing.
use Prim.Native.Nat.{ℕ}
use mathlib.Core.Path.{◌≡◌, refl, sym, ap, subst, ◌∙◌}
use mathlib.Core.Bool.{Bool, true, false}
use mathlib.Core.List.{List, [], ◌++◌}
use lib.Dec.{eqb}
use lib.Ieee.{Float}
use borrow.Author.Tests.{eqb-true, eqb-false}
use Rattle.answer.specs.Refusals.{Answered}
use Rattle.answer.specs.Rules.{Rule, answer, numbered}
use Rattle.answer.proofs.Passing.{stops, goes, all_pass}
use Rattle.job.specs.declared.Sizes.{Sizes}
use Rattle.job.specs.Job.{Job, job_of}
use Rattle.job.specs.Checks.{size_rules, sampled_answer}
use Rattle.job.proofs.Ready.{sizes_of_lem, sampled-ready}
use Rattle.quantizer.specs.Course.{course, course_of}
use Rattle.run_stages.specs.declared.Record.{Record}
use Rattle.run_stages.specs.State.{state_with}
use Rattle.run_stages.specs.Record.{stage_of, place_fits, made_by, state_rules}
use Rattle.run_stages.specs.Calls.{Memory, record_of, state_of, job_rules}
use Rattle.run_record.specs.Sized.{plain, Sized}
use Rattle.run_check.specs.Room.{SameInRange, run_answer}

module _ (J : Job) (n : ℕ) (samples : List ℕ) where
  abbrev sizes_of : List Rule
  sizes_of = size_rules J.size J.S J.C J.T

  abbrev ruled : Bool → List Rule
  ruled r = job_rules (course J n samples) r

  -- lengths matter only where the sizes are in their ranges
  pub room_free : (r p : Bool) (rest : List Rule) → SameInRange J.S J.C r p → answer (ruled r ++ rest) ≡ answer (ruled p ++ rest)
  unfolding numbered
  room_free r p rest h = by (eqb (answer sizes_of).number 0) refl
    where
      by : (z : Bool) → eqb (answer sizes_of).number 0 ≡ z → answer (ruled r ++ rest) ≡ answer (ruled p ++ rest)
      by true e = let Z = sizes_of_lem J.size J.S J.C J.T (answer sizes_of) refl (eqb-true (answer sizes_of).number 0 e) in
          ap (λ (x : Bool). answer (ruled x ++ rest)) (h Z.few Z.cap)
      by false e = sym (stops sizes_of _ (answer sizes_of) refl refl (eqb-false (answer sizes_of).number 0 e)) ∙ stops sizes_of _ (answer sizes_of) refl refl (eqb-false (answer sizes_of).number 0 e)

  -- ---- the job
  module _ (r : Bool) (a : Answered) (e : a ≡ sampled_answer J n samples r) where
    job-stops : (a.number ≡ 0 → ⊥) → (rest : List Rule) → a ≡ answer (ruled r ++ rest)
    unfolding sampled_answer numbered
    job-stops h rest = stops (ruled r) rest a refl e h

    job_goes : a.number ≡ 0 → (b : Answered) (rest : List Rule) → b ≡ answer rest → b ≡ answer (ruled r ++ rest)
    unfolding sampled_answer numbered
    job_goes z b rest h = goes (ruled r) rest a b refl e z h

    pub job-room : a.number ≡ 0 → r ≡ true
    job-room z = (sampled-ready J n samples r (subst (λ (x : Answered). x.number ≡ 0) e z)).roomy

    pub job-whole : (p : Bool) → SameInRange J.S J.C r p → a ≡ answer (ruled p)
    unfolding sampled_answer
    job-whole p h = e ∙ room_free r p [] h

  -- ---- the job, then what a run holds
  module _ (m : Memory) (r : Bool) (a : Answered) (e : a ≡ sampled_answer J n samples r) where
    pub held-stops : (a.number ≡ 0 → ⊥) → a ≡ run_answer (course J n samples) m r
    unfolding run_answer
    held-stops h = job-stops r a e h (state_rules (course J n samples) (state_of m))

  -- ---- then the call's own rules
  module _ (m : Memory) (r : Bool) (a : Answered) (e : a ≡ run_answer (course J n samples) m r) where
    pub run_room : a.number ≡ 0 → r ≡ true
    unfolding run_answer numbered
    run_room z = (all_pass (ruled r ++ state_rules (course J n samples) (state_of m)) refl (subst (λ (x : Answered). x.number ≡ 0) e z)).1.1.1.1.1.1.1.1.0

    module _ (p : Bool) (h : SameInRange J.S J.C r p) (own : List Rule) where
      pub run-stops : (a.number ≡ 0 → ⊥) → a ≡ answer (ruled p ++ (state_rules (course J n samples) (state_of m) ++ own))
      unfolding run_answer numbered
      run-stops k = stops (ruled r ++ state_rules (course J n samples) (state_of m)) own a refl e k ∙ room_free r p (state_rules (course J n samples) (state_of m) ++ own) h

      pub run_goes : a.number ≡ 0 → (b : Answered) → b ≡ answer own → b ≡ answer (ruled p ++ (state_rules (course J n samples) (state_of m) ++ own))
      unfolding run_answer numbered
      run_goes z b f = goes (ruled r ++ state_rules (course J n samples) (state_of m)) own a b refl e z f ∙ room_free r p (state_rules (course J n samples) (state_of m) ++ own) h

-- ---- what a run holds is held to its sizes alone
module _ (z : Sizes) (tiles : List ℕ) (colours : List Float) (counts samples : List ℕ) (r : Bool) (a : Answered)
    (e : a ≡ sampled_answer (job_of z tiles colours counts) z.n samples r) (done : a.number ≡ 0) where
  pub job-sized : Sized z
  job-sized =
      let R = sampled-ready (job_of z tiles colours counts) z.n samples r (subst (λ (x : Answered). x.number ≡ 0) e done) in
      record { range = R.ready.sizes; short = R.few }

  pub held_goes : (m : Memory) (w : Record) → w ≡ record_of m.words → (b : Answered) → b ≡ answer (state_rules (plain z) (state_with m.order [] m.palette m.least w))
      → b ≡ run_answer (course_of z tiles colours counts samples) m r
  unfolding run_answer state_of stage_of place_fits made_by
  held_goes m w q b h = job_goes (job_of z tiles colours counts) z.n samples r a e done b _ (rw q at h)
