-- What is written for a job, by the number of its samples. Assumes nothing.
use Prim.Native.Nat.{ℕ, ◌*◌, ◌≤◌}
use mathlib.Core.Path.{◌≡◌, sym, ap, ap₂, subst, subst⁻¹, ◌∙◌}
use native.Mathlib.Omega.{arith}
use mathlib.Core.Bool.{true}
use mathlib.Core.Logic.{◌≢◌}
use mathlib.Core.List.{List}
use lib.ListN.{length, take}
use lib.Ieee.{Float}
use Rattle.job.specs.Job.{Job, most_samples}
use Rattle.quantizer.specs.Course.{Course, course}
use Rattle.answer.specs.Rules.{Passed}
use Rattle.run_stages.specs.Calls.{job_rules}
use Rattle.sheet.specs.Sheets.{file_of}
use Rattle.sheet.proofs.Inverse.{sets_front}
use Rattle.sheet_parts.specs.Front.{Writable}
use Rattle.fit_lines.specs.Lines.{Stored, refused_line}
use Rattle.train_samples.specs.Refusal.{refusal_of}
use Rattle.train_samples.proofs.Accepted.{not-refused}
use Rattle.train_samples.specs.Samples.{samples_to, units_to}
use Rattle.train_samples.proofs.Numbers.{length-samples}
use Rattle.train_text.specs.Trained.{unit_course, trained_palette, trained_file, job_text, Drawable}
use Rattle.train_text.proofs.Rules.{palette-long}
use Rattle.train_text.proofs.Trains.{text-refused, text-sheet, run_taken, trained_passes}
use Rattle.sheet_parts.proofs.Files.{still_writable}

module _ (J : Job) (p : List Float) (W : Writable J p) where
  abbrev units : ℕ
  units = units_to J.tiles J.counts J.T

  abbrev unit_samples : List ℕ
  unit_samples = samples_to J.tiles J.counts J.T

  -- ---- the samples counted
  module _ (n : ℕ) (counted : n ≡ units) where
    module _ (out written : List ℕ) (r : ℕ) where
      by_text : (x : List ℕ) → x ≡ job_text J → Stored out written 0 r x → Stored out written 0 r (job_text J)
      by_text x e t = subst (λ (y : List ℕ). Stored out written 0 r y) e t

      pub refused-text : (k : ℕ) → k ≡ refusal_of n → k ≢ 0 → Stored out written 0 r (refused_line k) → Stored out written 0 r (job_text J)
      refused-text k e z t = by_text (refused_line k) (sym (text-refused J k (e ∙ ap refusal_of counted) z)) t

    -- ---- as many as a run takes
    module _ (k : ℕ) (e : k ≡ refusal_of n) (z : k ≡ 0) where
      some : 1 ≤ units
      some = omega (arith, counted, (not-refused n (sym e ∙ z)).0)

      few : units ≤ most_samples
      few = omega (arith, counted, (not-refused n (sym e ∙ z)).1)

      pub place_for-all : (l : List ℕ) → 32768 ≡ length l → 2 * units ≤ length l
      place_for-all l long = omega (arith, few)

      -- and stored
      module _ (samples after : List ℕ) (long : 32768 ≡ length samples) (m : ℕ) (s : Stored samples after 0 m unit_samples) where
        same : m ≡ length unit_samples
        same = omega (arith, s.place)

        pub taken : m ≤ 32768
        taken = omega (arith, same, length-samples J.tiles J.counts J.T, few)

        abbrev K : Course
        K = course J n (take m after)

        is : K ≡ unit_course J
        is = unfold unit_course in ap₂ {C = Course} (λ i x. course J i x) counted front
          where
            front : take m after ≡ unit_samples
            front = ap₂ (λ (i : ℕ) (v : List ℕ). take i v) same s.text ∙ sets_front unit_samples samples (omega (arith, same, taken))

        pub drawable : Drawable (course J n (take m after)) p
        drawable = record {
          passed = subst⁻¹ (λ (X : Course). Passed (job_rules X true)) is (run_taken J p W.passed some few);
          long = palette-long J p W.passed;
        }

        -- the palette that they train can be written, and its sheet is what is written for the job
        module _ (x : List Float) (t : x ≡ trained_palette (course J n (take m after))) where
          same-palette : x ≡ trained_palette (unit_course J)
          same-palette = t ∙ ap trained_palette is

          pub trained-writable : Writable J x
          trained-writable = subst⁻¹ (Writable J) same-palette (still_writable J p (trained_palette (unit_course J)) W (trained_passes J p W.passed some few))

          pub trained-text : (out written : List ℕ) (r : ℕ) → Stored out written 0 r (file_of J x) → Stored out written 0 r (job_text J)
          trained-text out written r f =
              by_text out written r (trained_file J) (sym (text-sheet J some few))
              (unfold trained_file in subst (λ (y : List Float). Stored out written 0 r (file_of J y)) same-palette f)
