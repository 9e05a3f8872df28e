-- The local memory that a run is lent: its lengths are the run's, and its hints are 0. Assumes nothing.
use Prim.Native.Nat.{ℕ, ◌*◌, ◌≤◌}
use mathlib.Core.Path.{◌≡◌, refl, ap, ◌∙◌}
use native.Mathlib.Omega.{arith}
use mathlib.Core.Bool.{true}
use mathlib.Core.List.{List}
use lib.ListN.{length, get_or, take, replicate}
use lib.Seq.{length-take-le}
use lib.Ieee.{Float}
use Rattle.job.specs.Gives.{Sampled}
use Rattle.quantizer.specs.Course.{Course}
use Rattle.answer.specs.Refusals.{Answered}
use Rattle.answer.specs.Outcome.{outcome}
use Rattle.run_stages.specs.Calls.{Memory, memory, record_words, start_call}
use Rattle.run_calls.specs.Accepted.{Roomy}
use Rattle.run_calls.proofs.Accepted.{job-passed}
use Rattle.train_run.specs.Training.{trained, turn_calls}
use Rattle.sheet_parts.proofs.Hints.{no_hint}
use Rattle.train_text.proofs.Joined.{run-joined}
use Rattle.train_text.specs.Trained.{trained_palette, Drawable}

module _ (K : Course) (p : List Float) (D : Drawable K p) where
  checked : Sampled K.job K.n K.samples true
  checked = job-passed K true D.passed

  -- the rooms are long enough
  pub samples_fit_lem : (k : ℕ) → 16384 ≡ k → K.n ≤ k
  samples_fit_lem k e = omega (arith, checked.few)

  pub tiles_fit_lem : (k : ℕ) → 1024 ≡ k → K.job.T ≤ k
  tiles_fit_lem k e = omega (arith, checked.ready.sizes.tiles)

  pub numbers_fit : (k : ℕ) → 768 ≡ k → 3 * (K.job.S * K.job.C) ≤ k
  numbers_fit k e = omega (arith, checked.ready.sizes.cells)

  -- and the palette that a start leaves fits the room for cut colours
  pub palette-fits : (k : ℕ) → k ≡ length p → k ≤ 768
  palette-fits k e = omega (arith, D.long, checked.ready.sizes.cells)

  module _ (order hints : List ℕ) (least : List Float) (o : 16384 ≡ length order) (h : 1024 ≡ length hints) (z : (k : ℕ) → get_or hints k 0 ≡ 0) (l : 768 ≡ length least) where
    abbrev lent : Memory
    lent = memory (take K.n order) (take K.job.T hints) p (take (3 * (K.job.S * K.job.C)) least) (replicate record_words 0)

    roomy : Roomy K lent
    roomy = record {
      order = length-take-le K.n order (samples_fit_lem (length order) o);
      hints = length-take-le K.job.T hints (tiles_fit_lem (length hints) h);
      palette = D.long;
      least = length-take-le (3 * (K.job.S * K.job.C)) least (numbers_fit (length least) l);
      words = refl;
    }

    -- a run in them gives the trained palette
    pub trained-there : (a : Answered) (m₁ m₂ : Memory) → outcome a m₁ ≡ start_call K lent 0 → m₂ ≡ turn_calls K 3 m₁ → m₂.palette ≡ trained_palette K
    unfolding trained_palette
    trained-there a m₁ m₂ e f = run-joined K a lent m₁ m₂ D.passed roomy e f ∙ ap (λ (x : List ℕ). (trained K x).palette) (no_hint hints K.job.T (tiles_fit_lem (length hints) h) z)
