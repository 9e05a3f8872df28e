-- The third demand, put together. Assumes nothing.
use Prim.Native.Nat.{ℕ, ◌≤◌}
use mathlib.Core.Path.{◌≡◌, ap, subst⁻¹, ◌∙◌}
use mathlib.Core.List.{List}
use lib.ListN.{length, take}
use Rattle.lists.specs.Count.{count}
use Rattle.lists.specs.Firsts.{firsts}
use Rattle.cycle.specs.Cycle.{draw_at}
use Rattle.cycle.specs.Even.{Even}
use Rattle.cycle.proofs.Even.{even}
use Rattle.cycle.proofs.Tenths.{tenth-is}
use Rattle.quantizer.specs.Course.{Course}
use Rattle.run_stages.specs.Calls.{Memory}
use Rattle.run_stages.specs.History.{Run}
use Rattle.run_calls.proofs.Next.{advance_split, call-draws, start-straight}
use Rattle.run_calls.proofs.Follow.{run-made, run-samples, run-waits, run-accepted, run_end}
use Rattle.demands.proofs.Prefixes.{take-firsts}
use Rattle.demands.specs.Third.{Evenly, Third}
use Rattle.demands.proofs.Division.{any_division}

module _ (K : Course) where
  evenly : (seed : ℕ) {m : Memory} {ds : List ℕ} → Run K seed m ds → Evenly K seed m ds
  evenly seed {m} {ds} r =
      record {
        defined = run-samples K seed r;
        made = run-made K seed r;
        even = λ i t l h. subst⁻¹ (λ (xs : List ℕ). Even K.n t (count i xs)) (first-draws t h) (even K.n seed i t l);
        waits = run-waits K seed r;
        finished = run_end K seed r;
        resumes = run-accepted K seed r;
      }
    where
      first-draws : (t : ℕ) → t ≤ length ds → take t ds ≡ firsts (draw_at K.n seed) t
      first-draws t h = ap (take t) (run-samples K seed r) ∙ take-firsts (draw_at K.n seed) t (length ds) h

  pub third_demand : Third K
  third_demand =
      record {
        evenly = evenly;
        any_division = any_division K;
        any_size = advance_split K;
        straight = start-straight K;
        reported = call-draws K;
        tenths = tenth-is;
      }
