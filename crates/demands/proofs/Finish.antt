-- The finish is reached: from every accepted memory a row of calls leads to it, with noughts for the reduced colours, and so from every accepted start.
-- Assumes nothing.
use Prim.Native.Nat.{ℕ, zero, suc, ◌+◌, ◌*◌, ◌≤◌, ◌<◌}
use mathlib.Core.Path.{◌≡◌}
use mathlib.Core.Bool.{true}
use mathlib.Core.Logic.{inl, inr}
use mathlib.Core.List.{List, [], ◌∷◌}
use native.Mathlib.Nat.{le_refl}
use native.Mathlib.Decide.{ℕ_discrete}
use native.Mathlib.Omega.{arith}
use lib.ListN.{length, get_or}
use lib.Ieee.{Float}
use borrow.Author.Tests.{eq-eqb}
use Rattle.job.specs.Job.{two}
use Rattle.job.specs.Checks.{components_fit}
use Rattle.quantizer.specs.Course.{Course}
use Rattle.quantizer.specs.Sums.{zeros}
use Rattle.quantizer.proofs.Lists.{length-zeros, zeros-bounded}
use Rattle.run_stages.specs.Calls.{Memory, colours_room, start_answer, advance_answer, hand_in_answer, start_call, advance_call, hand_in_call}
use Rattle.run_stages.specs.History.{Run}
use Rattle.run_stages.specs.History as history
use Rattle.run_calls.proofs.Limits.{fits-two}
use Rattle.run_calls.specs.Accepted.{Accepted}
use Rattle.run_calls.proofs.Next.{start_leaves, advance_leaves, hand_in_leaves}
use Rattle.demands.specs.Third.{Row, none, advanced, handed_in}
use Rattle.demands.specs.Ends.{ahead, Ending, Finished, Ends}
use Rattle.demands.proofs.Ends.{advance_nearer, advance_draws, advance_stops, hand_in_nearer, ends, few_calls, goes_on, finished}

-- a run goes on by a row of calls
run_on : (K : Course) (seed : ℕ) {m x : Memory} {ds : List ℕ} {hs : List (List Float)} {d : ℕ} → Run K seed m ds → Row K m hs d x → get_or x.words 1 0 ≡ 7 → Finished K seed
run_on K seed {m} {x} {ds} r none e = record { last = x; samples = ds; run = r; stage = e }
run_on K seed r (advanced a h q) e = run_on K seed (history.advanced r a h) q e
run_on K seed r (handed_in reduced h q) e = run_on K seed (history.handed_in r reduced h) q e

module _ (K : Course) where
  abbrev noughts : List Float
  noughts = zeros (3 * (K.job.S * K.job.C))

  room : colours_room K noughts ≡ true
  unfolding colours_room
  room = eq-eqb (length noughts) (3 * (K.job.S * K.job.C)) (length-zeros (3 * (K.job.S * K.job.C)))

  fits : components_fit two noughts ≡ true
  fits = fits-two noughts (zeros-bounded (3 * (K.job.S * K.job.C)) 2)

  -- ---- one call nearer
  module _ (m : Memory) where
    after-advance : (advance_answer K m).number ≡ 0 → ahead K (advance_call K m 1).after < ahead K m
    after-advance h = omega (arith, advance_nearer K m 1 h, advance_draws K m 0 h)

    after-hand_in : (hand_in_answer K m noughts).number ≡ 0 → ahead K (hand_in_call K m noughts).after < ahead K m
    after-hand_in h = omega (arith, hand_in_nearer K m noughts h)

    by_advance : (advance_answer K m).number ≡ 0 → Ending K (advance_call K m 1).after → Ending K m
    by_advance h E = record { hand_ins = E.hand_ins; drawn = (advance_call K m 1).answer.draws + E.drawn; last = E.last; row = advanced 1 h E.row; stage = E.stage }

    by_hand_in : (hand_in_answer K m noughts).number ≡ 0 → Ending K (hand_in_call K m noughts).after → Ending K m
    by_hand_in h E = record { hand_ins = noughts ∷ E.hand_ins; drawn = E.drawn; last = E.last; row = handed_in noughts h E.row; stage = E.stage }

    here : get_or m.words 1 0 ≡ 7 → Ending K m
    here e = record { hand_ins = []; drawn = 0; last = m; row = none; stage = e }

  ending : (most : ℕ) (m : Memory) → Accepted K m → ahead K m ≤ most → Ending K m
  ending zero m A l = elim (ℕ_discrete (get_or m.words 1 0) 7) [
    | yes e ↦ here m e
    | no n ↦ absurd (elim (goes_on K m A n) [
      | inl h ↦ omega (arith, after-advance m h)
      | inr h ↦ omega (arith, after-hand_in m (h noughts room fits))
    ])
  ]
  ending (suc most) m A l = elim (ℕ_discrete (get_or m.words 1 0) 7) [
    | yes e ↦ here m e
    | no n ↦ elim (goes_on K m A n) [
      | inl h ↦ by_advance m h (ending most (advance_call K m 1).after (advance_leaves K m 1 h) (omega (arith, after-advance m h)))
      | inr h ↦
          let z = h noughts room fits in
          by_hand_in m z (ending most (hand_in_call K m noughts).after (hand_in_leaves K m noughts z) (omega (arith, after-hand_in m z)))
    ]
  ]

  reached : (m : Memory) → Accepted K m → Ending K m
  reached m A = ending (ahead K m) m A (le_refl (ahead K m))

  finishes : (m : Memory) (seed : ℕ) → (start_answer K m).number ≡ 0 → Finished K seed
  finishes m seed h =
      let E = reached (start_call K m seed).after (start_leaves K m seed h) in
      run_on K seed (history.started m h) E.row E.stage

  pub run_ends : Ends K
  run_ends =
      record {
        advance_nearer = advance_nearer K;
        advance_draws = advance_draws K;
        advance_stops = advance_stops K;
        hand_in_nearer = hand_in_nearer K;
        row_ends = ends K;
        few_calls = few_calls K;
        goes_on = goes_on K;
        result_there = finished K;
        reached = reached;
        finished = finishes;
      }
