-- What a round of growing asks and leaves, and what follows the last. Assumes nothing.
use Prim.Native.Nat.{ℕ, ◌+◌, ◌-◌, ◌/◌, ◌≤◌, ◌<◌}
use mathlib.Core.Path.{◌≡◌, ap}
use mathlib.Core.Logic.{◌≢◌, ◌⊎◌, inl, inr}
use mathlib.Core.List.{List, []}
use native.Mathlib.Omega.{arith}
use lib.Ieee.{Float}
use borrow.Author.Tests.{lt-ltb, le-ltb}
use Rattle.lists.proofs.Runs.{lt_or_ge}
use Rattle.job.specs.Job.{Job}
use Rattle.quantizer.specs.Course.{Course}
use Rattle.quantizer.specs.Growing.{grown, grown_hints}
use Rattle.run_stages.specs.declared.Record.{Record}
use Rattle.run_stages.specs.State.{State, state_with, placed}
use Rattle.run_stages.specs.Stages.{open_growing}
use Rattle.run_keeping.specs.Closing.{RoomToKeep, Judging}
use Rattle.run_turns.specs.Asked.{Opening, Turning}
use Rattle.run_turns.specs.Rounds.{replace_on, grow_on, open_turn}

pub can_open : (J : Job) (hints : List ℕ) (pal least : List Float) → RoomToKeep J hints pal least → (round : ℕ) → round < J.C - 1 → Opening J pal round hints
can_open J hints pal least A round t =
    let A1 = A.whole.shown in
    record {
      growing = record {
        shown = record { ready = A1.ready; subs = A1.subs; most = A1.most; some = omega arith; present = omega arith; room = A1.room; bounded = A1.bounded };
        more = omega arith;
        each = A.whole.each;
      };
      few = omega (arith, A1.ready.sizes.cap);
    }

pub opened_by : (K : Course) (h : List ℕ) (p : List Float) (r : Record) (round : ℕ) (h2 : List ℕ) (p2 : List Float) → p2 ≡ grown K.job p (round + 1) → h2 ≡ grown_hints K.job p (round + 1) h
    → (r2 : Record) → r2 ≡ placed r 1 round (K.n / 10) → state_with [] h2 p2 [] r2 ≡ open_growing K round (state_with [] h p [] r)
unfolding open_growing
opened_by K h p r round h2 p2 ep eh r2 er = rw (ep, eh, er)

-- opening passes the second palette by
module _ (K : Course) (h : List ℕ) (p l : List Float) (r : Record) (round : ℕ) (h2 : List ℕ) (p2 : List Float) (r2 : Record) (e : state_with [] h2 p2 [] r2 ≡ open_growing K round (state_with [] h p [] r)) where
  open_beside : state_with [] h2 p2 l r2 ≡ open_growing K round (state_with [] h p l r)
  unfolding open_growing
  open_beside =
      ap (λ (s : State). state_with s.order s.hints s.palette l s.rec) e

  pub grown_by_lem : (turn from : ℕ) → K.job.S - 1 ≤ turn → round ≡ turn - (K.job.S - 1) → round < K.job.C - 1 → state_with [] h2 p2 l r2 ≡ open_turn K turn from (state_with [] h p l r)
  unfolding open_turn grow_on
  grown_by_lem turn from a z t = rw (le-ltb turn (K.job.S - 1) a, ← z, lt-ltb round (K.job.C - 1) t) open_beside

-- the next stage
pub grown-past : (K : Course) (s t : State) (turn from : ℕ) → t ≡ replace_on K (turn - (K.job.S - 1) - (K.job.C - 1)) s → K.job.S - 1 ≤ turn → K.job.C - 1 ≤ turn - (K.job.S - 1) → t ≡ open_turn K turn from s
unfolding open_turn grow_on
grown-past K s t turn from e a z = rw (le-ltb turn (K.job.S - 1) a, le-ltb (turn - (K.job.S - 1)) (K.job.C - 1) z) e

pub can_replace : (J : Job) (hints : List ℕ) (pal least : List Float) (turn from : ℕ) (r : Record) → Turning J hints pal least turn from r → Judging J hints pal least (turn - (J.S - 1) - (J.C - 1)) r
can_replace J hints pal least turn from r A = record { lent = A.lent; error = λ (n : turn - (J.S - 1) - (J.C - 1) ≢ 0). A.error (past n (lt_or_ge ((J.S - 1) + (J.C - 1)) turn)) }
  where
    past : turn - (J.S - 1) - (J.C - 1) ≢ 0 → ((J.S - 1) + (J.C - 1) < turn) ⊎ (turn ≤ (J.S - 1) + (J.C - 1)) → (J.S - 1) + (J.C - 1) < turn
    past n (inl t) = t
    past n (inr t) = absurd (n (omega arith))
