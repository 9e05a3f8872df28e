-- What a round's end asks of its steps, and what they leave, stage by stage. Assumes nothing.
use Prim.Native.Nat.{ℕ, ◌+◌, ◌-◌, ◌≤◌, ◌<◌}
use mathlib.Core.Path.{◌≡◌, sym, ap, ◌∙◌}
use mathlib.Core.Logic.{◌≢◌}
use mathlib.Core.List.{List, []}
use native.Mathlib.Omega.{arith}
use lib.Ieee.{Float}
use lib.ListN.{length}
use borrow.Author.Tests.{eq-eqb, ne_eqb}
use Rattle.job.specs.Job.{Job}
use Rattle.quantizer.specs.Course.{Course}
use Rattle.run_stages.specs.declared.Record.{Record}
use Rattle.run_stages.specs.State.{State, state_with, placed}
use Rattle.run_stages.specs.Stages.{finish_round}
use Rattle.run_calls.proofs.Cases.{stage0, stage1, stage2, stage4}
use Rattle.run_turns.specs.Asked.{Turning}
use Rattle.run_turns.specs.Rounds.{open_turn}
use Rattle.run_turns.proofs.Turns.{seeded_on, grown_on, replaced_on}
use Rattle.run_round.specs.Seeds.{Seeking, Sought}
use Rattle.run_round.specs.Settles.{Ripe, seeds, grows, replaces, finishes, Closing, turn_after}
use Rattle.run_round.proofs.SeedingRounds.{still_each, hinted}

-- ---- the turn that follows
module _ (s c : ℕ) (r : Record) where
  pub turn-seeding : r.stage ≡ 0 → turn_after s c r ≡ r.rounds + 1
  unfolding turn_after
  turn-seeding z = rw (eq-eqb r.stage 0 z)

  pub turn-growing : r.stage ≡ 1 → turn_after s c r ≡ s + r.rounds
  unfolding turn_after
  turn-growing z = rw (ne_eqb r.stage 0 (λ (e : r.stage ≡ 0). omega arith), eq-eqb r.stage 1 z)

  pub turn_later : r.stage ≢ 0 → r.stage ≢ 1 → turn_after s c r ≡ s + c + r.rounds - 1
  unfolding turn_after
  turn_later a b = rw (ne_eqb r.stage 0 a, ne_eqb r.stage 1 b)

pub can_seek : (J : Job) (h : List ℕ) (p l : List Float) (r : Record) → Closing J h p l r → Seeking J h p r
can_seek J h p l r A = record { whole = A.lent.whole; more = more A.ripe }
  where
    more : Ripe J r → r.stage ≡ 0 → r.rounds + 2 ≤ J.S
    more (seeds k m) z = m
    more (grows k m) z = absurd (omega arith)
    more (replaces k e) z = absurd (omega arith)
    more (finishes k) z = absurd (omega arith)

module _ (J : Job) (h : List ℕ) (p l : List Float) (r : Record) (A : Closing J h p l r) (from : ℕ) (h2 : List ℕ) (B : Sought J h p r from h2) where
  pub can_turn : r.stage ≢ 4 → (k : ℕ) → k ≡ turn_after J.S J.C r → Turning J h2 p l k from r
  can_turn n4 k turn = record { lent = record { whole = record { shown = A.lent.whole.shown; each = each A.ripe }; room = A.lent.room }; source = B.source; error = low A.ripe }
    where
      each : Ripe J r → length h2 ≡ J.T
      each (seeds z m) = still_each J h p r A.lent.whole m h2 (B.hinted z)
      each (grows z m) = ap length (B.idle (λ (k : r.stage ≡ 0). omega arith)) ∙ A.lent.whole.each
      each (replaces z e) = ap length (B.idle (λ (k : r.stage ≡ 0). omega arith)) ∙ A.lent.whole.each
      each (finishes z) = absurd (n4 z)

      low : Ripe J r → (J.S - 1) + (J.C - 1) < k → r.error < 0x7f800000
      low (seeds z m) q = absurd (omega (arith, turn, turn-seeding J.S J.C r z))
      low (grows z m) q = absurd (omega (arith, turn, turn-growing J.S J.C r z, A.lent.whole.shown.ready.sizes.subs))
      low (replaces z e) q = e
      low (finishes z) q = absurd (n4 z)

module _ (K : Course) (h : List ℕ) (p l : List Float) (r : Record) (A : Closing K.job h p l r) (from : ℕ) (h2 : List ℕ) (B : Sought K.job h p r from h2) where
  pub ended : r.stage ≡ 4 → (r2 : Record) → r2 ≡ placed r 5 0 0 → state_with [] h2 p l r2 ≡ finish_round K (state_with [] h p l r)
  unfolding finish_round
  ended z r2 e =
      ap (λ (x : List ℕ). state_with [] x p l r2) (B.idle (λ (k : r.stage ≡ 0). omega arith))
      ∙ ap (state_with [] h p l) e
      ∙ sym (stage4 r.stage _ _ _ _ _ z)

  pub turned : r.stage ≢ 4 → (k : ℕ) → k ≡ turn_after K.job.S K.job.C r → (x : State) → x ≡ open_turn K k from (state_with [] h2 p l r) → x ≡ finish_round K (state_with [] h p l r)
  unfolding finish_round
  turned n4 k turn x e = by A.ripe
    where
      subs : 1 ≤ K.job.S
      subs = A.lent.whole.shown.ready.sizes.subs

      some : 1 ≤ K.job.C
      some = A.lent.whole.shown.ready.sizes.some

      at_turn : (next : ℕ) → turn_after K.job.S K.job.C r ≡ next → x ≡ open_turn K next from (state_with [] h2 p l r)
      at_turn next f = e ∙ ap (λ (i : ℕ). open_turn K i from (state_with [] h2 p l r)) (turn ∙ f)

      -- the turn, where nothing was sought
      on : (next : ℕ) → turn_after K.job.S K.job.C r ≡ next → r.stage ≢ 0 → x ≡ open_turn K next from (state_with [] h p l r)
      on next f n = at_turn next f ∙ ap (λ (z : List ℕ). open_turn K next from (state_with [] z p l r)) (B.idle n)

      by : Ripe K.job r → x ≡ finish_round K (state_with [] h p l r)
      by (seeds z m) =
          at_turn (r.rounds + 1) (turn-seeding K.job.S K.job.C r z)
          ∙ ap (λ (i : ℕ). open_turn K (r.rounds + 1) i (state_with [] h2 p l r)) (B.found z)
          ∙ seeded_on K (state_with [] h p l r) (state_with [] h2 p l r) (hinted K h p l r h2 (B.hinted z)) m some
          ∙ sym (stage0 r.stage _ _ _ _ _ z)
      by (grows z m) =
          on (K.job.S + r.rounds) (turn-growing K.job.S K.job.C r z) (λ (q : r.stage ≡ 0). omega arith)
          ∙ grown_on K (state_with [] h p l r) from subs m
          ∙ sym (stage1 r.stage _ _ _ _ _ z)
      by (replaces z m) =
          on (K.job.S + K.job.C + r.rounds - 1) (turn_later K.job.S K.job.C r (λ (q : r.stage ≡ 0). omega arith) (λ (q : r.stage ≡ 1). omega arith)) (λ (q : r.stage ≡ 0). omega arith)
          ∙ replaced_on K (state_with [] h p l r) from subs some
          ∙ sym (stage2 r.stage _ _ _ _ _ z)
      by (finishes z) = absurd (n4 z)
