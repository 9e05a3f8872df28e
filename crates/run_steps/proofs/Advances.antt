-- The loop of an advance: where it starts, what a step asks and leaves, and what its end comes to. Assumes nothing.
use mathlib.Core.Path.{◌≡◌, sym, ap, subst, ◌∙◌}
use mathlib.Core.Logic.{inl, inr}
use mathlib.Core.Bool.{Bool, true, false, ◌&&◌}
use mathlib.Core.List.{List}
use Prim.Native.Nat.{ℕ, ◌+◌, ◌<◌}
use lib.Dec.{ltb}
use lib.Ieee.{Float}
use lib.ListN.{length}
use borrow.Author.Tests.{ltb-true, ltb-false}
use Rattle.lists.proofs.Tests.{and_l, and_r}
use Rattle.answer.specs.Outcome.{outcome}
use Rattle.quantizer.specs.Course.{Course}
use Rattle.run_stages.specs.declared.Record.{Record}
use Rattle.run_stages.specs.State.{State, state_with, draws}
use Rattle.run_stages.specs.Stages.{going, step, advance, draws_of}
use Rattle.run_stages.specs.Calls.{record_of, words_of, memory, memory_of}
use Rattle.run_calls.proofs.Cases.{decide}
use Rattle.run_calls.proofs.Whilsts.{Far, far_start, far_step, far_stop, far_end}
use Rattle.run_calls.specs.Fit.{Fit}
use Rattle.run_calls.proofs.Fit.{step-fit}
use Rattle.run_steps.specs.Running.{Running, Ongoing}

-- of `a` draws from the first state, m are made and s is reached; both states are runs
pub record Advancing (K : Course) (a : ℕ) (first : State) (m : ℕ) (s : State) : Type 0 where
  pub from : Fit K first
  pub running : Running K s
  pub far : Far going (step K) a first m s

pub begun : (K : Course) (a : ℕ) (o h : List ℕ) (p l : List Float) (w : List ℕ) (r : Record) → r ≡ record_of w → Running K (state_with o h p l (record_of w))
    → Advancing K a (state_with o h p l r) 0 (state_with o h p l r)
begun K a o h p l w r e R =
    let Q = subst (λ (x : Record). Running K (state_with o h p l x)) (sym e) R in
    record { from = Q.fit; running = Q; far = far_start going (step K) a (state_with o h p l r) }

module _ {K : Course} {a : ℕ} {first : State} {m : ℕ} {s : State} (A : Advancing K a first m s) where
  module _ (t : Bool) (e : t ≡ (ltb m a && draws s.rec.stage)) where
    pub ongoing : t ≡ true → Ongoing K s
    ongoing h = record { running = A.running; going = and_r (ltb m a) (draws s.rec.stage) (sym e ∙ h) }

    pub allotted : t ≡ true → m < a
    allotted h = ltb-true m a (and_l (ltb m a) (draws s.rec.stage) (sym e ∙ h))

    pub drawn-more : t ≡ true → (z : State) → z ≡ step K s → Advancing K a first (m + 1) z
    drawn-more h z q =
        let R = A.running in
        let d = (ongoing h).going in
        record {
          from = A.from;
          running = record { room = R.room; passed = R.passed; fit = subst (Fit K) (sym q) (step-fit K R.room R.passed s R.fit d) };
          far = subst (Far going (step K) a first (m + 1)) (sym q) (far_step going (step K) A.far (allotted h) d);
        }

    ended : t ≡ false → (s ≡ advance K a first) × (m ≡ draws_of K a first)
    ended h = elim (decide (ltb m a)) [
      | inl y ↦ far_stop going (step K) A.far (subst (λ (x : Bool). (x && draws s.rec.stage) ≡ false) y (sym e ∙ h))
      | inr n ↦ far_end going (step K) A.far (ltb-false m a n)
    ]

-- the lengths of the memory stay
module _ {K : Course} {a : ℕ} {first : State} {m : ℕ} {s : State} (A : Advancing K a first m s) where
  pub order-kept : length s.order ≡ length first.order
  order-kept = A.running.fit.sound.dealt.size ∙ sym A.from.sound.dealt.size

  pub hints-kept : length s.hints ≡ length first.hints
  hints-kept = A.running.fit.sound.hints ∙ sym A.from.sound.hints

  pub palette-kept : length s.palette ≡ length first.palette
  palette-kept = A.running.fit.sound.held.size ∙ sym A.from.sound.held.size

  pub least_kept : length s.least ≡ length first.least
  least_kept = A.running.fit.sound.room ∙ sym A.from.sound.room

-- what is left once the record is written
pub worked : (K : Course) (a : ℕ) (o h : List ℕ) (p l : List Float) (w : List ℕ) (r : Record) → r ≡ record_of w
    → (m : ℕ) (o2 h2 : List ℕ) (p2 l2 : List Float) (r2 : Record) → Advancing K a (state_with o h p l r) m (state_with o2 h2 p2 l2 r2)
    → (t : Bool) → t ≡ (ltb m a && draws r2.stage) → t ≡ false
    → (w2 : List ℕ) → w2 ≡ words_of r2
    → outcome m (memory o2 h2 p2 l2 w2) ≡ outcome (draws_of K a (state_with o h p l (record_of w))) (memory_of (advance K a (state_with o h p l (record_of w))))
unfolding memory_of
worked K a o h p l w r e m o2 h2 p2 l2 r2 A t f n w2 q =
    let z = ended A t f n in
    subst (λ (x : Record). outcome m (memory o2 h2 p2 l2 w2) ≡ outcome (draws_of K a (state_with o h p l x)) (memory_of (advance K a (state_with o h p l x)))) e
    (ap (λ (x : ℕ). outcome x (memory o2 h2 p2 l2 w2)) z.1
    ∙ ap (λ (x : List ℕ). outcome (draws_of K a (state_with o h p l r)) (memory o2 h2 p2 l2 x)) q
    ∙ ap (λ (x : State). outcome (draws_of K a (state_with o h p l r)) (memory_of x)) z.0)
