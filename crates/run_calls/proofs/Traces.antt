-- A run draw by draw and hand-in by hand-in: at each state only one of the two can follow, so the hand-ins and the number of draws say where it leads,
-- whatever the division into calls. Assumes nothing.
use mathlib.Core.Path.{◌≡◌, refl, sym, subst, subst⁻¹, ◌∙◌}
use mathlib.Core.Bool.{true, true≢false}
use mathlib.Core.Logic.{inl, inr}
use mathlib.Core.List.{List, [], ◌∷◌}
use Prim.Native.Nat.{ℕ, zero, suc, ◌+◌}
use native.Mathlib.Nat.{zero-add, suc-add}
use native.Mathlib.Omega.{arith}
use lib.Ieee.{Float}
use Rattle.quantizer.specs.Course.{Course}
use Rattle.run_stages.specs.State.{State, draws, stops}
use Rattle.run_stages.specs.Stages.{going, step, advance, draws_of, hand_in}
use Rattle.run_calls.proofs.Cases.{decide}
use Rattle.run_calls.proofs.Whilsts.{whilst_zero, whilst_step, whilst_stop, times_zero, times-step, times_stop}
use Rattle.run_calls.proofs.Next.{quiet_at}

-- the colours handed in, in their order, and the draws made
pub data Trace (K : Course) : State → List (List Float) → ℕ → State → Type 0 where
  none : {s : State} → Trace K s [] 0 s
  drew : {s z : State} {hs : List (List Float)} {d : ℕ} → draws s.rec.stage ≡ true → Trace K (step K s) hs d z → Trace K s hs (suc d) z
  took : {s z : State} {hs : List (List Float)} {d : ℕ} (reduced : List Float) → stops s.rec.stage ≡ true → Trace K (hand_in K reduced s) hs d z → Trace K s (reduced ∷ hs) d z

module _ (K : Course) where
  -- one advance is so many draws
  pub advance_trace : (a : ℕ) (s : State) {z : State} {hs : List (List Float)} {d : ℕ} → Trace K (advance K a s) hs d z → Trace K s hs (draws_of K a s + d) z
  advance_trace zero s {z} {hs} {d} t =
      subst⁻¹ (λ (n : ℕ). Trace K s hs (n + d) z) (times_zero going (step K) s)
      (subst⁻¹ (λ (n : ℕ). Trace K s hs n z) (zero-add d) (subst (λ (x : State). Trace K x hs d z) (whilst_zero going (step K) s) t))
  advance_trace (suc a) s {z} {hs} {d} t = elim (decide (going s)) [
    | inl g ↦
        subst⁻¹ (λ (n : ℕ). Trace K s hs (n + d) z) (times-step going (step K) a s g)
        (subst⁻¹ (λ (n : ℕ). Trace K s hs n z) (suc-add (draws_of K a (step K s)) d)
        (drew g (advance_trace a (step K s) (subst (λ (x : State). Trace K x hs d z) (whilst_step going (step K) a s g) t))))
    | inr g ↦
        subst⁻¹ (λ (n : ℕ). Trace K s hs (n + d) z) (times_stop going (step K) (suc a) s g)
        (subst⁻¹ (λ (n : ℕ). Trace K s hs n z) (zero-add d) (subst (λ (x : State). Trace K x hs d z) (whilst_stop going (step K) (suc a) s g) t))
  ]

  never : (s : State) → draws s.rec.stage ≡ true → stops s.rec.stage ≡ true → ⊥
  never s g h = true≢false (sym g ∙ (quiet_at s.rec.stage h).0)

  pub one_end : {s x y : State} {hs ks : List (List Float)} {d e : ℕ} → Trace K s hs d x → Trace K s ks e y → hs ≡ ks → d ≡ e → x ≡ y
  one_end none none p q = refl
  one_end none (drew g u) p q = absurd (omega arith)
  one_end none (took h g u) p q = absurd (let z : ◌≡◌ {A = ℕ} 0 1 = cc in omega arith)
  one_end (drew g t) none p q = absurd (omega arith)
  one_end (drew g t) (drew f u) p q = one_end t u p (omega arith)
  one_end {s} (drew g t) (took h f u) p q = absurd (never s g f)
  one_end (took h g t) none p q = absurd (let z : ◌≡◌ {A = ℕ} 0 1 = cc in omega arith)
  one_end {s} (took h g t) (drew f u) p q = absurd (never s f g)
  one_end {s} {x} {y} (took h g t) (took {hs = ks} {d = e} k f u) p q =
      one_end t (subst⁻¹ (λ (r : List Float). Trace K (hand_in K r s) ks e y) (cc) u) (cc) q
