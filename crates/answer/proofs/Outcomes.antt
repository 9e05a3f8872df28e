-- An outcome by what the rules answer, as a call comes to it; and only one outcome meets a contract. Assumes nothing.
use mathlib.Core.Path.{◌≡◌, sym, ap, subst, ◌∙◌}
use borrow.Author.Tests.{eq-eqb, ne_eqb}
use Rattle.answer.specs.Refusals.{Answered}
use Rattle.answer.specs.Outcome.{Outcome, outcome, decided}

module _ {A M : Type 0} where
  -- nothing is wrong
  pub decided-done : (e : Answered) (done : Outcome A M) (refused : A) (lent : M) → e.number ≡ 0 → decided e done refused lent ≡ done
  unfolding decided
  decided-done e done refused lent h = rw (eq-eqb e.number 0 h)

  -- the first rule that fails decides, and nothing is written
  pub decided-refused : (e : Answered) (done : Outcome A M) (refused : A) (lent : M) → (e.number ≡ 0 → ⊥) → decided e done refused lent ≡ outcome refused lent
  unfolding decided
  decided-refused e done refused lent h = rw (ne_eqb e.number 0 h)

  -- the same of what the code's check answered
  module _ (r e : Answered) (same : r ≡ e) (done : Outcome A M) (refused : Answered → A) (lent : M) where
    pub was_refused : (r.number ≡ 0 → ⊥) → outcome (refused r) lent ≡ decided e done (refused e) lent
    was_refused h = subst (λ (x : Answered). outcome (refused r) lent ≡ decided x done (refused x) lent) same (sym (decided-refused r done (refused r) lent h))

    pub was_done : r.number ≡ 0 → (x : Outcome A M) → x ≡ done → x ≡ decided e done (refused e) lent
    was_done h x f = f ∙ sym (decided-done e done (refused e) lent (subst (λ (y : Answered). y.number ≡ 0) same h))

  pub only_one : (r s : A) (a b : M) (x : Outcome A M) → outcome r a ≡ x → outcome s b ≡ x → (r ≡ s) × (a ≡ b)
  only_one r s a b x e f = (ap (λ (z : Outcome A M). z.answer) (e ∙ sym f), ap (λ (z : Outcome A M). z.after) (e ∙ sym f))
