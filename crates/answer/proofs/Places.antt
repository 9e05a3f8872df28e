-- What holds of every answer of a list of rules, from what holds of each rule that may be the first to fail. Assumes nothing.
use Prim.Native.Nat.{ℕ}
use mathlib.Core.Path.{◌≡◌, refl, sym, subst⁻¹}
use mathlib.Core.Bool.{Bool, true, false, not, cond, ◌&&◌, true≢false}
use mathlib.Core.List.{List, [], ◌∷◌, ◌++◌}
use lib.Dec.{eqb}
use borrow.Author.Tests.{eqb-true, eq-eqb}
use Rattle.lists.proofs.Tests.{and_l, and_r}
use Rattle.answer.specs.Refusals.{Answered, refusal}
use Rattle.answer.specs.Rules.{Rule, answer, Passed}
use Rattle.answer.specs.Names.{Table, Names}

-- no rule names an entry, and each number passes a test
abbrev pub plain : (ℕ → Bool) → List Rule → Bool
plain test [] = true
plain test (r ∷ rs) = (eqb r.refusal.index 0 && test r.refusal.number) && plain test rs

module _ (P : Answered → Type 0) where
  -- one rule before others
  pub rule_then : (q : Rule) (rs : List Rule) → (q.passed ≡ false → P q.refusal) → (q.passed ≡ true → P (answer rs)) → P (answer (q ∷ rs))
  unfolding answer
  rule_then q rs here later = by q.passed refl
    where
      by : (b : Bool) → q.passed ≡ b → P (cond b (answer rs) q.refusal)
      by true e = later e
      by false e = here e

  -- rules that name no entry before others
  module _ (test : ℕ → Bool) (unnamed : (number : ℕ) → test number ≡ true → P (refusal number 0)) where
    here : (r : Rule) → eqb r.refusal.index 0 && test r.refusal.number ≡ true → P r.refusal
    here r h =
        let n = r.refusal.number in
        let i = r.refusal.index in
        subst⁻¹ (λ (k : ℕ). P (refusal n k)) (eqb-true i 0 (and_l (eqb i 0) (test n) h)) (unnamed n (and_r (eqb i 0) (test n) h))

    pub plain_then : (rs ss : List Rule) → plain test rs ≡ true → (Passed rs → P (answer ss)) → P (answer (rs ++ ss))
    plain_then [] ss h later = later tt
    plain_then (r ∷ rs) ss h later =
        let named = eqb r.refusal.index 0 && test r.refusal.number in
        rule_then r (rs ++ ss) (λ _. here r (and_l named (plain test rs) h)) (λ e. plain_then rs ss (and_r named (plain test rs) h) (λ p. later (e, p)))

-- ---- a test that 0 and every rule's number pass is passed by the number that is answered
abbrev pub numbers : (ℕ → Bool) → List Rule → Bool
numbers test [] = true
numbers test (r ∷ rs) = test r.refusal.number && numbers test rs

pub number_passes : (test : ℕ → Bool) → test 0 ≡ true → (rs : List Rule) → numbers test rs ≡ true → test (answer rs).number ≡ true
unfolding answer
number_passes test z [] h = z
number_passes test z (r ∷ rs) h =
    let here = test r.refusal.number in
    rule_then (λ (e : Answered). test e.number ≡ true) r rs (λ _. and_l here (numbers test rs) h) (λ _. number_passes test z rs (and_r here (numbers test rs) h))

-- ---- a table of names: a number that it does not have names no entry
abbrev pub aside : Table → ℕ → Bool
aside [] n = true
aside ((number, entry) ∷ rest) n = not (eqb n number) && aside rest n

pub aside_names : (T : Table) (n : ℕ) → aside T n ≡ true → Names T (refusal n 0)
aside_names [] n h = refl
aside_names ((number, entry) ∷ rest) n h =
    (λ e. absurd (other (eqb n number) (eq-eqb n number e) (and_l (not (eqb n number)) (aside rest n) h)), λ _. aside_names rest n (and_r (not (eqb n number)) (aside rest n) h))
  where
    other : (b : Bool) → b ≡ true → not b ≡ true → ⊥
    other true e h = true≢false (sym h)
    other false e h = true≢false (sym e)
