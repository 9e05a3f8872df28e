-- Lists of rules one after the other: the first that answers decides. Assumes nothing.
use Prim.Native.Nat.{ℕ}
use mathlib.Core.Path.{◌≡◌, refl, sym, ap, ◌∙◌}
use mathlib.Core.Bool.{Bool, true, false, not, cond}
use mathlib.Core.List.{List, [], ◌∷◌, ◌++◌}
use native.Mathlib.Omega.{arith}
use lib.Dec.{eqb, ltb}
use borrow.Author.Tests.{eqb-true, eqb-false, eq-eqb, ne_eqb, ltb-true, not-true, not-false}
use Rattle.lists.proofs.Tests.{and_l, and_r}
use Rattle.answer.specs.Refusals.{Answered, nothing}
use Rattle.answer.specs.Rules.{Rule, answer, numbered, Passed}

not-zero : (n : ℕ) → ltb 0 n ≡ true → n ≡ 0 → ⊥
not-zero n h e = omega (arith, ltb-true 0 n h)

pub answer_then : (rs ss : List Rule) → numbered rs ≡ true → answer (rs ++ ss) ≡ cond (eqb (answer rs).number 0) (answer ss) (answer rs)
unfolding answer numbered
answer_then [] ss h = refl
answer_then (r ∷ rs) ss h = by r.passed refl (answer_then rs ss (and_r (ltb 0 r.refusal.number) (numbered rs) h))
  where
    by : (b : Bool) → r.passed ≡ b → answer (rs ++ ss) ≡ cond (eqb (answer rs).number 0) (answer ss) (answer rs)
        → cond r.passed (answer (rs ++ ss)) r.refusal
        ≡ cond (eqb (cond r.passed (answer rs) r.refusal).number 0) (answer ss) (cond r.passed (answer rs) r.refusal)
    by true e rest = rw e rest
    by false e rest = rw (e, ne_eqb r.refusal.number 0 (not-zero r.refusal.number (and_l (ltb 0 r.refusal.number) (numbered rs) h)))

-- the first list answers
pub stops : (rs ss : List Rule) (a : Answered) → numbered rs ≡ true → a ≡ answer rs → (a.number ≡ 0 → ⊥) → a ≡ answer (rs ++ ss)
stops rs ss a h e n = rw (answer_then rs ss h, ← e, ne_eqb a.number 0 n)

-- the first list passes, and the second answers
pub goes : (rs ss : List Rule) (a b : Answered) → numbered rs ≡ true → a ≡ answer rs → a.number ≡ 0 → b ≡ answer ss → b ≡ answer (rs ++ ss)
goes rs ss a b h e z w = rw (answer_then rs ss h, ← e, eq-eqb a.number 0 z, ← w)

-- 0 of both where the whole is 0
pub both_pass : (rs ss : List Rule) → numbered rs ≡ true → (answer (rs ++ ss)).number ≡ 0 → ((answer rs).number ≡ 0) × ((answer ss).number ≡ 0)
both_pass rs ss h e = by (eqb (answer rs).number 0) refl (sym (ap (λ (x : Answered). x.number) (answer_then rs ss h)) ∙ e)
  where
    by : (b : Bool) → eqb (answer rs).number 0 ≡ b → (cond (eqb (answer rs).number 0) (answer ss) (answer rs)).number ≡ 0
        → ((answer rs).number ≡ 0) × ((answer ss).number ≡ 0)
    by true k f = (eqb-true (answer rs).number 0 k, rw k at f)
    by false k f = absurd (eqb-false (answer rs).number 0 k (rw k at f))

-- a rule that passes leaves it to the rest, one that fails answers
pub skips : (q : Rule) (a : Answered) (rs : List Rule) → q.passed ≡ true → a ≡ answer rs → a ≡ answer (q ∷ rs)
unfolding answer
skips q a rs h e = rw (h, e)

pub fails : (q : Rule) (rs : List Rule) → q.passed ≡ false → q.refusal ≡ answer (q ∷ rs)
unfolding answer
fails q rs h = rw h

-- no rule is left
pub none : nothing ≡ answer []
unfolding answer
none = refl

-- the same of a test that the code made
pub refuses : (q : Rule) (r : Bool) (rs : List Rule) → r ≡ q.passed → not r ≡ true → q.refusal ≡ answer (q ∷ rs)
refuses q r rs e h = fails q rs (sym e ∙ not-true r h)

pub passes : (q : Rule) (a : Answered) (r : Bool) (rs : List Rule) → r ≡ q.passed → not r ≡ false → a ≡ answer rs → a ≡ answer (q ∷ rs)
passes q a r rs e h w = skips q a rs (sym e ∙ not-false r h) w

-- 0 exactly where every rule passes
pub all_pass : (rs : List Rule) → numbered rs ≡ true → (answer rs).number ≡ 0 → Passed rs
unfolding answer numbered
all_pass [] h e = tt
all_pass (r ∷ rs) h e = by r.passed refl (λ k. all_pass rs (and_r (ltb 0 r.refusal.number) (numbered rs) h) k)
  where
    by : (b : Bool) → r.passed ≡ b → ((answer rs).number ≡ 0 → Passed rs) → (r.passed ≡ true) × Passed rs
    by true k rest = (k, rest (rw k at e))
    by false k rest = absurd (not-zero r.refusal.number (and_l (ltb 0 r.refusal.number) (numbered rs) h) (rw k at e))

-- and then it answers nothing
pub pass_all : (rs : List Rule) → Passed rs → nothing ≡ answer rs
unfolding answer
pass_all [] p = refl
pass_all (r ∷ rs) p = rw (p.0, ← pass_all rs p.1)

pub passed-number : (rs : List Rule) → Passed rs → (answer rs).number ≡ 0
passed-number rs p = ap (λ (x : Answered). x.number) (sym (pass_all rs p))

pub number-nothing : (rs : List Rule) → numbered rs ≡ true → (answer rs).number ≡ 0 → nothing ≡ answer rs
number-nothing rs h e = pass_all rs (all_pass rs h e)

-- ---- lists of rules in a row: all pass exactly where each list's pass
pub passed_split : (rs ss : List Rule) → Passed (rs ++ ss) → Passed rs × Passed ss
passed_split [] ss h = (tt, h)
passed_split (r ∷ rs) ss h = let x = passed_split rs ss h.1 in ((h.0, x.0), x.1)

pub passed-join : (rs ss : List Rule) → Passed rs → Passed ss → Passed (rs ++ ss)
passed-join [] ss h k = k
passed-join (r ∷ rs) ss h k = (h.0, passed-join rs ss h.1 k)
