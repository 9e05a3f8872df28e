-- A function whose caller sees what is defined keeps every law of what is defined. Assumes nothing.
use Prim.Native.Nat.{ℕ, ◌/◌, ◌%◌, ◌<◌}
use mathlib.Core.Path.{◌≡◌, sym, ap, subst⁻¹, ◌∙◌}
use mathlib.Core.Logic.{◌≢◌}
use borrow.Author.Tests.{ne_eqb}
use contract.Lifetimes.{Lfts}
use contract.Monad.{fact_mono, fm→mono}
use denote.Triple.Entry.{Args}
use denote.Triple.Clauses.{at_exit}
use denote.Triple.Table.{run_framed}
use denote.Triple.Weaken.{weaken}
use Rattle.answer.specs.Refusals.{Answered}
use Rattle.answer.specs.Outcome.{Outcome, outcome}
use Rattle.answer.specs.Words.{packed, value_of, word}
use Rattle.answer.proofs.Words.{apart}
use Rattle.demands.specs.Calls.{Call}
use Rattle.contracts.specs.Answers.{Answers, Tells}
use Rattle.contracts.specs.Keeps.{Compiled, Defined, Law, promising, Keeps, Sees}

module _ {O : Type 0} (f : Compiled O) (defined : Defined f) (P : Law f) where
  pub keeps : ((κs : Lfts f.ended.signature.lifetimes) (a : Args f.ended.signature κs) → P κs a (defined κs a)) → Sees f defined → Keeps f P
  keeps law met M 𝓤 𝓛 𝓜 𝓡 wired =
      weaken 𝓛 f.ended (promising f 𝓤 (λ κs a x. x ≡ defined κs a)) (λ κs a. (promising f 𝓤 P κs a).ensures)
      (λ κs a g r ws.
      let x = f.seen κs a r (at_exit f.ended κs a ws) in
      fact_mono 𝓤 (x ≡ defined κs a) (P κs a x) (λ e. subst⁻¹ (P κs a) e (law κs a)))
      (𝓡.run (𝓡.env f.name)) (λ vs. fm→mono 𝓤 (𝓡.run (𝓡.env f.name) vs) (run_framed 𝓤 𝓛.H 𝓜 𝓡 (𝓡.env f.name) vs)) (met M 𝓤 𝓛 𝓜 𝓡 wired)

-- the first demand of a definition is one of what its caller sees
module _ {A M : Type 0} {definition : Outcome A M} {refusal_of : A → Answered} {table : Answered} {refused : Answered → A} {lent : M} (c : Call definition refusal_of table refused lent) where
  pub answers : Answers refusal_of table refused lent definition
  answers = record { numbered = c.numbers; refuses = c.refuses }

  -- and of what an export tells of it: its word is made of what the answer says is wrong and of a value
  pub tells : (value : A → ℕ) (tell : Outcome A M → Outcome ℕ M) → ((x : Outcome A M) → tell x ≡ outcome (word (refusal_of x.answer) (value x.answer)) x.after)
      → table.number < 256 → Tells table lent (tell definition)
  tells value tell is small =
      let worded : (tell definition).answer ≡ word table (value definition.answer) =
      ap (λ (x : Outcome ℕ M). x.answer) (is definition) ∙ ap (λ (e : Answered). word e (value definition.answer)) c.numbers in
      let parts = apart table (value definition.answer) small in
      record {
        numbered = ap (λ (k : ℕ). k % 256) worded ∙ parts.low;
        indexed = λ h. ap (λ (k : ℕ). k / 256) worded ∙ parts.rest ∙ refused-value (value definition.answer) h;
        refuses = λ h.
            is definition ∙ ap (λ (x : Outcome A M). outcome (word (refusal_of x.answer) (value x.answer)) x.after) (c.refuses h)
            ∙ ap (λ (e : Answered). outcome (word e (value (refused table))) lent) (sym (ap (λ (x : Outcome A M). refusal_of x.answer) (c.refuses h)) ∙ c.numbers)
            ∙ ap (λ (k : ℕ). outcome (packed table.number k) lent) (refused-value (value (refused table)) h);
      }
    where
      refused-value : (v : ℕ) → table.number ≢ 0 → value_of table v ≡ table.index
      refused-value v h = rw (ne_eqb table.number 0 h)
