-- What it is for a compiled function to keep a law of what its caller sees, in the prover's own terms. Definitions only. Assumes nothing.
use Rattle.std.specs.Prelude.{◌≡◌}
use seplogic.Ra.Ura.{Ura}
use base.Logic.{emp}
use prog.Model.{Model}
use prog.Wired.{Code, Wired}
use mir.Syntax.{Callee}
use types.Logic.{Logic}
use contract.Lifetimes.{Lfts}
use contract.Monad.{fact}
use contract.Running.{Running}
use denote.Triple.Entry.{Args, Res}
use denote.Triple.Clauses.{Ended, Clauses, AtExit, closing}
use denote.Triple.Spec.{Meets}

-- a compiled function: its signature, what its caller sees (made of the arguments, the result and what the arguments refer to at the return), the name by
-- which it is called and the code that stands under it
pub record Compiled (O : Type 0) : Type 2 where
  pub ended : Ended
  pub seen : (κs : Lfts ended.signature.lifetimes) → Args ended.signature κs → Res ended.signature κs → AtExit ended κs → O
  pub name : Callee
  pub code : Code

-- what is defined of a call, over the arguments
abbrev pub Defined : {O : Type 0} → Compiled O → Type 0
Defined {O} f = (κs : Lfts f.ended.signature.lifetimes) → Args f.ended.signature κs → O

-- a law of what a caller sees, over the arguments
abbrev pub Law : {O : Type 0} → Compiled O → Type 1
Law {O} f = (κs : Lfts f.ended.signature.lifetimes) → Args f.ended.signature κs → O → Type 0

-- the contract that asks nothing and promises the law
abbrev pub promising : {O : Type 0} (f : Compiled O) {M : Type 1} (𝓤 : Ura M) → Law f → Clauses 𝓤 f.ended
promising f 𝓤 P κs a = record { ghost = Unit {0}; requires = λ g. emp 𝓤; ensures = λ g r e. fact 𝓤 (P κs a (f.seen κs a r e)) }

-- the compiled function keeps the law, wherever its name means its code
abbrev pub Keeps : {O : Type 0} (f : Compiled O) → Law f → Type 2
Keeps f P =
    (M : Type 1) (𝓤 : Ura M) (𝓛 : Logic 𝓤) (𝓜 : Model 𝓤 𝓛.H) (𝓡 : Running 𝓤 𝓛.H 𝓜)
    → Wired 𝓡.env f.code → Meets 𝓛 f.ended.signature (𝓡.run (𝓡.env f.name)) (closing 𝓛 f.ended (promising f 𝓤 P))

-- its contract: the caller sees what is defined
abbrev pub Sees : {O : Type 0} (f : Compiled O) → Defined f → Type 2
Sees f defined = Keeps f (λ κs a x. x ≡ defined κs a)

-- what a caller sees is of one result alone: calls that left the same to see gave the same result
abbrev pub Determines : {O : Type 0} → Compiled O → Type 0
Determines f =
    (κs : Lfts f.ended.signature.lifetimes) (a : Args f.ended.signature κs) (r q : Res f.ended.signature κs) (e d : AtExit f.ended κs)
    → f.seen κs a r e ≡ f.seen κs a q d → r ≡ q
