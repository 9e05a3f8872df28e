-- What a pass over a part of a sheet answers, by the format. Definitions only. Assumes nothing.
use Rattle.std.specs.Prelude.{ℕ, ◌+◌, ◌-◌, Bool, List, length, drop, Result, Ok, Err}
use Rattle.bits.specs.Bits.{bits}
use Rattle.format.specs.Format.{Res, fault, got, Format}
use Rattle.sheet_colours.specs.declared.At.{At}
use Rattle.sheet_colours.specs.declared.Fault.{Fault}
use Rattle.sheet_colours.specs.declared.Kind.{Kind}
use Rattle.sheet_colours.specs.declared.Kind.TheVariants.{Bytes, Tiles, Counts, Component}

-- a fault's number and the components that it stands behind
pub record Stopped : Type 0 where
  pub number : ℕ
  pub passed : ℕ

-- where the bits that are left begin and the components that were read; or the fault
abbrev pub Step : Type 0
Step = Result At Stopped

abbrev pub reached : ℕ → ℕ → Step
reached q i = Ok (record { bit = q; passed = i })

abbrev pub stopped : ℕ → ℕ → Step
stopped n i = Err (record { number = n; passed = i })

-- the number of a fault of each kind, and an answer by it
abbrev pub number_of : Kind → ℕ
number_of Bytes = 13
number_of Tiles = 5
number_of Counts = 6
number_of Component = 7

abbrev pub numbered : Result At Fault → Step
numbered (Ok a) = Ok a
numbered (Err f) = stopped (number_of f.kind) f.passed

-- of all bits l
abbrev pub step_of : {A : Type 0} → (A → ℕ) → List Bool → Res A → Step
step_of counts l (fault n i) = stopped n i
step_of counts l (got a r) = reached (length l - length r) (counts a)

-- F read from bit p of bytes
abbrev pub step_at : {A : Type 0} → Format A → List ℕ → ℕ → Step
step_at F s p = step_of F.counts (bits s) (F.parse (drop p (bits s)))

-- the same behind k components more
abbrev pub behind : ℕ → Step → Step
behind k (Ok a) = reached a.bit (k + a.passed)
behind k (Err f) = stopped f.number (k + f.passed)
