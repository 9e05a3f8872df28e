-- What stands at a bit of a sheet that can be read there. Definitions only. Assumes nothing.
use Rattle.std.specs.Prelude.{ℕ, ◌≡◌, Bool, List, [], drop}
use Rattle.bits.specs.Bits.{bits}
use Rattle.format.specs.Format.{Res, fault, got, Format}

-- F reads a value at bit p of bytes
abbrev pub Reads : {A : Type 0} → Format A → List ℕ → ℕ → Type 0
Reads {A} F s p = (a : A) × (r : List Bool) × (F.parse (drop p (bits s)) ≡ got a r)

-- the list that is read there
abbrev pub list_of : {A : Type 0} → Res (List A) → List A
list_of (fault n i) = []
list_of (got a r) = a

abbrev pub list_at : {A : Type 0} → Format (List A) → List ℕ → ℕ → List A
list_at F s p = list_of (F.parse (drop p (bits s)))
