-- What a read that fails leaves: no byte that came before it is lost. Definitions only. Assumes nothing.
use Rattle.std.specs.Prelude.{ℕ, ◌≤◌, List, Option, length, take}
use Rattle.std.specs.Io.KnownBytes.{Consumes}

-- the bytes that were consumed stand at the start of `out`
abbrev pub TakenAtFront : Option (List ℕ) → Option (List ℕ) → List ℕ → Type 0
TakenAtFront old new out = (k : ℕ) × (k ≤ length out) × Consumes old new (take k out)
