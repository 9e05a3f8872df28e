-- A walk over tiles: what is held, step by step, each tile's step from what the tiles before it left. Definitions only. Assumes nothing.
use Rattle.std.specs.Prelude.{ℕ, zero, suc}

-- after the first t tiles
unfoldable pub walk : {A : Type 0} → (ℕ → A → A) → A → ℕ → A
walk step first zero = first
walk step first (suc t) = step t (walk step first t)
