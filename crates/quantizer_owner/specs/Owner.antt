-- The subpalette that a tile goes to, as hints have it. Definitions only. Assumes nothing.
use Rattle.std.specs.Prelude.{ℕ, cond, List, get_or, ltb}

-- the subpalette that tile t goes to, as the hints left by the best two have it; at one subpalette they name none
abbrev pub owner_in : ℕ → List ℕ → ℕ → ℕ
owner_in s hints t = cond (ltb 1 s) (get_or hints t 0) 0
