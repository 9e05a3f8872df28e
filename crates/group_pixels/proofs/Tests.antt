-- Two tests, one after the other. Assumes nothing.
use mathlib.Core.Path.{◌≡◌}
use mathlib.Core.Bool.{Bool, true, ◌&&◌}

-- the first test holds, and the rest decides
pub on : {a b v : Bool} → a ≡ true → b ≡ v → (a && b) ≡ v
on e f = rw e f
