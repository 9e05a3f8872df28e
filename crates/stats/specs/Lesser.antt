-- The lesser of two values, and a least value taken in four lanes. Assumes nothing.
use Rattle.std.specs.Prelude.{cond, Float}
use Rattle.std.specs.Float.Ieee.{lt}

-- x where it is strictly less, else y
unfoldable pub lesser_of : Float → Float → Float
lesser_of x y = cond (lt x y) x y
