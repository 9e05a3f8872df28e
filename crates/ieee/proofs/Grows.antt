-- A sum of two values that are not negative is no smaller than the first, by keys: what lets a walk over a sum stop early. Assumes nothing.
use Prim.Native.Nat.{◌≤◌}
use lib.Ieee.{Float, Format, add}
use Rattle.ieee.proofs.Plus.{le-add}
use Rattle.ieee.specs.Terms.{key, Good}
use Rattle.ieee.proofs.Keys.{le→keys}
use Rattle.ieee.proofs.Goods.{add-good}

pub add-grows : (f : Format) (x y : Float) → Good f x → Good f y → key f x ≤ key f (add f x y)
add-grows f x y g h = le→keys f x (add f x y) g (add-good f x y g h) (le-add f x y g.fit g.pos h.pos)
