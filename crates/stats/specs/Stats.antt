-- The least of n values and the least two: over any values d 0 .. d (n - 1). Definitions only. Assumes nothing.
use Rattle.std.specs.Prelude.{ℕ, zero, suc, Bool, true, false, ◌&&◌, List, get_or, eqb, ltb, Float}
use Rattle.std.specs.Float.{nan, inf}
use Rattle.std.specs.Float.Ieee.{lt}
use Rattle.stats.specs.declared.Near.{Near}
use Rattle.stats.specs.declared.Two.{Two}

-- the values of a list
abbrev pub value_at : List Float → ℕ → Float
value_at xs i = get_or xs i nan

abbrev pub pick_near : Bool → Near → Near → Near
pick_near true x y = x
pick_near false x y = y

-- index n at d is taken where it is strictly less than b's
abbrev pub step_near : Near → ℕ → Float → Near
step_near b n d = pick_near (lt d b.dist) (record { index = n; dist = d }) b

-- the least of the first n: from index 0 and infinity, only a strictly smaller one is taken
unfoldable pub least_of : (ℕ → Float) → ℕ → Near
least_of d zero = record { index = 0; dist = inf false }
least_of d (suc n) = step_near (least_of d n) n (d n)

abbrev pub pick_two : Bool → Two → Two → Two
pick_two true x y = x
pick_two false x y = y

-- index n at d before b's first, which then is next
abbrev pub led : Two → ℕ → Float → Two
led b n d = record { index = n; dist = d; next = b.index; second = b.dist }

-- index n at d behind b's first
abbrev pub followed : Two → ℕ → Float → Two
followed b n d = record { index = b.index; dist = b.dist; next = n; second = d }

-- index n at d is the least where it is strictly less than b's, or next where it is strictly less than the second
abbrev pub step_two : Two → ℕ → Float → Two
step_two b n d = pick_two (lt d b.dist) (led b n d) (pick_two (lt d b.second) (followed b n d) b)

-- the first n values, one after the other: from index 0 and infinity, twice
unfoldable pub scan_two : (ℕ → Float) → ℕ → Two
scan_two d zero = record { index = 0; dist = inf false; next = 0; second = inf false }
scan_two d (suc n) = step_two (scan_two d n) n (d n)

-- b of n values: where none but the least is below infinity the next is the first other, if there is one
abbrev pub with_other : ℕ → Two → Two
with_other n b = pick_two (eqb b.next b.index && ltb 1 n) (followed b 1 b.second) b

-- the least two of the first n: infinity where there are fewer, and the least's own index where it is alone
unfoldable pub least_two : (ℕ → Float) → ℕ → Two
least_two d n = with_other n (scan_two d n)
