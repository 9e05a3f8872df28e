-- Colours: the squared distance, places of a flat list of three numbers a colour, sums and means. Definitions only. Assumes nothing.
use Rattle.std.specs.Prelude.{ℕ, zero, suc, ◌+◌, ◌*◌, ◌<◌, List, get_or, length, set, pos, T, Float}
use Rattle.std.specs.Float.Ieee.Scale.{finite}
use Rattle.std.specs.Float.{nan, binary32}
use Rattle.std.specs.Float.Ieee.{add, sub, mul, div, of_int, of_bits}
use Rattle.ieee.specs.Terms.{Within}
use Rattle.color.specs.declared.Oklab.{Oklab}

-- each product and each sum is rounded once
abbrev pub sqdist_of : Oklab → Oklab → Float → Float
sqdist_of p q w =
    let dl = sub binary32 p.l q.l in
    let da = sub binary32 p.a q.a in
    let db = sub binary32 p.b q.b in
    add binary32 (mul binary32 dl dl) (mul binary32 w (add binary32 (mul binary32 da da) (mul binary32 db db)))

-- colour i of a flat list
abbrev pub colour_at : List Float → ℕ → Oklab
colour_at s i = record { l = get_or s (3 * i) nan; a = get_or s (3 * i + 1) nan; b = get_or s (3 * i + 2) nan }

-- colour i becomes x
unfoldable pub put_at : List Float → ℕ → Oklab → List Float
put_at s i x = set (set (set s (3 * i) x.l) (3 * i + 1) x.a) (3 * i + 2) x.b

abbrev pub black : Oklab
black = record { l = of_bits binary32 0; a = of_bits binary32 0; b = of_bits binary32 0 }

abbrev pub plus_of : Oklab → Oklab → Oklab
plus_of x q = record { l = add binary32 x.l q.l; a = add binary32 x.a q.a; b = add binary32 x.b q.b }

abbrev pub scaled_of : Oklab → Float → Oklab
scaled_of q x = record { l = mul binary32 q.l x; a = mul binary32 q.a x; b = mul binary32 q.b x }

-- x with m pixels of the colour q
abbrev pub plus_times : Oklab → Oklab → ℕ → Oklab
plus_times x q m = plus_of x (scaled_of q (of_int binary32 (pos m)))

-- x divided by n
abbrev pub over_of : Oklab → ℕ → Oklab
over_of x n =
    let f = of_int binary32 (pos n) in
    record { l = div binary32 x.l f; a = div binary32 x.a f; b = div binary32 x.b f }

-- c 0 + .. + c (n - 1), in that order from 0
unfoldable pub sum_of : (ℕ → Oklab) → ℕ → Oklab
sum_of c zero = black
sum_of c (suc n) = plus_of (sum_of c n) (c n)

abbrev pub mean_of : (ℕ → Oklab) → ℕ → Oklab
mean_of c n = over_of (sum_of c n) n

-- ---- bounds
-- every component is finite
pub record Real (p : Oklab) : Type 0 where
  pub rl : T (finite p.l)
  pub ra : T (finite p.a)
  pub rb : T (finite p.b)

-- every component is finite and at most k in size
pub record Sized (p : Oklab) (k : ℕ) : Type 0 where
  pub sl : Within p.l k 1
  pub sa : Within p.a k 1
  pub sb : Within p.b k 1

-- every number of a list is finite
abbrev pub Finite : List Float → Type 0
Finite s = (i : ℕ) → i < length s → T (finite (get_or s i nan))

-- every number of a list is finite and at most k in size
abbrev pub Bounded : List Float → ℕ → Type 0
Bounded s k = (i : ℕ) → i < length s → Within (get_or s i nan) k 1
