-- A nudge by 0.3 or 0.5 keeps every component within 4, where the palette is within 4 and the target within 2. Copies keep any bound. Assumes nothing.
use Prim.Native.Nat.{ℕ, ◌+◌, ◌*◌, ◌≤◌, ◌<◌}
use mathlib.Core.List.{List}
use native.Mathlib.Omega.{arith}
use lib.ListN.{get_or, length}
use lib.Dec.{lit≤, lit<}
use lib.Ieee.{Float, binary32, sub, mul, of_bits}
use Rattle.ieee.specs.Terms.{Within}
use Rattle.ieee.proofs.Within.{whole-exact, add-whole, mul-within}
use Rattle.color.specs.declared.Oklab.{Oklab}
use Rattle.color.specs.Color.{colour_at, Sized, Bounded}
use Rattle.color.proofs.Sizes.{bounded_put}
use Rattle.color.specs.Blend.{blend}
use Rattle.palette_edit.specs.Edits.{nudged_at, place_of, colour_copied, sub_copied}
use Rattle.palette_edit.proofs.Kept.{all-sub_copied}

abbrev one : Float
one = of_bits binary32 0x3f800000

-- an alpha of at most 1/2 that leaves at most 3/4, both rounded
pub record Gentle (alpha : Float) : Type 0 where
  pub part : ℕ
  pub rest : ℕ
  pub whole : ℕ
  pub some : 0 < whole
  pub takes : Within alpha part whole
  pub leaves : Within (sub binary32 one alpha) rest whole
  pub half : 2 * part ≤ whole
  pub quarters : 4 * rest ≤ 3 * whole

pub gentle_3 : Gentle (of_bits binary32 0x3e99999a)
unfolding of_bits sub
gentle_3 = record { part = 5033165; rest = 11744051; whole = 16777216; some = lit< tt; takes = lit≤ tt; leaves = lit≤ tt; half = lit≤ tt; quarters = lit≤ tt }

pub gentle_5 : Gentle (of_bits binary32 0x3f000000)
unfolding of_bits sub
gentle_5 = record { part = 1; rest = 1; whole = 2; some = lit< tt; takes = lit≤ tt; leaves = lit≤ tt; half = lit≤ tt; quarters = lit≤ tt }

-- the two terms are at most 3 and 1
pub blend-within : (alpha : Float) → Gentle alpha → (c t : Float) → Within c 4 1 → Within t 2 1 → Within (blend alpha c t) 4 1
blend-within alpha G c t C T =
    add-whole binary32 (mul binary32 (sub binary32 one alpha) c) (mul binary32 alpha t) 3 1 (lit≤ tt)
    (mul-within binary32 (sub binary32 one alpha) c G.rest G.whole 4 1 3 1 G.some (lit< tt) (whole-exact binary32 3 (lit≤ tt)) (omega (arith, G.quarters)) G.leaves C)
    (mul-within binary32 alpha t G.part G.whole 2 1 1 1 G.some (lit< tt) (whole-exact binary32 1 (lit≤ tt)) (omega (arith, G.half)) G.takes T)

module _ (pal : List Float) (B : Bounded pal 4) where
  pub nudged-bounded : (place : ℕ) (t : Oklab) (alpha : Float) → Gentle alpha → Sized t 2 → 3 * place + 2 < length pal → Bounded (nudged_at pal place t alpha) 4
  nudged-bounded place t alpha G T room =
      bounded_put pal place _ 4 B
      (record {
        sl = blend-within alpha G (get_or pal (3 * place) _) t.l (B (3 * place) (omega arith)) T.sl;
        sa = blend-within alpha G (get_or pal (3 * place + 1) _) t.a (B (3 * place + 1) (omega arith)) T.sa;
        sb = blend-within alpha G (get_or pal (3 * place + 2) _) t.b (B (3 * place + 2) room) T.sb;
      })

pub colour_copied-bounded : (pal : List Float) (k c i from to : ℕ) → Bounded pal k → 3 * place_of c i from + 2 < length pal → Bounded (colour_copied pal c i from to) k
colour_copied-bounded pal k c i from to B room =
    bounded_put pal (place_of c i to) (colour_at pal (place_of c i from)) k B
    (record { sl = B (3 * place_of c i from) (omega arith); sa = B (3 * place_of c i from + 1) (omega arith); sb = B (3 * place_of c i from + 2) room })

pub sub_copied-bounded : (pal : List Float) (k c have from to : ℕ) → have ≤ c → from * (3 * c) + 3 * c ≤ length pal → to * (3 * c) + 3 * c ≤ length pal → Bounded pal k → Bounded (sub_copied pal c have from to) k
sub_copied-bounded pal k c have from to H F G B = all-sub_copied pal c have from to H F G (λ x. Within x k 1) B
