-- A subpalette is a part of the flat palette: where it ends, its length, and what holds of each number of the whole holds of each of its own.
-- Assumes nothing.
use Prim.Native.Nat.{ℕ, ◌+◌, ◌*◌, ◌/◌, ◌≤◌, ◌<◌}
use mathlib.Core.Path.{◌≡◌, subst⁻¹}
use mathlib.Core.List.{List}
use native.Mathlib.Omega.{arith}
use lib.ListN.{get_or, length}
use lib.Dec.{T}
use lib.Ieee.{Float, nan}
use lib.Ieee.Positive.{positive}
use lib.Ieee.Scale.{finite}
use Rattle.ieee.specs.Terms.{Within}
use Rattle.lists.proofs.Copies.{row_room, part_length, part_at}
use Rattle.color.specs.Color.{Finite, Bounded}
use Rattle.palette.specs.Palette.{Palette, Tile, sub_of, Present, Counted, Measured}

module _ (P : Palette) (R : Present P) (i : ℕ) (l : i < P.subs) where
  pub sub-room : i * (3 * P.stride) + 3 * P.stride ≤ length P.flat
  sub-room = row_room i P.subs (3 * P.stride) (length P.flat) l R.room

  -- what `part` asks
  pub part_asks : (P.have ≤ P.stride) × (i * (3 * P.stride) + 3 * P.stride ≤ length P.flat)
  part_asks = (R.present, sub-room)

  pub sub-length : length (sub_of P.flat P.stride P.have i) ≡ 3 * P.have
  sub-length = part_length nan P.flat (3 * P.stride) (3 * P.have) i (omega (arith, sub-room, R.present))

  pub sub-colours : length (sub_of P.flat P.stride P.have i) / 3 ≡ P.have
  sub-colours = third (length (sub_of P.flat P.stride P.have i)) sub-length
    where
      third : (z : ℕ) → z ≡ 3 * P.have → z / 3 ≡ P.have
      third z e = omega arith

  pub sub-all : (Q : Float → Type 0) → ((j : ℕ) → j < length P.flat → Q (get_or P.flat j nan)) → (j : ℕ) → j < length (sub_of P.flat P.stride P.have i) → Q (get_or (sub_of P.flat P.stride P.have i) j nan)
  sub-all Q f j m =
      let k : j < 3 * P.have = omega (arith, sub-length) in
      subst⁻¹ Q (part_at nan P.flat (3 * P.stride) (3 * P.have) i j k) (f (i * (3 * P.stride) + j) (omega (arith, sub-room, R.present)))

  pub sub-finite : Finite (sub_of P.flat P.stride P.have i)
  sub-finite = sub-all (λ x. T (finite x)) R.finite

  -- what the sums over it ask
  pub sub_measured : (X : Tile) (w : Float) → Counted X → T (positive w) → (s : List Float) → s ≡ sub_of P.flat P.stride P.have i → Measured s X w
  sub_measured X w C W s e = record { sub = subst⁻¹ Finite e sub-finite; tile = C; weight = W }

  pub sub-bounded : (k : ℕ) → Bounded P.flat k → Bounded (sub_of P.flat P.stride P.have i) k
  sub-bounded k = sub-all (λ x. Within x k 1)
