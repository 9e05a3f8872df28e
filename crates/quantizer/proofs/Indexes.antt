-- Every index that a stage chooses is one of those present, and its place is one of the palette's. Assumes nothing.
use Prim.Native.Nat.{ℕ, ◌+◌, ◌*◌, ◌/◌, ◌≤◌, ◌<◌}
use mathlib.Core.Path.{◌≡◌, subst}
use mathlib.Core.Bool.{Bool, true, false, cond}
use mathlib.Core.List.{List}
use native.Mathlib.Nat.{le_trans, mul-le-mul_right}
use native.Mathlib.Omega.{arith}
use lib.ListN.{length}
use lib.Dec.{eqb, ltb}
use lib.Ieee.{Float}
use Rattle.lists.proofs.Copies.{row_room}
use Rattle.color.specs.declared.Oklab.{Oklab}
use Rattle.color.specs.Color.{colour_at}
use Rattle.stats.proofs.BestTwo.{two-below}
use Rattle.job.specs.Job.{Job, tile_of}
use Rattle.stats.specs.declared.Near.{Near}
use Rattle.palette.specs.Palette.{gap, sub_of}
use Rattle.palette_two.specs.PaletteTwo.{nearest_two_of}
use Rattle.palette_edit.proofs.Kept.{place-room}
use Rattle.palette_tile.specs.Tiles.{fit_at, winner, Shown}
use Rattle.palette_tile.proofs.Present.{shown-present, winner-below, pair-below, part-colours, part-nearest}
use Rattle.palette_tile.proofs.Turns.{fit-below}
use Rattle.quantizer.specs.Sums.{sums_at, greatest, places}
use Rattle.quantizer.proofs.Choices.{greatest-below}
use Rattle.quantizer.specs.Seeding.{worst_of}
use Rattle.quantizer.specs.Growing.{needs_of, split_of}
use Rattle.quantizer.specs.Replacing.{pair_at, owner_of}
use Rattle.quantizer.specs.Drawing.{target_of}
use Rattle.quantizer.proofs.Lengths.{length-distances, length_needs}

-- ---- what is present of a job's palette
module _ (J : Job) (pal : List Float) (n have : ℕ) (S : Shown J pal n have) where
  pub shown-subs : n ≤ 16
  shown-subs = omega (arith, S.most, S.ready.sizes.few)

  pub shown-few : n * J.C ≤ places
  shown-few = le_trans (mul-le-mul_right J.C S.most) S.ready.sizes.cells

  -- the places of subpalette i are among `places`
  pub row-placed : (i : ℕ) → i < n → i * J.C + J.C ≤ places
  row-placed i l = row_room i n J.C places l shown-few

  -- b is a tile's fit
  pub fit_row : (t : ℕ) (b : Near) → b ≡ fit_at J pal n have t → b.index * J.C + J.C ≤ places
  fit_row t b e = row-placed b.index (fit-below J pal n have t b e S)

  pub place-placed : (i j : ℕ) → i < n → j < have → i * J.C + j < places
  place-placed i j l m = omega (arith, row-placed i l, S.present)

  pub place_in : (i j : ℕ) → i < n → j < have → 3 * (i * J.C + j) + 2 < length pal
  place_in i j l m = place-room n J.C i j (length pal) l (omega (arith, S.present)) (shown-present J pal n have S).room

  pub part-nearest-two : (i : ℕ) → i < n → (q : Oklab) → (nearest_two_of (sub_of pal J.C have i) q J.weight).index < have
  part-nearest-two i l q =
      subst (λ (k : ℕ). (nearest_two_of (sub_of pal J.C have i) q J.weight).index < k) (part-colours J pal n have S i l)
      (two-below (gap (sub_of pal J.C have i) q J.weight) (length (sub_of pal J.C have i) / 3) (omega (arith, part-colours J pal n have S i l, S.some)))

  pub target_in : (t k : ℕ) → 3 * target_of J pal n have t k + 2 < length pal
  unfolding target_of
  target_in t k = place_in (winner J pal n have t) _ (winner-below J pal n have S t) (part-nearest J pal n have S (winner J pal n have t) (winner-below J pal n have S t) (colour_at (tile_of J t) k))

-- ---- the stages
pub worst_below : (J : Job) (pal : List Float) (n : ℕ) → Shown J pal n 1 → worst_of J pal n < n
unfolding worst_of
worst_below J pal n S = greatest-below _ 0 n (omega (arith, length-distances J pal n J.T, shown-subs J pal n 1 S)) S.subs

pub split_below : (J : Job) (pal : List Float) (have : ℕ) → Shown J pal J.S have → (i : ℕ) → i < J.S → split_of J pal have i < have
unfolding split_of
split_below J pal have S i l = either (eqb have 1)
  where
    either : (b : Bool) → cond b 0 (greatest (sums_at (needs_of J pal have J.T) (i * J.C) have)) < have
    either true = S.some
    either false = greatest-below (needs_of J pal have J.T) (i * J.C) have (omega (arith, length_needs J pal have J.T, row-placed J pal J.S have S i l, S.present)) S.some

pub owner-below : (J : Job) (pal : List Float) → Shown J pal J.S J.C → (t : ℕ) → owner_of J pal t < J.S
unfolding owner_of
owner-below J pal S t = either (ltb 1 J.S)
  where
    either : (b : Bool) → cond b (pair_at J pal t).index 0 < J.S
    either true = pair-below J pal J.S J.C S t
    either false = S.subs
