-- A tile's turn, whatever its step: an empty tile is passed over, another's step is taken with its fit; what the parts that the code takes are asked for
-- and come to, they are for the subpalette that the tile goes to. Assumes nothing.
use Prim.Native.Nat.{ℕ, ◌+◌, ◌*◌, ◌≤◌, ◌<◌}
use mathlib.Core.Path.{◌≡◌, sym, ap, subst⁻¹, ◌∙◌}
use mathlib.Core.Bool.{Bool, true, false, cond}
use mathlib.Core.List.{List}
use lib.ListN.{length, set}
use lib.Ieee.{Float}
use borrow.Author.Tests.{eqb-true}
use Rattle.job.specs.Job.{Job, size_of, tile_of, counts_of, is_empty}
use Rattle.job.proofs.Tiles.{counts-length}
use Rattle.stats.specs.declared.Near.{Near}
use Rattle.palette.specs.Palette.{Tile, tile_with, sub_of}
use Rattle.palette_tile.specs.Tiles.{tile_at, fit_at, winner, hint_step, Shown, Paired}
use Rattle.palette_tile.proofs.Present.{winner-below, shown-part}

-- r is what the code's test of an empty tile answers
module _ (J : Job) (t : ℕ) (r : Bool) (R : r ≡ is_empty J t) where
  pub passed_over : {A : Type 0} (a b : A) → r ≡ true → a ≡ cond (is_empty J t) a b
  passed_over a b p = sym (ap (λ (z : Bool). cond z a b) (sym R ∙ p))

  pub taken_up : {A : Type 0} (a b : A) {x : A} → r ≡ false → x ≡ b → x ≡ cond (is_empty J t) a b
  taken_up a b p e = e ∙ sym (ap (λ (z : Bool). cond z a b) (sym R ∙ p))

module _ (J : Job) (pal : List Float) (n have : ℕ) (hints : List ℕ) (t : ℕ) (K : Paired J pal n have hints t) (r : Bool) (R : r ≡ is_empty J t) where
  -- an empty one has no colours, and keeps its hint
  pub no_colours : r ≡ true → length (tile_at J t).counts ≡ 0
  no_colours p = counts-length J K.shown.ready t K.tile ∙ eqb-true (size_of J.tiles t) 0 (sym R ∙ p)

  pub hint-kept : r ≡ true → hints ≡ hint_step J pal n have t hints
  unfolding hint_step
  hint-kept p = passed_over J t r R hints (set hints t (winner J pal n have t)) p

  module _ (p : r ≡ false) where
    pub hint-written : (b : Near) → b ≡ fit_at J pal n have t → (after : List ℕ) → after ≡ set hints t b.index → after ≡ hint_step J pal n have t hints
    unfolding hint_step
    hint-written b B after e = taken_up J t r R hints (set hints t (winner J pal n have t)) p (e ∙ ap (λ (x : Near). set hints t x.index) B)

-- ---- a tile that goes to subpalette k of the n present, which the code calls i
module _ (J : Job) (pal : List Float) (n have : ℕ) (S : Shown J pal n have) (i k : ℕ) (e : i ≡ k) (l : k < n) where
  pub goes_below : i < n
  goes_below = subst⁻¹ (λ (x : ℕ). x < n) e l

  pub goes_part : (have ≤ J.C) × (i * (3 * J.C) + 3 * J.C ≤ length pal)
  goes_part = shown-part J pal n have S i goes_below

module _ (J : Job) (pal : List Float) (have : ℕ) (t i k : ℕ) (e : i ≡ k) (sub tile : List Float) (part : List ℕ) (P : sub ≡ sub_of pal J.C have i) (E : tile ≡ tile_of J t) (C : part ≡ counts_of J t) where
  pub goes_same : {A : Type 0} (f : ℕ → List Float → Tile → A) → f i sub (tile_with tile part) ≡ f k (sub_of pal J.C have k) (tile_at J t)
  goes_same f =
      ap (λ (x : List Float). f i x (tile_with tile part)) P
      ∙ ap (λ (x : List Float). f i (sub_of pal J.C have i) (tile_with x part)) E
      ∙ ap (λ (x : List ℕ). f i (sub_of pal J.C have i) (tile_with (tile_of J t) x)) C
      ∙ ap (λ (x : ℕ). f x (sub_of pal J.C have x) (tile_at J t)) e

  pub goes_asks : (Q : ℕ → List Float → Tile → Type 0) → Q k (sub_of pal J.C have k) (tile_at J t) → Q i sub (tile_with tile part)
  goes_asks Q q =
      subst⁻¹ (λ (x : List Float). Q i x (tile_with tile part)) P
      (subst⁻¹ (λ (x : List Float). Q i (sub_of pal J.C have i) (tile_with x part)) E
      (subst⁻¹ (λ (x : List ℕ). Q i (sub_of pal J.C have i) (tile_with (tile_of J t) x)) C
      (subst⁻¹ (λ (x : ℕ). Q x (sub_of pal J.C have x) (tile_at J t)) e q)))

-- ---- to the one that fits it best: b is the tile's fit
module _ (J : Job) (pal : List Float) (n have : ℕ) (t : ℕ) (b : Near) (B : b ≡ fit_at J pal n have t) where
  pub fit-index : b.index ≡ winner J pal n have t
  fit-index = ap (λ (x : Near). x.index) B

  pub fit-part : Shown J pal n have → (have ≤ J.C) × (b.index * (3 * J.C) + 3 * J.C ≤ length pal)
  fit-part S = goes_part J pal n have S b.index (winner J pal n have t) fit-index (winner-below J pal n have S t)

  pub fit-below : Shown J pal n have → b.index < n
  fit-below S = goes_below J pal n have S b.index (winner J pal n have t) fit-index (winner-below J pal n have S t)
