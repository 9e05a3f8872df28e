-- The hints that fits leave have a place for each tile still. Assumes nothing.
use Prim.Native.Nat.{ℕ, zero, suc, ◌<◌}
use mathlib.Core.Path.{◌≡◌, refl, ◌∙◌}
use mathlib.Core.Bool.{Bool, true, false, cond}
use mathlib.Core.List.{List}
use lib.ListN.{length, set, length-set}
use lib.Ieee.{Float}
use Rattle.job.specs.Job.{Job, is_empty}
use Rattle.palette_tile.specs.Walk.{walk}
use Rattle.palette_tile.specs.Tiles.{winner, hint_step, hints_of, Shown, Paired}
use Rattle.palette_tile.proofs.Walks.{Walked, walked_has}

module _ (J : Job) (pal : List Float) (n have : ℕ) where
  pub length-hint_step : (t : ℕ) (h : List ℕ) → length (hint_step J pal n have t h) ≡ length h
  unfolding hint_step
  length-hint_step t h = by (is_empty J t)
    where
      by : (b : Bool) → length (cond b h (set h t (winner J pal n have t))) ≡ length h
      by true = refl
      by false = length-set h t (winner J pal n have t)

  pub length-hints : (h : List ℕ) (t : ℕ) → length (hints_of J pal n have h t) ≡ length h
  unfolding walk
  length-hints h zero = refl
  length-hints h (suc t) = length-hint_step t (hints_of J pal n have h t) ∙ length-hints h t

  -- ---- a loop that walks over the tiles
  module _ {first hints : List ℕ} {t : ℕ} (W : Walked J.T (hint_step J pal n have) first hints t) where
    pub walked_hints : length hints ≡ length first
    walked_hints = walked_has W (λ t h. length h ≡ length first) (λ t l. length-hints first t)

    pub walked_paired : Shown J pal n have → length first ≡ J.T → t < J.T → Paired J pal n have hints t
    walked_paired S L l = record { shown = S; tile = l; each = walked_hints ∙ L }
