-- How many tiles each subpalette has, one tile more, and that every tile is in one load or blank. Assumes nothing.
use mathlib.Core.Path.{◌≡◌, refl, sym, ◌∙◌, subst⁻¹}
use Prim.Native.Nat.{ℕ, zero, suc, ◌+◌, ◌≤◌, ◌<◌}
use native.Mathlib.Omega.{arith}
use mathlib.Core.Bool.{Bool, true, false, not, ◌&&◌}
use mathlib.Core.List.{List}
use lib.Dec.{eqb}
use lib.ListN.{length, get_or, set}
use lib.Seq.{get_or-set_same, get_or-set_other}
use lib.Ieee.{Float}
use borrow.Author.Tests.{eqb-true, eqb-false, eq-eqb, ne_eqb}
use Rattle.lists.specs.Count.{hit}
use Rattle.lists.specs.Every.{sum}
use Rattle.lists.proofs.Loops.{sum_more}
use Rattle.lists.proofs.Sums.{sum_both, hit_and, hit_and_not, holds_few, holds_once}
use Rattle.assign_tiles.specs.Tiles.{subpalette_of}
use Rattle.job.specs.Job.{Job, size_of, is_empty}
use Rattle.palette_tile.specs.Tiles.{Shown}
use Rattle.fit_tiles.specs.Text.{load_of, blanks_of}
use Rattle.fit_tiles.proofs.Tiles.{sub-below}

pub blanks-few : (tiles : List ℕ) (n : ℕ) → blanks_of tiles n ≤ n
unfolding blanks_of
blanks-few tiles n = holds_few (λ t. eqb (size_of tiles t) 0) n

module _ (J : Job) (p : List Float) where
  -- tile t is in the load of subpalette k
  abbrev in_load : ℕ → ℕ → Bool
  in_load k t = not (is_empty J t) && eqb (subpalette_of J p t) k

  pub load_none : (k : ℕ) → load_of J p k 0 ≡ 0
  unfolding load_of sum
  load_none k = refl

  pub load_few : (k n : ℕ) → load_of J p k n ≤ n
  unfolding load_of
  load_few k n = holds_few (in_load k) n

  -- ---- a load with tile i
  module _ (loads : List ℕ) (i s : ℕ) (its : s ≡ subpalette_of J p i) (there : s < length loads) (all : (k : ℕ) → get_or loads k 0 ≡ load_of J p k i) where
    abbrev full : Bool
    full = not (is_empty J i)

    abbrev after : List ℕ
    after = set loads s (get_or loads s 0 + hit full)

    its_own : get_or after s 0 ≡ load_of J p s (i + 1)
    unfolding load_of
    its_own =
        get_or-set_same loads s (get_or loads s 0 + hit full) 0 there
        ∙ sum_more (λ t. hit (in_load s t)) i (get_or loads s 0) (hit full) (all s) (sym (hit_and full (eqb (subpalette_of J p i) s) (eq-eqb (subpalette_of J p i) s (sym its))))

    another : (k : ℕ) → (k ≡ s → ⊥) → get_or after k 0 ≡ load_of J p k (i + 1)
    unfolding load_of
    another k d =
        let before : get_or after k 0 ≡ get_or loads k 0 = get_or-set_other loads s k (get_or loads s 0 + hit full) 0 d in
        let more = sum_more (λ t. hit (in_load k t)) i (get_or loads k 0) 0 (all k) (sym (hit_and_not full (eqb (subpalette_of J p i) k) (ne_eqb (subpalette_of J p i) k (λ e. d (sym e ∙ sym its))))) in
        omega arith

    pub load_more : (k : ℕ) → get_or after k 0 ≡ load_of J p k (i + 1)
    load_more k = by (eqb k s) refl
      where
        by : (b : Bool) → eqb k s ≡ b → get_or after k 0 ≡ load_of J p k (i + 1)
        by true h = subst⁻¹ (λ (j : ℕ). get_or after j 0 ≡ load_of J p j (i + 1)) (eqb-true k s h) its_own
        by false h = another k (eqb-false k s h)

  -- ---- all loads and the blank ones
  pub all-counted : Shown J p J.S J.C → (n : ℕ) → sum (λ k. load_of J p k n) J.S + blanks_of J.tiles n ≡ n
  unfolding load_of blanks_of sum hit
  all-counted S zero = omega (arith, nothing J.S)
    where
      nothing : (m : ℕ) → sum (λ k. 0) m ≡ 0
      nothing zero = refl
      nothing (suc m) = omega (arith, nothing m)
  all-counted S (suc n) =
      omega (
        arith,
        sum_both (λ k. load_of J p k n) (λ k. hit (in_load k n)) J.S,
        holds_once (not (is_empty J n)) (subpalette_of J p n) J.S (sub-below J p S n),
        all-counted S n,
        either (is_empty J n),
      )
    where
      either : (b : Bool) → hit (not b) + hit b ≡ 1
      either true = refl
      either false = refl
