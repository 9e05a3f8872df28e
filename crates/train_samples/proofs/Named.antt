-- Each sample names a tile and one of its colours. Assumes nothing.
use Prim.Native.Nat.{ℕ, zero, suc, ◌+◌, ◌*◌, ◌≤◌, ◌<◌}
use mathlib.Core.Path.{◌≡◌}
use mathlib.Core.List.{List, [], ◌∷◌, ◌++◌}
use native.Mathlib.Omega.{arith}
use native.Mathlib.Nat.{min-le_left}
use lib.ListN.{length, get_or, drop, length-take}
use Rattle.job.specs.Job.{first_of, size_of, counts_part}
use Rattle.train_samples.specs.Samples.{alike, tile_samples, samples_to, units_to}
use Rattle.train_samples.proofs.Numbers.{length-samples}

-- ---- a list of pairs, of each of which P holds
module _ (P : ℕ → ℕ → Type 0) where
  abbrev Pairs : List ℕ → Type 0
  Pairs [] = Unit {0}
  Pairs (a ∷ []) = ⊥
  Pairs (a ∷ b ∷ l) = P a b × Pairs l

  pairs_append : (l m : List ℕ) → Pairs l → Pairs m → Pairs (l ++ m)
  pairs_append [] m p q = q
  pairs_append (a ∷ []) m p q = absurd p
  pairs_append (a ∷ b ∷ l) m p q = (p.0, pairs_append l m p.1 q)

  pairs-at : (l : List ℕ) (i : ℕ) → Pairs l → 2 * i < length l → P (get_or l (2 * i) 0) (get_or l (2 * i + 1) 0)
  pairs-at [] i p h = absurd (omega arith)
  pairs-at (a ∷ []) i p h = absurd p
  pairs-at (a ∷ b ∷ l) zero p h = p.0
  pairs-at (a ∷ b ∷ l) (suc i) p h =
      let e : 2 * suc i ≡ suc (suc (2 * i)) = omega arith in
      let f : 2 * suc i + 1 ≡ suc (suc (2 * i + 1)) = omega arith in
      rw (f, e) (pairs-at l i p.1 (omega arith))

  alike-pairs : (i k m : ℕ) → P i k → Pairs (alike i k m)
  unfolding alike
  alike-pairs i k zero p = tt
  alike-pairs i k (suc m) p = pairs_append (alike i k m) (i ∷ k ∷ []) (alike-pairs i k m p) (p, tt)

  tile-pairs : (i : ℕ) (cs : List ℕ) (k : ℕ) → ((j : ℕ) → j < k → P i j) → Pairs (tile_samples i cs k)
  unfolding tile_samples
  tile-pairs i cs zero p = tt
  tile-pairs i cs (suc k) p = pairs_append (tile_samples i cs k) (alike i k (get_or cs k 0)) (tile-pairs i cs k (λ j h. p j (omega arith))) (alike-pairs i k (get_or cs k 0) (p k (omega arith)))

-- ---- the samples of the first t tiles
module _ (tiles counts : List ℕ) where
  -- a tile below t, and a place among its colours
  abbrev Names : ℕ → ℕ → ℕ → Type 0
  Names t i k = (i < t) × (k < size_of tiles i)

  part-short : (i : ℕ) → length (counts_part tiles counts i) ≤ size_of tiles i
  part-short i = omega (arith, length-take (size_of tiles i) (drop (first_of tiles i) counts), min-le_left (size_of tiles i) (length (drop (first_of tiles i) counts)))

  named : (t m : ℕ) → m ≤ t → Pairs (Names t) (samples_to tiles counts m)
  unfolding samples_to
  named t zero l = tt
  named t (suc m) l =
      pairs_append (Names t) (samples_to tiles counts m) (tile_samples m (counts_part tiles counts m) (length (counts_part tiles counts m))) (named t m (omega arith))
      (tile-pairs (Names t) m (counts_part tiles counts m) (length (counts_part tiles counts m)) (λ j h. (omega arith, omega (arith, part-short m))))

  pub sample_named : (t i : ℕ) → i < units_to tiles counts t
      → (get_or (samples_to tiles counts t) (2 * i) 0 < t) × (get_or (samples_to tiles counts t) (2 * i + 1) 0 < size_of tiles (get_or (samples_to tiles counts t) (2 * i) 0))
  sample_named t i l = pairs-at (Names t) (samples_to tiles counts t) i (named t t (omega arith)) (omega (arith, length-samples tiles counts t))
