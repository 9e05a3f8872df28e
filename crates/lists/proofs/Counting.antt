-- What a store does to the counts, that permutations follow one another, and that an exchange of two items is a permutation. Assumes nothing.
use mathlib.Core.List.{List, [], ◌∷◌, ◌++◌}
use mathlib.Core.Path.{◌≡◌, refl, sym, ap, ◌∙◌}
use Prim.Native.Nat.{ℕ, zero, suc, ◌+◌, ◌≤◌, ◌<◌}
use native.Mathlib.Nat.{not-suc-le-zero, le_of_suc-le-suc}
use native.Mathlib.Decide.{ℕ_discrete}
use native.Mathlib.Omega.{arith}
use lib.Dec.{eqb}
use lib.ListN.{length, get_or, set, take, drop, take-append-drop, length-set}
use lib.Seq.{get_or-set_same, get_or-set_other}
use borrow.Author.Tests.{eq-eqb, ne_eqb}
use Rattle.lists.specs.Count.{hit, count, Permutation, swapped}

pub hit_same : (x v : ℕ) → x ≡ v → hit (eqb x v) ≡ 1
unfolding hit
hit_same x v e = ap hit (eq-eqb x v e)

pub hit_other : (x v : ℕ) → (x ≡ v → ⊥) → hit (eqb x v) ≡ 0
unfolding hit
hit_other x v n = ap hit (ne_eqb x v n)

-- ---- permutations
pub same : (xs : List ℕ) → Permutation xs xs
same xs = record { size = refl; counts = λ v. refl }

pub then : {xs ys zs : List ℕ} → Permutation xs ys → Permutation ys zs → Permutation xs zs
then p q = record { size = p.size ∙ q.size; counts = λ v. p.counts v ∙ q.counts v }

-- ---- counts of parts
pub count_append : (v : ℕ) (xs ys : List ℕ) → count v (xs ++ ys) ≡ count v xs + count v ys
unfolding count
count_append v [] ys = omega arith
count_append v (x ∷ xs) ys = let ih = count_append v xs ys in omega arith

pub count-take : (v r : ℕ) (xs : List ℕ) → count v (take r xs) ≤ count v xs
count-take v r xs =
    let parts : count v xs ≡ count v (take r xs) + count v (drop r xs) = ap (count v) (sym (take-append-drop r xs)) ∙ count_append v (take r xs) (drop r xs) in
    omega arith

-- an item stands in its list
pub count_at : (xs : List ℕ) (i : ℕ) → i < length xs → 0 < count (get_or xs i 0) xs
unfolding count
count_at [] i h = absurd (not-suc-le-zero h)
count_at (x ∷ xs) zero h = omega (arith, hit_same x x refl)
count_at (x ∷ xs) (suc i) h = omega (arith, count_at xs i (le_of_suc-le-suc h))

-- ---- stores
-- a store takes one item out and puts one in
pub count_set : (v : ℕ) (xs : List ℕ) (i a : ℕ) → i < length xs → count v (set xs i a) + hit (eqb (get_or xs i 0) v) ≡ count v xs + hit (eqb a v)
unfolding count
count_set v [] i a h = absurd (not-suc-le-zero h)
count_set v (x ∷ xs) zero a h = omega arith
count_set v (x ∷ xs) (suc i) a h = let ih = count_set v xs i a (le_of_suc-le-suc h) in omega arith

-- the item at j, once it has been stored at i too, is still at j
still : (xs : List ℕ) (i j : ℕ) → i < length xs → get_or (set xs i (get_or xs j 0)) j 0 ≡ get_or xs j 0
still xs i j h = by (ℕ_discrete j i)
  where
    by : Dec (j ≡ i) → get_or (set xs i (get_or xs j 0)) j 0 ≡ get_or xs j 0
    by (yes e) = ap (λ (k : ℕ). get_or (set xs i (get_or xs j 0)) k 0) e ∙ get_or-set_same xs i (get_or xs j 0) 0 h
    by (no n) = get_or-set_other xs i j (get_or xs j 0) 0 n

-- ---- an exchange
pub length-swapped : (i j : ℕ) (xs : List ℕ) → length (swapped i j xs) ≡ length xs
unfolding swapped
length-swapped i j xs = simp length-set

pub count-swapped : (v i j : ℕ) (xs : List ℕ) → i < length xs → j < length xs → count v (swapped i j xs) ≡ count v xs
unfolding swapped
count-swapped v i j xs hi hj =
    let x : ℕ = get_or xs i 0 in
    let y : ℕ = get_or xs j 0 in
    let first : count v (set xs i y) + hit (eqb x v) ≡ count v xs + hit (eqb y v) = count_set v xs i y hi in
    let second : count v (set (set xs i y) j x) + hit (eqb (get_or (set xs i y) j 0) v) ≡ count v (set xs i y) + hit (eqb x v) =
    count_set v (set xs i y) j x (simp length-set hj) in
    let item : hit (eqb (get_or (set xs i y) j 0) v) ≡ hit (eqb y v) = ap (λ (z : ℕ). hit (eqb z v)) (still xs i j hi) in
    omega arith

pub swap_permutes : (i j : ℕ) (xs : List ℕ) → i < length xs → j < length xs → Permutation (swapped i j xs) xs
swap_permutes i j xs hi hj = record { size = length-swapped i j xs; counts = λ v. count-swapped v i j xs hi hj }
