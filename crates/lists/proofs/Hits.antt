-- Counts among the first values of a sequence: of 0 .. n - 1 each stands once, a count that grows has met its number, and the counts where the sequence
-- reads one permutation after the other. Assumes nothing.
use mathlib.Core.List.{List, [], ◌∷◌}
use mathlib.Core.Path.{◌≡◌, refl, sym, ap, ◌∙◌}
use Prim.Native.Nat.{ℕ, zero, suc, ◌+◌, ◌*◌, ◌/◌, ◌%◌, ◌≤◌, ◌<◌}
use native.Mathlib.Nat.{add-zero, add-suc, zero-mul, suc-mul, le_refl, lt_irrefl, mod-lt, div-add-mod', not-suc-le-zero}
use native.Mathlib.Decide.{ℕ_discrete}
use native.Mathlib.Omega.{arith}
use lib.Arith.{digits_div, digits_mod}
use lib.Dec.{eqb}
use lib.ListN.{length, get_or, take, length-append}
use lib.Seq.{take-suc, take-length}
use Rattle.lists.specs.Count.{hit, count}
use Rattle.lists.proofs.Counting.{hit_same, hit_other, count_append}
use Rattle.lists.specs.Firsts.{firsts, up_to, hits}

pub length-firsts : (f : ℕ → ℕ) (t : ℕ) → length (firsts f t) ≡ t
unfolding firsts
length-firsts f zero = refl
length-firsts f (suc t) = simp length-append (let ih = length-firsts f t in omega arith)

pub hits-suc : (f : ℕ → ℕ) (v t : ℕ) → hits f v (suc t) ≡ hits f v t + hit (eqb (f t) v)
unfolding firsts count
hits-suc f v t = let parts = count_append v (firsts f t) (f t ∷ []) in omega arith

-- ---- 0, 1 .. n - 1
pub count-above : (v n : ℕ) → n ≤ v → count v (up_to n) ≡ 0
unfolding firsts count
count-above v zero h = refl
count-above v (suc n) h = omega (arith, hits-suc (λ k. k) v n, hit_other n v (omega arith), count-above v n (omega arith))

pub count-up_to : (v n : ℕ) → v < n → count v (up_to n) ≡ 1
count-up_to v zero h = absurd (not-suc-le-zero h)
count-up_to v (suc n) h = by (ℕ_discrete n v) (count-up_to v n)
  where
    by : Dec (n ≡ v) → (v < n → count v (up_to n) ≡ 1) → count v (up_to (suc n)) ≡ 1
    by (yes e) ih = omega (arith, hits-suc (λ k. k) v n, hit_same n v e, count-above v n (omega arith))
    by (no d) ih = omega (arith, hits-suc (λ k. k) v n, hit_other n v d, ih (omega arith))

-- a count that grows has met v on the way
pub met : (f : ℕ → ℕ) (v a d : ℕ) → hits f v a < hits f v (a + d) → (m : ℕ) × (a ≤ m) × (m < a + d) × (f m ≡ v)
met f v a zero h = absurd (lt_irrefl (hits f v a) (rw add-zero at h))
met f v a (suc d) h = by (ℕ_discrete (f (a + d)) v) (met f v a d)
  where
    by : Dec (f (a + d) ≡ v) → (hits f v a < hits f v (a + d) → (m : ℕ) × (a ≤ m) × (m < a + d) × (f m ≡ v)) → (m : ℕ) × (a ≤ m) × (m < a + suc d) × (f m ≡ v)
    by (yes e) ih = (a + d, omega arith, omega arith, e)
    by (no n) ih =
        let last : hits f v (a + suc d) ≡ hits f v (a + d) + hit (eqb (f (a + d)) v) = ap (hits f v) (add-suc a d) ∙ hits-suc f v (a + d) in
        let r = ih (omega (arith, hit_other (f (a + d)) v n)) in
        (r.0, r.1, omega (arith, r.2), r.3)

-- f reads rounds of n items one after the other, and v stands once in each
module _
    (f : ℕ → ℕ)
    (n v : ℕ)
    (round : ℕ → List ℕ)
    (pos : 0 < n)
    (reads : (k : ℕ) → f k ≡ get_or (round (k / n)) (k % n) 0)
    (size : (j : ℕ) → length (round j) ≡ n)
    (once : (j : ℕ) → count v (round j) ≡ 1)
  where
    reads_at : (j r : ℕ) → r < n → f (j * n + r) ≡ get_or (round j) r 0
    reads_at j r h = reads (j * n + r) ∙ (λ i. get_or (round (digits_div j h i)) (digits_mod j h i) 0)

    hits-within : (j r : ℕ) → r ≤ n → hits f v (j * n + r) ≡ hits f v (j * n) + count v (take r (round j))
    unfolding count
    hits-within j zero h = ap (hits f v) (add-zero (j * n)) ∙ sym (add-zero (hits f v (j * n)))
    hits-within j (suc r) h =
        let front : count v (take (suc r) (round j)) ≡ count v (take r (round j)) + count v (get_or (round j) r 0 ∷ []) =
        ap (count v) (take-suc (round j) r 0 (rw size h)) ∙ count_append v (take r (round j)) (get_or (round j) r 0 ∷ []) in
        let next : hits f v (j * n + suc r) ≡ hits f v (j * n + r) + hit (eqb (f (j * n + r)) v) = ap (hits f v) (add-suc (j * n) r) ∙ hits-suc f v (j * n + r) in
        let item : hit (eqb (f (j * n + r)) v) ≡ hit (eqb (get_or (round j) r 0) v) = ap (λ (x : ℕ). hit (eqb x v)) (reads_at j r h) in
        omega (arith, hits-within j r (omega arith))

    hits-rounds : (j : ℕ) → hits f v (j * n) ≡ j
    unfolding firsts count
    hits-rounds zero = ap (hits f v) (zero-mul n)
    hits-rounds (suc j) =
        let whole : count v (take n (round j)) ≡ 1 = ap (λ (k : ℕ). count v (take k (round j))) (sym (size j)) ∙ ap (count v) (take-length (round j)) ∙ once j in
        let more : hits f v (suc j * n) ≡ hits f v (j * n + n) = ap (hits f v) (suc-mul j n) in
        omega (arith, hits-rounds j, hits-within j n (le_refl n))

    -- one for each whole round, and one more if v has come up in the round that is not over
    pub hits-is : (t : ℕ) → hits f v t ≡ t / n + count v (take (t % n) (round (t / n)))
    hits-is t =
        let split : hits f v t ≡ hits f v (t / n * n + t % n) = ap (hits f v) (sym (div-add-mod' t n)) in
        omega (arith, hits-rounds (t / n), hits-within (t / n) (t % n) (omega (arith, mod-lt t pos)))
