-- What a shuffle keeps: the length, how often each item stands there, and so a bound on all items; and the state, where there is one item.
-- Assumes nothing.
use Rattle.std.proofs.Common.{◌≡◌, ℕ, zero, suc, ◌+◌, ◌-◌, ◌%◌, ◌<◌, ◌≤◌, List, [], ◌∷◌, length, get_or, sym, refl, ap, ◌∙◌, le_refl, not-suc-le-zero, lt_irrefl, mod-lt, zero-lt-suc, sub-one, arith}
use native.Mathlib.Decide.{dec_lt}
use Rattle.lists.specs.Count.{count, Permutation}
use Rattle.lists.proofs.Counting.{hit_other, count_at, length-swapped, count-swapped}
use Rattle.prng.specs.SplitMix.{output}
use Rattle.prng.specs.Shuffle.{Deck, deck, turn, turns, shuffle_of}

-- a turn taken off the front
pub turns_front : (i : ℕ) (d : Deck) → 0 < i → turns i d ≡ turns (i - 1) (turn i d)
unfolding turns
turns_front zero d h = absurd (not-suc-le-zero h)
turns_front (suc i) d h = ap (λ (k : ℕ). turns k (turn (suc i) d)) (sym (sub-one (suc i)))

-- ---- the length

length-turn : (i : ℕ) (d : Deck) → length (turn i d).order ≡ length d.order
unfolding turn
length-turn i d = simp length-swapped

length-turns : (i : ℕ) (d : Deck) → length (turns i d).order ≡ length d.order
unfolding turns
length-turns zero d = refl
length-turns (suc i) d = length-turns i (turn (suc i) d) ∙ length-turn (suc i) d

-- ---- the items

count_turn : (v i : ℕ) (d : Deck) → i < length d.order → count v (turn i d).order ≡ count v d.order
unfolding turn
count_turn v i d h =
    let j : output d.state % (i + 1) < i + 1 = mod-lt (output d.state) (omega arith) in
    count-swapped v i (output d.state % (i + 1)) d.order h (omega arith)

count-turns : (v i : ℕ) (d : Deck) → i ≤ length d.order - 1 → count v (turns i d).order ≡ count v d.order
unfolding turns
count-turns v zero d h = refl
count-turns v (suc i) d h = count-turns v i (turn (suc i) d) (rw (length-turn (suc i) d) (omega arith)) ∙ count_turn v (suc i) d (omega arith)

pub shuffle_permutes : (s : ℕ) (xs : List ℕ) → Permutation (shuffle_of s xs).order xs
unfolding shuffle_of
shuffle_permutes s xs =
    let last : ℕ = length xs - 1 in
    record { size = length-turns last (deck xs s); counts = λ v. count-turns v last (deck xs s) (le_refl last) }

-- numbers are below n at each place exactly where none from n on is counted
none_from : (n : ℕ) (xs : List ℕ) → ((i : ℕ) → i < length xs → get_or xs i 0 < n) → (v : ℕ) → n ≤ v → count v xs ≡ 0
unfolding count
none_from n [] below v h = refl
none_from n (x ∷ xs) below v h =
    let first : x < n = below 0 (zero-lt-suc (length xs)) in
    omega (arith, hit_other x v (λ e. lt_irrefl n (omega arith)), none_from n xs (λ i l. below (suc i) (omega arith)) v h)

pub below_by_count : (n : ℕ) (xs : List ℕ) → ((v : ℕ) → n ≤ v → count v xs ≡ 0) → (i : ℕ) → i < length xs → get_or xs i 0 < n
below_by_count n xs none i h = by (dec_lt (get_or xs i 0) n)
  where
    by : Dec (get_or xs i 0 < n) → get_or xs i 0 < n
    by (yes l) = l
    by (no m) = absurd (omega (arith, count_at xs i h, none (get_or xs i 0) (omega (arith, m))))

-- a permutation of numbers below n has numbers below n
pub permutes_below : (n : ℕ) (xs ys : List ℕ) → Permutation xs ys → ((i : ℕ) → i < length ys → get_or ys i 0 < n) → (i : ℕ) → i < length xs → get_or xs i 0 < n
permutes_below n xs ys p below = below_by_count n xs (λ v h. p.counts v ∙ none_from n ys below v h)

pub shuffle_length : (s : ℕ) (xs : List ℕ) → length (shuffle_of s xs).order ≡ length xs
shuffle_length s xs = (shuffle_permutes s xs).size

pub shuffle_below : (n s : ℕ) (xs : List ℕ) → ((i : ℕ) → i < length xs → get_or xs i 0 < n) → (i : ℕ) → i < length xs → get_or (shuffle_of s xs).order i 0 < n
shuffle_below n s xs below i h = permutes_below n (shuffle_of s xs).order xs (shuffle_permutes s xs) below i (rw shuffle_length h)

-- ---- the generator

-- nothing to exchange: one item keeps the generator's state
pub shuffle_one : (s x : ℕ) → shuffle_of s (x ∷ []) ≡ deck (x ∷ []) s
unfolding shuffle_of turns
shuffle_one s x = refl
