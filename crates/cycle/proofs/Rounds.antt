-- The draws in closed form: draw number k reads place k % n of round k / n, whose order is a permutation of 0 .. n - 1. Assumes nothing.
use mathlib.Core.Logic.{◌⊎◌, inl, inr, ⊎_elim}
use mathlib.Core.Path.{◌≡◌, sym, ap, ◌∙◌}
use Prim.Native.Nat.{ℕ, zero, suc, ◌+◌, ◌*◌, ◌/◌, ◌%◌, ◌<◌}
use native.Mathlib.Nat.{zero-lt-suc, mod-lt, div-add-mod', zero-div, suc-mul}
use native.Mathlib.Numerals.{add-one}
use native.Mathlib.Decide.{ℕ_discrete}
use native.Mathlib.Omega.{arith}
use lib.Arith.{digits_div, digits_mod}
use lib.ListN.{length, get_or}
use Rattle.lists.specs.Count.{count, Permutation}
use Rattle.lists.proofs.Counting.{then}
use Rattle.lists.specs.Firsts.{up_to}
use Rattle.lists.proofs.Hits.{length-firsts, count-above, count-up_to}
use Rattle.prng.specs.Shuffle.{Deck}
use Rattle.prng.proofs.Shuffled.{shuffle_permutes, below_by_count}
use Rattle.cycle.proofs.Ready.{ready_within, ready_again}
use Rattle.cycle.specs.Cycle.{Cycle, cycle, ready, draw_one, after, draw_at, round_at}

-- ---- each round is a permutation of 0 .. n - 1

pub round_permutes : (n seed j : ℕ) → Permutation (round_at n seed j).order (up_to n)
unfolding round_at
round_permutes n seed zero = shuffle_permutes seed (up_to n)
round_permutes n seed (suc j) = then (shuffle_permutes (round_at n seed j).state (round_at n seed j).order) (round_permutes n seed j)

pub round-size : (n seed j : ℕ) → length (round_at n seed j).order ≡ n
round-size n seed j = (round_permutes n seed j).size ∙ length-firsts (λ k. k) n

pub round_once : (n seed v : ℕ) → v < n → (j : ℕ) → count v (round_at n seed j).order ≡ 1
round_once n seed v h j = (round_permutes n seed j).counts v ∙ count-up_to v n h

pub round-below : (n seed j i : ℕ) → i < n → get_or (round_at n seed j).order i 0 < n
round-below n seed j i h = below_by_count n (round_at n seed j).order (λ v l. (round_permutes n seed j).counts v ∙ count-above v n l) i (rw round-size h)

-- ---- the draws

-- the draw after draw t is the first of the next round, or stands in the same round one place on
next_place : (n t : ℕ) → 0 < n → ((suc t / n ≡ suc (t / n)) × (suc t % n ≡ 0)) ⊎ ((suc t / n ≡ t / n) × (suc t % n ≡ suc (t % n)))
next_place n t pos = by (ℕ_discrete (suc (t % n)) n)
  where
    by : Dec (suc (t % n) ≡ n) → ((suc t / n ≡ suc (t / n)) × (suc t % n ≡ 0)) ⊎ ((suc t / n ≡ t / n) × (suc t % n ≡ suc (t % n)))
    by (yes e) =
        let whole : suc t ≡ suc (t / n) * n + 0 = omega (arith, e, div-add-mod' t n, suc-mul (t / n) n) in
        inl (ap (λ (k : ℕ). k / n) whole ∙ digits_div (suc (t / n)) pos, ap (λ (k : ℕ). k % n) whole ∙ digits_mod (suc (t / n)) pos)
    by (no d) =
        let on : suc t ≡ t / n * n + suc (t % n) = omega (arith, div-add-mod' t n) in
        let inside : suc (t % n) < n = omega (arith, d, mod-lt t pos) in
        inr (ap (λ (k : ℕ). k / n) on ∙ digits_div (t / n) inside, ap (λ (k : ℕ). k % n) on ∙ digits_mod (t / n) inside)

module _ (n seed : ℕ) (pos : 0 < n) where
  -- after draw t, which was of round t / n, the next draw reads the round of its own number
  ready-next : (t : ℕ) → ready (cycle (round_at n seed (t / n)) (suc t)) ≡ round_at n seed (suc t / n)
  unfolding round_at
  ready-next t =
      let d : Deck = round_at n seed (t / n) in
      let size : length d.order ≡ n = round-size n seed (t / n) in
      ⊎_elim
      (λ h. ready_again d (suc t) (zero-lt-suc t) (rw size h.1) ∙ ap (round_at n seed) (sym h.0))
      (λ h. ready_within d (suc t) (rw size (omega (arith, h.1))) ∙ ap (round_at n seed) (sym h.0))
      (next_place n t pos)

  -- the state of a run after its first t + 1 draws
  pub after-draws : (t : ℕ) → after n seed (suc t) ≡ cycle (round_at n seed (t / n)) (suc t)
  unfolding after draw_one ready round_at
  after-draws zero = ap (λ (j : ℕ). cycle (round_at n seed j) 1) (sym (zero-div n))
  after-draws (suc t) = ap (λ (c : Cycle). (draw_one c).next) (after-draws t) ∙ (λ i. cycle (ready-next t i) (add-one (suc t) i))

  -- draws j * n .. j * n + (n - 1) are the order of round j, read from the left
  pub draw_at_lem : (k : ℕ) → draw_at n seed k ≡ get_or (round_at n seed (k / n)).order (k % n) 0
  unfolding draw_at after draw_one ready round_at
  draw_at_lem zero = λ i. get_or (round_at n seed (sym (zero-div n) i)).order (0 % round-size n seed 0 i) 0
  draw_at_lem (suc t) =
      ap (λ (c : Cycle). (draw_one c).sample) (after-draws t)
      ∙ (λ i. get_or (ready-next t i).order (suc t % round-size n seed (t / n) i) 0)

  pub draw-below : (k : ℕ) → draw_at n seed k < n
  draw-below k = rw draw_at_lem (round-below n seed (k / n) (k % n) (mod-lt k pos))
