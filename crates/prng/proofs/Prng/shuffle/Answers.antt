-- `prng::Prng::shuffle` meets its contract. The loop's invariant: the turns that are left, from the order as it is now, give what the whole shuffle gives.
-- Assumes nothing.
use Rattle.std.proofs.Common.{◌≡◌, ℕ, ◌+◌, ◌-◌, ◌%◌, ◌<◌, length, sym, refl, ap, ◌∙◌, lt_of_lt_of_le, mod-lt, arith}
use Rattle.std.proofs.lemmas.List.Edits.{swap_is}
use Rattle.lists.specs.Count.{swapped}
use Rattle.prng.specs.SplitMix.{next_state}
use Rattle.prng.specs.Shuffle.{deck, turn, turns, shuffle_of}
use Rattle.prng.proofs.Shuffled.{turns_front}
use Rattle.prng.proofs.Prng.shuffle.Goals as goal

pub loop-i-init : goal.loop-i-init
unfolding shuffle_of
loop-i-init c = refl

pub loop-i-preserved : goal.loop-i-preserved
unfolding turn swapped
loop-i-preserved c =
    let v = c.loop-i in
    let i : ℕ = v.i - 1 in
    let s : ℕ = v.self.state in
    let j : ℕ = c.next.result % (i + 1) in
    let below : j < length v.items = lt_of_lt_of_le (mod-lt c.next.result (omega arith)) (omega arith) in
    let exchanged = c.swap.ensures.after ∙ sym (swap_is v.items i j 0 (omega arith) below) in
    (λ k. turns (i - 1) (deck (exchanged k) (c.next.ensures.1 k)))
    ∙ ap (λ (r : ℕ). turns (i - 1) (deck (swapped i (r % (i + 1)) v.items) (next_state s))) c.next.ensures.0
    ∙ sym (turns_front i (deck v.items s) (omega arith))
    ∙ v.invariant

pub returns : goal.returns
unfolding turns
returns c =
    let v = c.loop-i in
    let done : v.i - 1 ≡ 0 = omega arith in
    ap (λ (k : ℕ). turns k (deck v.items v.self.state)) (sym done) ∙ v.invariant
