-- Sizes and lengths that passed leave the answer to the rules after them. Assumes nothing.
use Prim.Native.Nat.{ℕ}
use mathlib.Core.Path.{◌≡◌, refl}
use mathlib.Core.List.{List, ◌++◌}
use lib.Ieee.{Float}
use Rattle.answer.specs.Refusals.{Answered}
use Rattle.answer.specs.Rules.{Rule, answer, numbered}
use Rattle.job.specs.Checks.{size_rules, shape_rules}
use Rattle.answer.proofs.Passing.{goes}

pub past-sizes : (size s c t : ℕ) (a : Answered) → a ≡ answer (size_rules size s c t) → a.number ≡ 0 → (k : Answered) (rs : List Rule) → k ≡ answer rs → k ≡ answer (size_rules size s c t ++ rs)
unfolding numbered
past-sizes size s c t a e z k rs h = goes (size_rules size s c t) rs a k refl e z h

pub past_shapes : (t : ℕ) (tiles : List ℕ) (colours : List Float) (counts : List ℕ) (b : Answered) → b ≡ answer (shape_rules t tiles colours counts) → b.number ≡ 0
    → (k : Answered) (rs : List Rule) → k ≡ answer rs → k ≡ answer (shape_rules t tiles colours counts ++ rs)
unfolding numbered
past_shapes t tiles colours counts b f y k rs h = goes (shape_rules t tiles colours counts) rs b k refl f y h
