-- What a list of colours answers, from the first bad one, if there is one. Assumes nothing.
use Prim.Native.Nat.{ℕ, ◌+◌, ◌/◌}
use mathlib.Core.Path.{◌≡◌, refl}
use mathlib.Core.Bool.{Bool, true, false, cond}
use mathlib.Core.List.{List, ◌∷◌}
use lib.Ieee.{Float}
use Rattle.std.specs.Prelude.{Option, Some, None}
use Rattle.answer.specs.Refusals.{Answered, refusal}
use Rattle.answer.specs.Rules.{Rule, answer}
use Rattle.answer.proofs.Passing.{fails, skips}
use Rattle.job.specs.Checks.{first_bad, components_fit, colour_rule, bad_colour_from}

module _ (number base : ℕ) (m : Float) (xs : List Float) (rs : List Rule) where
  pub bad_answers : (i : ℕ) → Some i ≡ bad_colour_from base m xs → refusal number i ≡ answer (colour_rule number base m xs ∷ rs)
  bad_answers i e = by (components_fit m xs) refl e
    where
      by : (b : Bool) → components_fit m xs ≡ b → Some i ≡ cond b None (Some (base + first_bad m xs / 3)) → refusal number i ≡ answer (colour_rule number base m xs ∷ rs)
      by true h e = cc
      by false h e = let k : i ≡ base + first_bad m xs / 3 = cc in rw k (fails (colour_rule number base m xs) rs h)

  pub good_passes : (a : Answered) → None ≡ bad_colour_from base m xs → a ≡ answer rs → a ≡ answer (colour_rule number base m xs ∷ rs)
  good_passes a e f = by (components_fit m xs) refl e
    where
      by : (b : Bool) → components_fit m xs ≡ b → None ≡ cond {A = Option ℕ} b None (Some (base + first_bad m xs / 3)) → a ≡ answer (colour_rule number base m xs ∷ rs)
      by true h e = skips (colour_rule number base m xs) a rs h f
      by false h e = cc
