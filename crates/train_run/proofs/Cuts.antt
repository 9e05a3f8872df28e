-- What is cut has its length, and every call that asks for -2..2 takes it. Assumes nothing.
use mathlib.Core.Path.{◌≡◌, refl, sym, ap, subst⁻¹, ◌∙◌}
use Prim.Native.Nat.{◌<◌}
use native.Mathlib.Omega.{arith}
use mathlib.Core.Bool.{true, not}
use mathlib.Core.List.{List, map}
use lib.Dec.{T}
use lib.ListN.{length, get_or, length-map, get_or-map}
use lib.Ieee.{Float, nan, lt, neg, is_nan, of_bits}
use Rattle.ieee.proofs.Order.{of_false}
use Rattle.ieee.specs.Terms.{Within}
use Rattle.ieee.proofs.Within.{neg-within}
use Rattle.ieee.proofs.Bounds.{within_real, clamped}
use Rattle.color.specs.Color.{Bounded}
use Rattle.job.specs.Job.{two}
use Rattle.job.specs.Checks.{components_fit}
use Rattle.job.proofs.Ready.{two-within}
use Rattle.run_calls.proofs.Cases.{by-test}
use Rattle.run_calls.proofs.Limits.{fits-two}
use Rattle.train_run.specs.Training.{cut_one, cut}

pub length_cut : (xs : List Float) → length (cut xs) ≡ length xs
unfolding cut
length_cut xs = length-map xs cut_one

-- a number that is one is cut to -2..2
cut-within : (x : Float) → T (not (is_nan x)) → Within (cut_one x) 2 1
unfolding cut_one
cut-within x r =
    by-test (λ (y : Float). Within y 2 1) (lt two x) (λ _. two-within)
    (λ h. by-test (λ (y : Float). Within y 2 1) (lt x (neg two)) (λ _. neg-within two 2 1 two-within)
    (λ g. clamped (neg two) x two 2 1 (neg-within two 2 1 two-within) two-within r (of_false g) (of_false h)))

cut-nan : cut_one nan ≡ nan
unfolding cut_one of_bits lt neg
cut-nan = refl

pub cut-bounded : (xs : List Float) → Bounded xs 4 → Bounded (cut xs) 2
unfolding cut
cut-bounded xs B i l =
    let k : i < length xs = omega (arith, length-map xs cut_one) in
    subst⁻¹ (λ (x : Float). Within x 2 1) (ap (λ (d : Float). get_or (map cut_one xs) i d) (sym cut-nan) ∙ get_or-map cut_one xs i nan)
    (cut-within (get_or xs i nan) (within_real (get_or xs i nan) 4 1 (B i k)))

pub cut_fits : (xs : List Float) → Bounded xs 4 → components_fit two (cut xs) ≡ true
cut_fits xs B = fits-two (cut xs) (cut-bounded xs B)
