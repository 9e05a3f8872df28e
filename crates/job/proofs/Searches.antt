-- The search for the first bad component ends where its definition says. Assumes nothing.
use Prim.Native.Nat.{ℕ, ◌+◌, ◌/◌}
use mathlib.Core.Path.{◌≡◌, refl, ap}
use mathlib.Core.Bool.{Bool, true, false, not, cond}
use mathlib.Core.List.{List}
use native.Mathlib.Omega.{arith}
use lib.Ieee.{Float}
use lib.Dec.{eqb, ltb}
use lib.ListN.{length}
use borrow.Author.Tests.{eq-eqb, ne_eqb, ltb-true, ltb-false}
use Rattle.std.specs.Prelude.{Option, Some, None, option_map}
use Rattle.std.specs.Option.{unwrap_or}
use Rattle.std.specs.List.{position, position_or_len}
use Rattle.std.specs.Float.{nan}
use Rattle.std.proofs.lemmas.List.Sums.{position_or_len_is}
use Rattle.lists.proofs.Loops.{every-at}
use Rattle.job.specs.Checks.{within, component_fits, first_bad, bad_colour_from}
use Rattle.job.proofs.First.{first-bound}
use Rattle.job.proofs.Bad.{before-first, first_fails}

module _ (m : Float) (xs : List Float) where
  abbrev fits : ℕ → Bool
  fits = component_fits m xs

  searched : position_or_len (λ x. not (within m x)) xs ≡ first_bad m xs
  unfolding first_bad component_fits
  searched =
      position_or_len_is (λ x. not (within m x)) xs (first_bad m xs) nan (first-bound fits (length xs))
      (λ k l. ap not (every-at fits (first_bad m xs) k (before-first fits (length xs)) l))
      (λ l. ap not (first_fails fits (length xs) (λ e. omega (arith, e, l))))

  -- the bad colour is that of the component found
  pub found : (base : ℕ) (r : Option ℕ) → r ≡ position (λ x. not (within m x)) xs → option_map (λ k. base + k / 3) r ≡ bad_colour_from base m xs
  found base r e = rw (e, searched) (by (ltb (first_bad m xs) (length xs)) refl)
    where
      by : (b : Bool) → ltb (first_bad m xs) (length xs) ≡ b
          → option_map (λ k. base + k / 3) (cond b (Some (first_bad m xs)) None) ≡ cond (eqb (first_bad m xs) (length xs)) None (Some (base + first_bad m xs / 3))
      by true g = rw (ne_eqb (first_bad m xs) (length xs) (λ z. omega (arith, z, ltb-true _ _ g)))
      by false g = rw (eq-eqb (first_bad m xs) (length xs) (unfold first_bad in omega (arith, ltb-false _ _ g, first-bound fits (length xs))))

  -- the component found, or how many there are
  pub or_all : (r : Option ℕ) → r ≡ position (λ x. not (within m x)) xs → unwrap_or r (length xs) ≡ first_bad m xs
  or_all r e = rw (e, searched) (by (ltb (first_bad m xs) (length xs)) refl)
    where
      by : (b : Bool) → ltb (first_bad m xs) (length xs) ≡ b → unwrap_or (cond b (Some (first_bad m xs)) None) (length xs) ≡ first_bad m xs
      by true g = refl
      by false g = unfold first_bad in omega (arith, ltb-false _ _ g, first-bound fits (length xs))
