-- What the index of a job's refusal names, and that it is small; for a job's rules with whatever rules follow. Assumes nothing.
use Prim.Native.Nat.{ℕ, ◌+◌, ◌-◌, ◌*◌, ◌/◌, ◌≤◌}
use mathlib.Core.Path.{◌≡◌, refl, subst, subst⁻¹}
use mathlib.Core.Logic.{inl, inr}
use mathlib.Core.Bool.{Bool, true, false}
use mathlib.Core.List.{List, ◌∷◌, ◌++◌}
use native.Mathlib.Omega.{arith}
use native.Mathlib.Nat.{zero-add}
use lib.Ieee.{Float}
use lib.ListN.{length}
use borrow.Author.Tests.{eqb-true, leb-true}
use Rattle.answer.specs.Refusals.{Answered, refusal}
use Rattle.answer.specs.Rules.{Rule, rule, answer, Passed}
use Rattle.answer.specs.Names.{Table, Names}
use Rattle.answer.proofs.Passing.{passed-number, passed-join}
use Rattle.answer.proofs.Places.{rule_then, plain_then, aside, aside_names}
use Rattle.job.specs.Job.{Job, most_subpalettes, most_colours, most_tile_colours, two}
use Rattle.job.specs.Checks.{first_bad, components_fit, colour_rule, size_rules, form_rules, sampled_form_rules, tables, bound_rules, place_rules, plain_rules, sampled_rules, samples_fit}
use Rattle.job.specs.Bad.{FirstBad, plain_names, sampled_names, most_index}
use Rattle.job.proofs.Bad.{first_bad-colour}
use Rattle.job.proofs.Ready.{sizes_of_lem}

-- an index names what the table says, and is small
abbrev pub Placed : Table → Answered → Type 0
Placed T e = Names T e × (e.index ≤ most_index)

pub unplaced : (T : Table) (n : ℕ) → aside T n ≡ true → Placed T (refusal n 0)
unplaced T n h = (aside_names T n h, omega arith)

-- the first bad colour of a list, as its rule names it
module _ (m : Float) (xs : List Float) (h : components_fit m xs ≡ false) where
  pub named : FirstBad m xs (0 + first_bad m xs / 3)
  named = subst⁻¹ (FirstBad m xs) (zero-add (first_bad m xs / 3)) (first_bad-colour m xs h)

  pub named_from : (cells : ℕ) → FirstBad m xs (cells + first_bad m xs / 3 - cells)
  named_from cells = subst (FirstBad m xs) (back cells (first_bad m xs / 3)) (first_bad-colour m xs h)
    where
      back : (c k : ℕ) → k ≡ c + k - c
      back c k = omega arith

  pub named_few : (n : ℕ) → length xs ≡ 3 * n → first_bad m xs / 3 ≤ n
  named_few n l = omega (arith, (first_bad-colour m xs h).there)

-- ---- what the rules before the colours' say
module _ (J : Job) where
  few-colours : Passed (tables J) → length J.counts ≤ most_tile_colours
  few-colours q = leb-true (length J.counts) most_tile_colours q.1.0

  few-cells : Passed (size_rules J.size J.S J.C J.T) → J.S * J.C ≤ most_subpalettes * most_colours
  few-cells p = (sizes_of_lem J.size J.S J.C J.T (answer (size_rules J.size J.S J.C J.T)) refl (passed-number _ p)).cells

-- ---- a call without samples
module _ (J : Job) (palette : List Float) (room : Bool) where
  abbrev T : Table
  T = plain_names J palette

  abbrev form : List Rule
  form = form_rules J.size J.S J.C J.T J.tiles J.colours J.counts (length palette) room

  abbrev cells : ℕ
  cells = J.S * J.C

  pub plain-placed : (rest : List Rule) → (Passed (plain_rules J palette room) → Placed T (answer rest)) → Placed T (answer (plain_rules J palette room ++ rest))
  plain-placed rest later =
      plain_then (Placed T) (aside T) (unplaced T) form (tables J ++ (bound_rules cells palette J.colours ++ rest)) refl
      (λ p. plain_then (Placed T) (aside T) (unplaced T) (tables J) (bound_rules cells palette J.colours ++ rest) refl
      (λ q. rule_then (Placed T) (colour_rule 7 0 two palette) (colour_rule 7 cells two J.colours ∷ rest) (λ h. (at-palette h, few-palette p h))
      (λ g. rule_then (Placed T) (colour_rule 7 cells two J.colours) rest (λ h. (at-tiles g h, few-tiles p q h))
      (λ f. later (passed-join form (tables J ++ bound_rules cells palette J.colours) p (passed-join (tables J) (bound_rules cells palette J.colours) q (g, (f, tt))))))))
    where
      at-palette : components_fit two palette ≡ false → Names T (refusal 7 (0 + first_bad two palette / 3))
      at-palette h = (λ _. inl (named two palette h), λ n. absurd (n refl))

      at-tiles : components_fit two palette ≡ true → components_fit two J.colours ≡ false → Names T (refusal 7 (cells + first_bad two J.colours / 3))
      at-tiles g h = (λ _. inr (g, omega arith, named_from two J.colours h cells), λ n. absurd (n refl))

      few-palette : Passed form → components_fit two palette ≡ false → 0 + first_bad two palette / 3 ≤ most_index
      few-palette p h =
          omega (arith, named_few two palette h cells (eqb-true (length palette) (3 * cells) p.1.1.1.1.1.1.0), few-cells J (p.0, (p.1.0, (p.1.1.0, (p.1.1.1.0, tt)))))

      few-tiles : Passed form → Passed (tables J) → components_fit two J.colours ≡ false → cells + first_bad two J.colours / 3 ≤ most_index
      few-tiles p q h =
          omega (
            arith,
            named_few two J.colours h (length J.counts) (eqb-true (length J.colours) (3 * length J.counts) p.1.1.1.1.1.0),
            few-colours J q,
            few-cells J (p.0, (p.1.0, (p.1.1.0, (p.1.1.1.0, tt)))),
          )

-- ---- a call with samples; the working colours and those handed in have what follows to name them
module _ (J : Job) (n : ℕ) (samples : List ℕ) (room : Bool) (working handed : ℕ → Type 0) where
  abbrev drawn_t : Table
  drawn_t = sampled_names J working handed

  abbrev drawn_form : List Rule
  drawn_form = sampled_form_rules J.size J.S J.C J.T n J.tiles J.colours J.counts (length samples) room

  abbrev drawable : Rule
  drawable = rule 8 (samples_fit J.tiles J.T samples n)

  abbrev places : List Rule
  places = place_rules J.T J.tiles J.colours n samples

  pub sampled-placed : (rest : List Rule) → (Passed (sampled_rules J n samples room) → Placed drawn_t (answer rest)) → Placed drawn_t (answer (sampled_rules J n samples room ++ rest))
  sampled-placed rest later =
      plain_then (Placed drawn_t) (aside drawn_t) (unplaced drawn_t) drawn_form (tables J ++ (places ++ rest)) refl
      (λ p. plain_then (Placed drawn_t) (aside drawn_t) (unplaced drawn_t) (tables J) (places ++ rest) refl
      (λ q. rule_then (Placed drawn_t) (colour_rule 7 0 two J.colours) (drawable ∷ rest) (λ h. (at-tiles h, few-tiles p q h))
      (λ g. rule_then (Placed drawn_t) drawable rest (λ h. unplaced drawn_t 8 refl)
      (λ f. later (passed-join drawn_form (tables J ++ places) p (passed-join (tables J) places q (g, (f, tt))))))))
    where
      at-tiles : components_fit two J.colours ≡ false → Names drawn_t (refusal 7 (0 + first_bad two J.colours / 3))
      at-tiles h = (λ _. named two J.colours h, λ n. absurd (n refl))

      few-tiles : Passed drawn_form → Passed (tables J) → components_fit two J.colours ≡ false → 0 + first_bad two J.colours / 3 ≤ most_index
      few-tiles p q h =
          omega (arith, named_few two J.colours h (length J.counts) (eqb-true (length J.colours) (3 * length J.counts) p.1.1.1.1.1.1.0), few-colours J q)
