-- The choice for a tile, and the calls that answer with it. Assumes nothing.
use Rattle.std.specs.Prelude.{Ok, Err}
use Prim.Native.Nat.{ℕ, ◌<◌}
use mathlib.Core.Path.{◌≡◌, refl, sym, ap, ◌∙◌}
use mathlib.Core.Bool.{Bool, true, false, not, cond}
use mathlib.Core.List.{List, [], ◌∷◌}
use native.Mathlib.Nat.{le_of_eq}
use native.Mathlib.Omega.{arith}
use lib.Dec.{eqb}
use lib.ListN.{length, get_or, set}
use lib.Ieee.{Float, binary32}
use borrow.Author.Tests.{eqb-true}
use Rattle.lists.proofs.Tests.{and_l, and_r}
use Rattle.ieee.specs.Terms.{Good}
use Rattle.stats.specs.declared.Near.{Near}
use Rattle.job.specs.Job.{Job, is_empty}
use Rattle.answer.specs.Refusals.{Answered, refusal, nothing}
use Rattle.answer.specs.Rules.{rule, answer, numbered}
use Rattle.answer.specs.Outcome.{Outcome, outcome, decided}
use Rattle.answer.proofs.Outcomes.{decided-done}
use Rattle.answer.proofs.Passing.{goes, fails, both_pass}
use Rattle.job.specs.Checks.{plain_answer}
use Rattle.job.specs.Gives.{Plain}
use Rattle.job.proofs.Ready.{plain_ready}
use Rattle.stats.specs.Least.{Least}
use Rattle.stats.proofs.Scan.{least_has}
use Rattle.stats.proofs.Next.{next_has, next_alone, infinite_first, infinite_next}
use Rattle.palette.proofs.Sums.{dist-good}
use Rattle.palette_tile.specs.Tiles.{tile_at, present_in, fit_at, winner, two_at, Shown}
use Rattle.palette_tile.proofs.Present.{first_of-two, shown-present, tile-counted}
use Rattle.fits_outcome.specs.Fits.{single_def}
use Rattle.fits_outcome.specs.Pairs.{pair_def}
use Rattle.fits_check.specs.One.{one_rules, one_answer, single_answer}
use Rattle.fits_two.proofs.Empty.{empty_one, empty_many}
use Rattle.fits.proofs.Shown.{shown}
use Rattle.fits_check.proofs.Passes.{one-tile, one_plain}
use Rattle.assign_tiles.specs.Tiles.{TileMemory, tile_memory, assigned, subpalette_of, subpalettes, hint_of}
use Rattle.assign.specs.Assign.{room_for, assign_answer, assign_def}
use Rattle.assign.proofs.Reading.{subpalette_at, hint-at}
use Rattle.demands.specs.Second.{distances, Chosen, SingleFit, BestTwo, Assign}

-- ---- the choice, in every call and at every moment of a run
module _ (J : Job) (palette : List Float) (n have : ℕ) (P : Shown J palette n have) (t : ℕ) (l : t < J.T) where
  good : (i : ℕ) → i < n → Good binary32 (distances J palette n have t i)
  good = dist-good (present_in J palette n have) (tile_at J t) J.weight (shown-present J palette n have P) (tile-counted J palette n have P t l) P.ready.weight

  least : Least (distances J palette n have t) n (fit_at J palette n have t)
  unfolding fit_at
  least = least_has (distances J palette n have t) n P.subs good

  few : n < 18446744073709551616
  few = omega (arith, P.most, P.ready.sizes.few)

  pub chosen : Chosen J palette n have t
  chosen =
      record {
        least = least;
        first = ap (λ (x : Near). x.index) (first_of-two J palette n have t);
        first_dist = ap (λ (x : Near). x.dist) (first_of-two J palette n have t);
        next = unfold two_at in next_has (distances J palette n have t) n good few;
        next_alone = unfold two_at in next_alone (distances J palette n have t) n good few;
        all_infinite = unfold two_at in λ e. (infinite_first (distances J palette n have t) n P.subs e, λ h. infinite_next (distances J palette n have t) n h e);
      }

-- ---- the single fit and best_two
-- an answer that goes by the hints' number alone is one answer, whatever the hints and what is left in them
any_hint : {R : Type 0} (table : ℕ → Answered) (best : R) (refused : Answered → R) (left : List ℕ → List ℕ) (h k : List ℕ) → length h ≡ length k
    → (decided (table (length h)) (outcome best (left h)) (refused (table (length h))) h).answer ≡ (decided (table (length k)) (outcome best (left k)) (refused (table (length k))) k).answer
unfolding decided
any_hint {R} table best refused left h k e =
    by h (eqb (table (length h)).number 0) ∙ ap (λ (n : ℕ). cond (eqb (table n).number 0) best (refused (table n))) e ∙ sym (by k (eqb (table (length k)).number 0))
  where
    by : (x : List ℕ) (t : Bool) → (cond t (outcome best (left x)) (outcome (refused (table (length x))) x)).answer ≡ cond t best (refused (table (length x)))
    by x true = refl
    by x false = refl

module _ (J : Job) (palette : List Float) where
  -- a tile that passed is answered with its choice, which becomes its hint
  single_chooses : (hints : List ℕ) → (single_answer J palette (length hints)).number ≡ 0
      → Chosen J palette J.S J.C 0
      × (single_def J palette hints ≡ outcome (Ok (fit_at J palette J.S J.C 0)) (set hints 0 (winner J palette J.S J.C 0)))
  single_chooses hints z =
      let first : (one_answer J palette (length hints)).number ≡ 0 = unfold single_answer one_answer numbered in (both_pass (one_rules J palette (length hints)) (rule 15 (not (is_empty J 0)) ∷ []) refl z).0 in (
        chosen J palette J.S J.C (shown J palette _ (one_plain J palette (length hints) first)) 0 (le_of_eq (sym (one-tile J palette (length hints) first))),
        (unfold single_def in decided-done (single_answer J palette (length hints)) _ _ hints z),
      )

  pair-chooses : (hints : List ℕ) → (one_answer J palette (length hints)).number ≡ 0
      → Chosen J palette J.S J.C 0
      × (pair_def J palette hints ≡ outcome (Ok (two_at J palette J.S J.C 0)) (set hints 0 (winner J palette J.S J.C 0)))
  pair-chooses hints z =
      let present = shown J palette _ (one_plain J palette (length hints) z) in
      let first : 0 < J.T = le_of_eq (sym (one-tile J palette (length hints) z)) in
      let c = chosen J palette J.S J.C present 0 first in
      let answered : pair_def J palette hints ≡ outcome (Ok (two_at J palette J.S J.C 0)) (set hints 0 (two_at J palette J.S J.C 0).index) =
      unfold pair_def in decided-done (one_answer J palette (length hints)) _ _ hints z in (
        c,
        answered ∙ ap (λ (k : ℕ). outcome (Ok (two_at J palette J.S J.C 0)) (set hints 0 k)) c.first,
      )

  -- whatever the hint: any two give one answer
  single_any_hint : (h k : List ℕ) → length h ≡ length k → (single_def J palette h).answer ≡ (single_def J palette k).answer
  unfolding single_def
  single_any_hint = any_hint (single_answer J palette) (Ok (fit_at J palette J.S J.C 0)) Err (λ x. set x 0 (winner J palette J.S J.C 0))

  pair_any_hint : (h k : List ℕ) → length h ≡ length k → (pair_def J palette h).answer ≡ (pair_def J palette k).answer
  unfolding pair_def
  pair_any_hint = any_hint (one_answer J palette) (Ok (two_at J palette J.S J.C 0)) Err (λ x. set x 0 (two_at J palette J.S J.C 0).index)

  -- an empty tile, where all else passed: the single fit answers 15, and best_two as `empty_one` and `empty_many` say
  single_empty : (hints : List ℕ) → (one_answer J palette (length hints)).number ≡ 0 → is_empty J 0 ≡ true → single_answer J palette (length hints) ≡ refusal 15 0
  unfolding single_answer one_answer numbered
  single_empty hints z e =
      sym (goes (one_rules J palette (length hints)) (rule 15 (not (is_empty J 0)) ∷ []) (answer (one_rules J palette (length hints))) (refusal 15 0) refl refl z (fails (rule 15 (not (is_empty J 0))) [] (rw e)))

-- ---- assign
-- whatever the hints: any two lists of them give one number, and each tile one subpalette
assign_any_hints : (J : Job) (palette : List Float) (out h k : List ℕ) → length h ≡ length k
    → ((assign_def J palette (tile_memory h out)).answer ≡ (assign_def J palette (tile_memory k out)).answer)
    × ((assign_def J palette (tile_memory h out)).after.out ≡ (assign_def J palette (tile_memory k out)).after.out)
assign_any_hints J palette out h k e =
    (told h ∙ ap (λ (n : ℕ). cond (eqb (table n).number 0) nothing (table n)) e ∙ sym (told k), left h ∙ ap (λ (n : ℕ). cond (eqb (table n).number 0) all out) e ∙ sym (left k))
  where
    table : ℕ → Answered
    table n = plain_answer J palette (room_for J.T n (length out))

    all : List ℕ
    all = subpalettes J palette out J.T

    told_by : (t : Bool) (r : Answered) (x y : TileMemory) → (cond t (outcome nothing x) (outcome r y)).answer ≡ cond t nothing r
    told_by true r x y = refl
    told_by false r x y = refl

    left_by : (t : Bool) (r : Answered) (x y : TileMemory) → (cond t (outcome nothing x) (outcome r y)).after.out ≡ cond t x.out y.out
    left_by true r x y = refl
    left_by false r x y = refl

    told : (x : List ℕ) → (assign_def J palette (tile_memory x out)).answer ≡ cond (eqb (table (length x)).number 0) nothing (table (length x))
    told x = unfold assign_def assign_answer decided in told_by (eqb (table (length x)).number 0) (table (length x)) (assigned J palette (tile_memory x out) J.T) (tile_memory x out)

    left : (x : List ℕ) → (assign_def J palette (tile_memory x out)).after.out ≡ cond (eqb (table (length x)).number 0) all out
    left x = unfold assign_def assign_answer assigned decided in left_by (eqb (table (length x)).number 0) (table (length x)) (assigned J palette (tile_memory x out) J.T) (tile_memory x out)

module _ (J : Job) (palette : List Float) (h : TileMemory) (z : (assign_answer J palette h).number ≡ 0) where
  plain : Plain J palette (room_for J.T (length h.hints) (length h.out))
  unfolding assign_answer
  plain = plain_ready J palette (room_for J.T (length h.hints) (length h.out)) z

  done : assign_def J palette h ≡ outcome nothing (assigned J palette h J.T)
  unfolding assign_def
  done = decided-done (assign_answer J palette h) _ _ h z

  room : (length h.hints ≡ J.T) × (length h.out ≡ J.T)
  unfolding room_for
  room =
      let r = plain.roomy in
      (eqb-true _ _ (and_l (eqb (length h.hints) J.T) (eqb (length h.out) J.T) r), eqb-true _ _ (and_r (eqb (length h.hints) J.T) (eqb (length h.out) J.T) r))

  module _ (t : ℕ) (l : t < J.T) where
    out_at : get_or (assign_def J palette h).after.out t 0 ≡ subpalette_of J palette t
    out_at = ap (λ (x : Outcome Answered TileMemory). get_or x.after.out t 0) done ∙ (unfold assigned in subpalette_at J palette h.out J.T t (le_of_eq (sym room.1)) l)

    hint-left : get_or (assign_def J palette h).after.hints t 0 ≡ hint_of J palette h.hints t
    hint-left = ap (λ (x : Outcome Answered TileMemory). get_or x.after.hints t 0) done ∙ (unfold assigned in hint-at J palette h.hints J.T t (le_of_eq (sym room.0)) l)

    -- each tile that is not empty gets its choice, whatever its hint was, and it becomes the hint
    assign-chooses : is_empty J t ≡ false
        → Chosen J palette J.S J.C t
        × (get_or (assign_def J palette h).after.out t 0 ≡ winner J palette J.S J.C t)
        × (get_or (assign_def J palette h).after.hints t 0 ≡ winner J palette J.S J.C t)
    unfolding subpalette_of
    assign-chooses e = (chosen J palette J.S J.C (shown J palette _ plain) t l, out_at ∙ rw e, hint-left ∙ rw e)

    -- an empty one gets 0, and keeps its hint
    assign_empty : is_empty J t ≡ true → (get_or (assign_def J palette h).after.out t 0 ≡ 0) × (get_or (assign_def J palette h).after.hints t 0 ≡ get_or h.hints t 0)
    unfolding subpalette_of
    assign_empty e = (out_at ∙ rw e, hint-left ∙ rw e)

-- ---- the three calls
module _ (J : Job) (palette : List Float) where
  pub single_fits : SingleFit J palette
  single_fits = record { chooses = single_chooses J palette; any_hint = single_any_hint J palette; empty = single_empty J palette }

  pub both-fit : BestTwo J palette
  both-fit =
      record {
        chooses = pair-chooses J palette;
        any_hint = pair_any_hint J palette;
        empty_one = empty_one J palette;
        empty_many = empty_many J palette;
      }

  pub assigns : Assign J palette
  assigns =
      record {
        chooses = assign-chooses J palette;
        any_hints = assign_any_hints J palette;
        empty = assign_empty J palette;
      }
