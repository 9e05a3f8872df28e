-- A colour more in each subpalette: the choice among its own sums, and the walk over the subpalettes. Assumes nothing.
use Prim.Native.Nat.{ℕ, ◌+◌, ◌-◌, ◌*◌, ◌≤◌, ◌<◌}
use mathlib.Core.Path.{◌≡◌, refl, sym, ap, subst, subst⁻¹, ◌∙◌}
use mathlib.Core.Bool.{Bool, true, false, cond}
use mathlib.Core.List.{List}
use native.Mathlib.Nat.{le_refl, le_antisymm}
use native.Mathlib.Decide.{ℕ_discrete}
use native.Mathlib.Numerals.{add-one}
use native.Mathlib.Omega.{arith}
use lib.ListN.{length, take, drop}
use lib.Dec.{eqb}
use lib.Ieee.{Float}
use borrow.Author.Tests.{eq-eqb, ne_eqb}
use Rattle.stats.specs.Stats.{value_at}
use Rattle.stats_extremes.specs.Extremes.{NoNan}
use Rattle.stats_extremes.proofs.Choices.{max_below}
use Rattle.job.specs.Job.{Job}
use Rattle.palette_edit.specs.Edits.{colour_copied}
use Rattle.palette_edit.proofs.Kept.{place-room}
use Rattle.palette_tile.proofs.Present.{shown-present}
use Rattle.quantizer.specs.Sums.{zeros, sums_at, greatest, places}
use Rattle.quantizer.specs.Growing.{needs_of, split_of, grown_by, grown}
use Rattle.quantizer.proofs.Lengths.{length_needs, length-grown_by}
use Rattle.quantizer.proofs.Lists.{length-zeros, length-sums}
use Rattle.quantizer.proofs.Indexes.{row-placed}
use Rattle.quantizer.specs.Goods.{AllGood}
use Rattle.quantizer.proofs.Goods.{zeros-good, sums_no_nan}
use Rattle.quantizer.proofs.Choices.{greatest-below}
use Rattle.quantizer.proofs.NoNans.{needs_good}
use Rattle.quantizer_needs.specs.Asked.{split_sums, Growing}
use Rattle.quantizer_grow.specs.Split.{Split}

-- ---- subpalette i
module _ (pal : List Float) (c have i : ℕ) (total : List Float) (K : Split pal c have i total) where
  between : i * c + have - i * c ≡ have
  between = omega arith

  present : i * c + have ≤ length total
  present = omega (arith, K.sums, K.present)

  pub split_real : NoNan (value_at (take (i * c + have - i * c) (drop (i * c) total))) (length (take (i * c + have - i * c) (drop (i * c) total)))
  split_real = subst⁻¹ (λ (m : ℕ). NoNan (value_at (take m (drop (i * c) total))) (length (take m (drop (i * c) total)))) between (sums_no_nan total (i * c) have present K.good)

  module _ (r : ℕ) (p : r ≡ greatest (take (i * c + have - i * c) (drop (i * c) total))) where
    chosen : r ≡ greatest (sums_at total (i * c) have)
    chosen = p ∙ ap (λ (m : ℕ). greatest (take m (drop (i * c) total))) between

    pub split_places : (3 * (i * c + r) + 2 < length pal) × (3 * (i * c + have) + 2 < length pal)
    split_places = (omega (arith, subst⁻¹ (λ (k : ℕ). k < have) chosen (greatest-below total (i * c) have present K.some), K.room), K.room)

-- ---- what the sums choose is what the definition does: of one colour, the one
one-greatest : (xs : List Float) → length xs ≡ 1 → greatest xs ≡ 0
one-greatest xs e = below (greatest xs) (subst (λ (n : ℕ). greatest xs < n) e (max_below (value_at xs) (length xs) (omega arith)))
  where
    below : (k : ℕ) → k < 1 → k ≡ 0
    below k l = omega arith

module _ (J : Job) (pal : List Float) (have : ℕ) where
  length-split_sums : length (split_sums J pal have) ≡ places
  unfolding split_sums
  length-split_sums = either (eqb have 1)
    where
      either : (b : Bool) → length (cond b (zeros places) (needs_of J pal have J.T)) ≡ places
      either true = length-zeros places
      either false = length_needs J pal have J.T

module _ (J : Job) (first : List Float) (have : ℕ) (hints : List ℕ) (K : Growing J first have hints) where
  split_sums-good : AllGood (split_sums J first have)
  unfolding split_sums
  split_sums-good = either (eqb have 1)
    where
      either : (b : Bool) → AllGood (cond b (zeros places) (needs_of J first have J.T))
      either true = zeros-good places
      either false = needs_good J first have K.shown J.T (le_refl J.T)

  row : (i : ℕ) → i < J.S → i * J.C + J.C ≤ length (split_sums J first have)
  row i l = omega (arith, row-placed J first J.S have K.shown i l, length-split_sums J first have)

  one_split : (i : ℕ) → i < J.S → have ≡ 1 → split_of J first have i ≡ greatest (sums_at (split_sums J first have) (i * J.C) have)
  unfolding split_of
  one_split i l e =
      ap (λ (b : Bool). cond b 0 (greatest (sums_at (needs_of J first have J.T) (i * J.C) have))) (eq-eqb have 1 e)
      ∙ sym (one-greatest (sums_at (split_sums J first have) (i * J.C) have) (length-sums (split_sums J first have) (i * J.C) have (omega (arith, row i l, K.more)) ∙ e))

  more_split : (i : ℕ) → (have ≡ 1 → ⊥) → split_of J first have i ≡ greatest (sums_at (split_sums J first have) (i * J.C) have)
  unfolding split_of split_sums
  more_split i f =
      ap (λ (b : Bool). cond b 0 (greatest (sums_at (needs_of J first have J.T) (i * J.C) have))) (ne_eqb have 1 f)
      ∙ sym (ap (λ (b : Bool). greatest (sums_at (cond b (zeros places) (needs_of J first have J.T)) (i * J.C) have)) (ne_eqb have 1 f))

  same_split : (i : ℕ) → i < J.S → split_of J first have i ≡ greatest (sums_at (split_sums J first have) (i * J.C) have)
  same_split i l = by (ℕ_discrete have 1)
    where
      by : Dec (have ≡ 1) → split_of J first have i ≡ greatest (sums_at (split_sums J first have) (i * J.C) have)
      by (yes e) = one_split i l e
      by (no f) = more_split i f

-- ---- the walk: what is held before subpalette i
pub record Splitting (J : Job) (first : List Float) (have : ℕ) (pal : List Float) (i : ℕ) : Type 0 where
  pub within : i ≤ J.S
  pub done : pal ≡ grown_by J first have i

module _ (J : Job) (first : List Float) (have : ℕ) (hints : List ℕ) (K : Growing J first have hints) where
  pub splitting_start : Splitting J first have first 0
  unfolding grown_by
  splitting_start = record { within = omega arith; done = refl }

  module _ (pal : List Float) (i : ℕ) (G : Splitting J first have pal i) where
    pub splitting_length : length pal ≡ length first
    splitting_length = ap length G.done ∙ length-grown_by J first have i

    module _ (total : List Float) (E : total ≡ split_sums J first have) where
      pub splitting_split : i < J.S → Split pal J.C have i total
      splitting_split l =
          subst⁻¹ (λ (d : List Float). Split pal J.C have i d) E
          (record {
            some = K.shown.some;
            present = K.shown.present;
            sums = row J first have hints K i l;
            good = split_sums-good J first have hints K;
            room = omega (arith, splitting_length, place-room J.S J.C i have (length first) l K.more (shown-present J first J.S have K.shown).room);
          })

      pub splitting_more : i < J.S → (after : List Float) → after ≡ colour_copied pal J.C i (greatest (sums_at total (i * J.C) have)) have → Splitting J first have after (i + 1)
      unfolding grown_by
      splitting_more l after q =
          record {
            within = omega arith;
            done =
                q
                ∙ ap (λ (x : List Float). colour_copied x J.C i (greatest (sums_at total (i * J.C) have)) have) G.done
                ∙ ap (λ (k : ℕ). colour_copied (grown_by J first have i) J.C i k have) (ap (λ (d : List Float). greatest (sums_at d (i * J.C) have)) E ∙ sym (same_split J first have hints K i l))
                ∙ sym (ap (grown_by J first have) (add-one i));
          }

    pub splitting_end : J.S ≤ i → pal ≡ grown J first have
    unfolding grown
    splitting_end h = G.done ∙ ap (grown_by J first have) (le_antisymm G.within h)
