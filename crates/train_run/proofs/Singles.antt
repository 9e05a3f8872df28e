-- Every number that a run holds is a float of 32 bits: it is a result rounded to 32 bits, nought, or a copy of one; and so is what is cut.
-- Nothing is asked of the job. Assumes nothing.
use Prim.Native.Nat.{ℕ, zero, suc, ◌+◌, ◌-◌, ◌*◌}
use mathlib.Core.List.{List, [], ◌∷◌, ◌++◌}
use lib.Dec.{T, ltb, eqb}
use lib.ListN.{get_or, set, take, drop}
use lib.Seq.{paste}
use lib.Ieee.{Float, binary32, fits, lt, neg, of_bits}
use lib.Ieee.Fits.{cond-fits, nan-fits, neg-fits, add-fits, div-fits}
use lib.Ieee.Bits.{of_bits-fits}
use Rattle.color.specs.declared.Oklab.{Oklab}
use Rattle.color.specs.Color.{colour_at, put_at}
use Rattle.job.specs.Job.{Job, two}
use Rattle.palette_edit.specs.Edits.{place_of, colour_copied, sub_copied}
use Rattle.quantizer.specs.Course.{Course}
use Rattle.quantizer.specs.Sums.{zeros}
use Rattle.quantizer.specs.Seeding.{seed_mean, seeded, duplicated, worst_of}
use Rattle.quantizer.specs.Growing.{grown_by, grown}
use Rattle.quantizer.specs.Replacing.{Shares, shares_of, swap_in, recoloured, colours_replaced, sub_replaced, replaced}
use Rattle.quantizer.specs.declared.Gather.{Gather}
use Rattle.quantizer.specs.Refining.{mean_step, means_of, refined}
use Rattle.quantizer.specs.Drawing.{moved}
use Rattle.quantizer.proofs.Swaps.{colour_either, sub_either}
use Rattle.run_stages.specs.State.{State, at, painted}
use Rattle.run_stages.specs.Stages.{noticed, open_seeding, open_growing, open_replacing, error_of, keep, judged, enter_replacing, enter_growing, enter_reducing}
use Rattle.run_stages.specs.Stages.{close_seeding, close_growing, close_replacing, finish_round, due, settle, draw, draw_with, step, going, fresh, start, refined_once, hand_in}
use Rattle.sheet.specs.Sheets.{Singles}
use Rattle.sheet.proofs.Floats.{singles_take, singles_drop, singles_append}
use Rattle.run_calls.proofs.Cases.{both, all-stages}
use Rattle.run_calls.proofs.Whilsts.{whilst_keeps}
use Rattle.train_run.specs.Training.{cut_one, cut, all, to_stop, hand_cut, turn, trained}

-- ---- lists
singles_set : (s : List Float) (i : ℕ) (x : Float) → T (fits binary32 x) → Singles s → Singles (set s i x)
singles_set [] i x f s j = s j
singles_set (y ∷ v) zero x f s zero = f
singles_set (y ∷ v) zero x f s (suc j) = s (suc j)
singles_set (y ∷ v) (suc i) x f s zero = s 0
singles_set (y ∷ v) (suc i) x f s (suc j) = singles_set v i x f (λ k. s (suc k)) j

singles_paste : (d : List Float) (at : ℕ) (s : List Float) (n : ℕ) → Singles d → Singles s → Singles (paste d at s n)
singles_paste d at s n h g =
    singles_append (take at d ++ take n s) (drop (at + n) d) (singles_append (take at d) (take n s) (singles_take at d h) (singles_take n s g)) (singles_drop (at + n) d h)

singles_zeros : (n : ℕ) → Singles (zeros n)
singles_zeros zero i = nan-fits binary32
singles_zeros (suc n) zero = of_bits-fits binary32 0
singles_zeros (suc n) (suc i) = singles_zeros n i

-- ---- a colour written, copied, and a subpalette copied
record Single (x : Oklab) : Type 0 where
  pub l : T (fits binary32 x.l)
  pub a : T (fits binary32 x.a)
  pub b : T (fits binary32 x.b)

singles_put : (s : List Float) (i : ℕ) (x : Oklab) → Single x → Singles s → Singles (put_at s i x)
unfolding put_at
singles_put s i x f h =
    singles_set (set (set s (3 * i) x.l) (3 * i + 1) x.a) (3 * i + 2) x.b f.b
    (singles_set (set s (3 * i) x.l) (3 * i + 1) x.a f.a (singles_set s (3 * i) x.l f.l h))

singles_colour_copied : (s : List Float) (c i from to : ℕ) → Singles s → Singles (colour_copied s c i from to)
singles_colour_copied s c i from to h =
    let p = place_of c i from in
    singles_put s (place_of c i to) (colour_at s p) (record { l = h (3 * p); a = h (3 * p + 1); b = h (3 * p + 2) }) h

singles_sub_copied : (s : List Float) (c have from to : ℕ) → Singles s → Singles (sub_copied s c have from to)
singles_sub_copied s c have from to h =
    singles_paste s (to * (3 * c)) (take (3 * have) (drop (from * (3 * c)) s)) (3 * have) h (singles_take (3 * have) (drop (from * (3 * c)) s) (singles_drop (from * (3 * c)) s h))

-- ---- a palette through each stage boundary, and one draw
seeded_singles : (K : Course) (s : List Float) → Singles s → Singles (seeded K s)
unfolding seeded seed_mean
seeded_singles K s h = singles_put s 0 (seed_mean K) (record { l = div-fits binary32 _ _; a = div-fits binary32 _ _; b = div-fits binary32 _ _ }) h

module _ (J : Job) where
  duplicated_singles : (from to : ℕ) (s : List Float) → Singles s → Singles (duplicated J from to s)
  unfolding duplicated
  duplicated_singles from to s h = singles_sub_copied s J.C 1 from to h

  grown_by_singles : (s : List Float) (have i : ℕ) → Singles s → Singles (grown_by J s have i)
  unfolding grown_by
  grown_by_singles s have zero h = h
  grown_by_singles s have (suc i) h = singles_colour_copied (grown_by J s have i) J.C i _ have (grown_by_singles s have i h)

  grown_singles : (s : List Float) (have : ℕ) → Singles s → Singles (grown J s have)
  unfolding grown
  grown_singles s have h = grown_by_singles s have J.S h

  recoloured_singles : (s : List Float) (A : Shares) (i : ℕ) → Singles s → Singles (recoloured J s A i)
  unfolding recoloured
  recoloured_singles s A zero h = h
  recoloured_singles s A (suc i) h =
      let before = recoloured_singles s A i h in
      colour_either Singles (recoloured J s A i) before J.C i (swap_in A (i * J.C) J.C) (λ o e. singles_colour_copied (recoloured J s A i) J.C i o.from o.to before)

  replaced_singles : (s : List Float) → Singles s → Singles (replaced J s)
  unfolding replaced sub_replaced colours_replaced
  replaced_singles s h =
      let colours = both Singles (ltb 1 J.C) (recoloured_singles s _ J.S h) h in
      both Singles (ltb 1 J.S) (sub_either Singles _ colours J.C (swap_in (shares_of J s J.T) 0 J.S) (λ o e. singles_sub_copied (colours_replaced J s) J.C J.C o.from o.to colours)) colours

  means_singles : (s : List Float) (A : Gather) (n : ℕ) → Singles s → Singles (means_of s A n)
  unfolding means_of mean_step
  means_singles s A zero h = h
  means_singles s A (suc p) h =
      let before = means_singles s A p h in
      both Singles (eqb (get_or A.cnts p 0) 0) before (singles_put (means_of s A p) p _ (record { l = div-fits binary32 _ _; a = div-fits binary32 _ _; b = div-fits binary32 _ _ }) before)

  refined_singles : (s : List Float) → Singles s → Singles (refined J s)
  unfolding refined
  refined_singles s h = means_singles s _ (J.S * J.C) h

  moved_singles : (s : List Float) (n have t k : ℕ) (alpha : Float) → Singles s → Singles (moved J s n have t k alpha)
  unfolding moved
  moved_singles s n have t k alpha h = singles_put s _ _ (record { l = add-fits binary32 _ _; a = add-fits binary32 _ _; b = add-fits binary32 _ _ }) h

-- ---- a run's two palettes
record BothSingle (s : State) : Type 0 where
  pub palette : Singles s.palette
  pub least : Singles s.least

module _ (K : Course) where
  keep_single : (s : State) → BothSingle s → BothSingle (keep K s)
  unfolding keep noticed
  keep_single s h = record { palette = h.palette; least = h.palette }

  noticed_single : (n have : ℕ) (s : State) → BothSingle s → BothSingle (noticed K n have s)
  unfolding noticed
  noticed_single n have s h = record { palette = h.palette; least = h.least }

  open_seeding_single : (r from : ℕ) (s : State) → BothSingle s → BothSingle (open_seeding K r from s)
  unfolding open_seeding
  open_seeding_single r from s h = record { palette = duplicated_singles K.job from (r + 1) s.palette h.palette; least = h.least }

  open_growing_single : (r : ℕ) (s : State) → BothSingle s → BothSingle (open_growing K r s)
  unfolding open_growing
  open_growing_single r s h = record { palette = grown_singles K.job s.palette (r + 1) h.palette; least = h.least }

  open_replacing_single : (r : ℕ) (s : State) → BothSingle s → BothSingle (open_replacing K r s)
  unfolding open_replacing
  open_replacing_single r s h = record { palette = replaced_singles K.job s.palette h.palette; least = h.least }

  enter_replacing_single : (s : State) → BothSingle s → BothSingle (enter_replacing K s)
  unfolding enter_replacing
  enter_replacing_single s h = open_replacing_single 0 (keep K s) (keep_single s h)

  enter_growing_single : (s : State) → BothSingle s → BothSingle (enter_growing K s)
  unfolding enter_growing
  enter_growing_single s h = both BothSingle (ltb 1 K.job.C) (open_growing_single 0 s h) (enter_replacing_single s h)

  enter_reducing_single : (s : State) → BothSingle s → BothSingle (enter_reducing K s)
  unfolding enter_reducing
  enter_reducing_single s h = record { palette = h.least; least = singles_zeros (3 * (K.job.S * K.job.C)) }

  judged_single : (s : State) → BothSingle s → BothSingle (judged K s)
  unfolding judged
  judged_single s h = both BothSingle (lt (error_of K s) (of_bits binary32 s.rec.error)) (keep_single s h) (noticed_single _ _ s h)

  -- ---- closing a round
  close_seeding_single : (s : State) → BothSingle s → BothSingle (close_seeding K s)
  unfolding close_seeding
  close_seeding_single s h =
      let seen = noticed_single (s.rec.rounds + 2) 1 s h in
      both BothSingle (ltb (s.rec.rounds + 1) (K.job.S - 1)) (open_seeding_single (s.rec.rounds + 1) (worst_of K.job s.palette (s.rec.rounds + 2)) _ seen) (enter_growing_single _ seen)

  close_growing_single : (s : State) → BothSingle s → BothSingle (close_growing K s)
  unfolding close_growing
  close_growing_single s h = both BothSingle (ltb (s.rec.rounds + 1) (K.job.C - 1)) (open_growing_single (s.rec.rounds + 1) s h) (enter_replacing_single s h)

  close_replacing_single : (s : State) → BothSingle s → BothSingle (close_replacing K s)
  unfolding close_replacing
  close_replacing_single s h = both BothSingle (ltb (s.rec.rounds + 1) 10) (open_replacing_single (s.rec.rounds + 1) _ (judged_single s h)) (enter_reducing_single _ (judged_single s h))

  finish_single : (s : State) → BothSingle s → BothSingle (finish_round K s)
  unfolding finish_round
  finish_single s h =
      all-stages BothSingle s.rec.stage {a4 = at s 5 0 0} (close_seeding_single s h) (close_growing_single s h) (close_replacing_single s h)
      (record { palette = h.palette; least = h.least }) h

  settle_single : (s : State) → BothSingle s → BothSingle (settle K s)
  unfolding settle
  settle_single s h = whilst_keeps due (finish_round K) BothSingle (λ z Z _. finish_single z Z) _ s h

  step_single : (s : State) → BothSingle s → BothSingle (step K s)
  unfolding step draw draw_with
  step_single s h = settle_single _ (record { palette = moved_singles K.job s.palette _ _ _ _ _ h.palette; least = h.least })

  start_single : (seed : ℕ) (hints : List ℕ) → BothSingle (start K seed hints)
  unfolding start
  start_single seed hints = settle_single _ (both BothSingle (ltb 1 K.job.S) (open_seeding_single 0 0 _ begun) (enter_growing_single _ begun))
    where
      nought : Singles (zeros (3 * (K.job.S * K.job.C)))
      nought = singles_zeros (3 * (K.job.S * K.job.C))

      begun : BothSingle (fresh K seed hints)
      begun = unfold fresh in record { palette = seeded_singles K (zeros (3 * (K.job.S * K.job.C))) nought; least = nought }

  refined_single : (s : State) → BothSingle s → BothSingle (refined_once K s)
  unfolding refined_once
  refined_single s h = record { palette = refined_singles K.job s.palette h.palette; least = h.least }

  hand_in_single : (reduced : List Float) (s : State) → Singles reduced → BothSingle s → BothSingle (hand_in K reduced s)
  unfolding hand_in
  hand_in_single reduced s r h =
      let four = refined_single _ (refined_single _ (refined_single _ (refined_single (painted s s.hints reduced) handed))) in
      both BothSingle (eqb s.rec.stage 3) (settle_single _ (record { palette = r; least = h.least }))
      (both BothSingle (eqb s.rec.stage 5) (record { palette = four.palette; least = four.least }) (record { palette = r; least = h.least }))
    where
      handed : BothSingle (painted s s.hints reduced)
      handed = record { palette = r; least = h.least }

-- ---- what is cut
cut_one-fits : (x : Float) → T (fits binary32 x) → T (fits binary32 (cut_one x))
unfolding cut_one
cut_one-fits x f =
    cond-fits binary32 (lt two x) two _ (of_bits-fits binary32 _)
    (cond-fits binary32 (lt x (neg two)) (neg two) x (neg-fits binary32 two (of_bits-fits binary32 _)) f)

cut_singles : (s : List Float) → Singles s → Singles (cut s)
unfolding cut
cut_singles [] h i = h i
cut_singles (x ∷ s) h zero = cut_one-fits x (h 0)
cut_singles (x ∷ s) h (suc i) = cut_singles s (λ j. h (suc j)) i

-- ---- the whole run
module _ (K : Course) where
  turn_single : (s : State) → BothSingle s → BothSingle (turn K s)
  unfolding turn hand_cut to_stop
  turn_single s h =
      let gone = whilst_keeps going (step K) BothSingle (λ z Z _. step_single K z Z) all s h in
      hand_in_single K (cut (to_stop K s).palette) (to_stop K s) (cut_singles (to_stop K s).palette gone.palette) gone

  pub trained_singles : (hints : List ℕ) → Singles (trained K hints).palette
  unfolding trained
  trained_singles hints = (turn_single _ (turn_single _ (turn_single _ (start_single K 0 hints)))).palette
