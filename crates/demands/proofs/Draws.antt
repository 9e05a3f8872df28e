-- A draw of a run is what demand 2 says of it, and an accepted advance is such draws. Assumes nothing.
use Prim.Native.Nat.{ℕ, zero, suc, ◌-◌, ◌/◌, ◌≤◌, ◌<◌}
use mathlib.Core.Path.{◌≡◌, refl, sym, ap, subst, subst⁻¹, ◌∙◌}
use mathlib.Core.Bool.{Bool, true, false, cond, ◌&&◌}
use mathlib.Core.Logic.{inl, inr}
use mathlib.Core.List.{List, [], ◌∷◌}
use native.Mathlib.Omega.{arith}
use lib.Dec.{eqb}
use lib.ListN.{length, get_or}
use lib.Seq.{get_or-set_same, get_or-set_other}
use lib.Ieee.{Float}
use borrow.Author.Tests.{ne_eqb}
use Rattle.color.specs.declared.Oklab.{Oklab}
use Rattle.color.specs.Color.{colour_at, sqdist_of}
use Rattle.color.proofs.Puts.{put_here, put_elsewhere}
use Rattle.color.proofs.Sizes.{sized-real, bounded-finite}
use Rattle.color.specs.Blend.{nudged}
use Rattle.stats.specs.declared.Near.{Near}
use Rattle.job.specs.Gives.{Sampled}
use Rattle.stats.specs.Least.{Least}
use Rattle.stats.proofs.Scan.{least_has}
use Rattle.palette.specs.Palette.{sub_of, gap, nearest_of}
use Rattle.palette.proofs.Sums.{gap-good}
use Rattle.palette_edit.proofs.Kept.{sub-colour}
use Rattle.palette_tile.specs.Tiles.{fit_at, Shown}
use Rattle.palette_tile.proofs.Present.{winner-below, part-colours, part-bounded}
use Rattle.quantizer.specs.Course.{Course, sample_tile, sample_place, sample_colour}
use Rattle.quantizer.specs.Drawing.{target_of, moved, moved_hints}
use Rattle.quantizer.proofs.Bounds.{sample-sized}
use Rattle.quantizer.proofs.Indexes.{target_in}
use Rattle.quantizer.proofs.Lengths.{length_moved, length-moved_hints}
use Rattle.answer.specs.Outcome.{Outcome}
use Rattle.run_stages.specs.Calls.{Advanced}
use Rattle.run_stages.specs.State.{State, draws}
use Rattle.run_stages.specs.Stages.{due, subs_of, have_of, alpha_of, draw, draw_with, going, step, advance, draws_of}
use Rattle.run_stages.specs.Calls.{Memory, state_of, advance_answer, advance_call}
use Rattle.run_stages.specs.History.{sample_at, sampled}
use Rattle.run_calls.proofs.Cases.{decide}
use Rattle.run_calls.proofs.Whilsts.{whilst_zero, whilst_step, whilst_stop, times_zero, times-step, times_stop}
use Rattle.run_calls.proofs.Split.{settle-idle}
use Rattle.run_calls.proofs.Presence.{draw-shown}
use Rattle.run_calls.proofs.Sound.{sample_in}
use Rattle.run_calls.specs.Fit.{Fit}
use Rattle.run_calls.proofs.Fit.{step-fit}
use Rattle.run_calls.specs.Accepted.{Accepted}
use Rattle.run_calls.proofs.Accepted.{job-passed}
use Rattle.run_calls.proofs.Answers.{advance_opened}
use Rattle.run_calls.proofs.Next.{advance-done, advanced-state}
use Rattle.demands.specs.Second.{gaps, Chosen, Moves, Draws, none, drawn}
use Rattle.demands.proofs.Fits.{chosen}

-- distances that agree below n have one least
least_by : (d e : ℕ → Float) (n : ℕ) (b : Near) → ((j : ℕ) → j < n → d j ≡ e j) → Least d n b → Least e n b
least_by d e n b f L =
    record {
      within = L.within;
      dist = L.dist ∙ f b.index L.within;
      none_less = λ j l. rw (sym (f j l)) (L.none_less j l);
      first = λ j l. rw (sym (f j (omega (arith, L.within)))) (L.first j l);
    }

module _ (K : Course) (given : Bool) (D : Sampled K.job K.n K.samples given) where
  module _ (s : State) (F : Fit K s) where
    abbrev i : ℕ
    i = sample_at s

    abbrev t : ℕ
    t = sample_tile K i

    below : i < K.n
    below = sample_in K given D s F.sound.dealt

    shown : Shown K.job s.palette (subs_of K.job.S s.rec) (have_of K.job.C s.rec)
    shown = draw-shown K D.ready s F.rests.place F.sound.held.size F.sound.held.bound

    abbrev sub : Near
    sub = fit_at K.job s.palette (subs_of K.job.S s.rec) (have_of K.job.C s.rec) t

    sub_in : sub.index < subs_of K.job.S s.rec
    sub_in = winner-below K.job s.palette (subs_of K.job.S s.rec) (have_of K.job.C s.rec) shown t

    abbrev part : List Float
    part = sub_of s.palette K.job.C (have_of K.job.C s.rec) sub.index

    abbrev colour : Near
    colour = nearest_of part (sample_colour K i) K.job.weight

    nearest : Least (gaps K.job s.palette sub.index (sample_colour K i)) (have_of K.job.C s.rec) colour
    nearest =
        least_by (gap part (sample_colour K i) K.job.weight) (gaps K.job s.palette sub.index (sample_colour K i)) (have_of K.job.C s.rec) colour
        (λ j l. unfold gap in ap (λ (c : Oklab). sqdist_of c (sample_colour K i) K.job.weight) (sub-colour s.palette K.job.C (have_of K.job.C s.rec) sub.index j l))
        (subst (λ (k : ℕ). Least (gap part (sample_colour K i) K.job.weight) k colour) many
        (least_has (gap part (sample_colour K i) K.job.weight) (length part / 3) (omega (arith, many, shown.some))
        (gap-good part K.job.weight (bounded-finite part 4 (part-bounded K.job s.palette (subs_of K.job.S s.rec) (have_of K.job.C s.rec) shown sub.index sub_in)) D.ready.weight
        (sample_colour K i) (sized-real (sample_colour K i) 2 (sample-sized K given D i below)))))
      where
        many : length part / 3 ≡ have_of K.job.C s.rec
        many = part-colours K.job s.palette (subs_of K.job.S s.rec) (have_of K.job.C s.rec) shown sub.index sub_in

    pub fit_moves : Moves K i s (draw K s)
    unfolding draw draw_with moved moved_hints target_of sample_colour
    fit_moves =
        let place = target_of K.job s.palette (subs_of K.job.S s.rec) (have_of K.job.C s.rec) t (sample_place K i) in
        let x = nudged (alpha_of s.rec) (colour_at s.palette place) (sample_colour K i) in
        record {
          sub = sub;
          colour = colour;
          fits = (chosen K.job s.palette (subs_of K.job.S s.rec) (have_of K.job.C s.rec) shown t (D.tile i below)).least;
          nearest = nearest;
          moves = put_here s.palette place x (target_in K.job s.palette (subs_of K.job.S s.rec) (have_of K.job.C s.rec) shown t (sample_place K i));
          stays = λ p n. put_elsewhere s.palette place x p n;
          size = length_moved K.job s.palette (subs_of K.job.S s.rec) (have_of K.job.C s.rec) t (sample_place K i) (alpha_of s.rec);
          second = refl;
          hint = get_or-set_same s.hints t sub.index 0 (omega (arith, D.tile i below, F.sound.hints));
          hints_stay = λ u n. get_or-set_other s.hints t u sub.index 0 n;
          hints = length-moved_hints K.job s.palette s.hints (subs_of K.job.S s.rec) (have_of K.job.C s.rec) t;
          made = refl;
          one_less = refl;
          order = refl;
          generator = refl;
          stage = refl;
          rounds = refl;
          error = refl;
          sizes = refl;
        }

  fit-draws : (a : ℕ) (s : State) → Fit K s → Draws K s (sampled K a s) (advance K a s)
  unfolding sampled step
  fit-draws zero s F = subst⁻¹ (λ (z : State). Draws K s [] z) (whilst_zero going (step K) s) none
  fit-draws (suc a) s F = elim (decide (going s)) [
    | inl d ↦
        subst⁻¹ (λ (b : Bool). Draws K s (cond b (sample_at s ∷ sampled K a (step K s)) []) (advance K (suc a) s)) d
        (subst⁻¹ (λ (z : State). Draws K s (sample_at s ∷ sampled K a (step K s)) z) (whilst_step going (step K) a s d)
        (drawn (fit_moves s F) (fit-draws a (step K s) (step-fit K given D s F d))))
    | inr d ↦
        subst⁻¹ (λ (b : Bool). Draws K s (cond b (sample_at s ∷ sampled K a (step K s)) []) (advance K (suc a) s)) d
        (subst⁻¹ (λ (z : State). Draws K s [] z) (whilst_stop going (step K) (suc a) s d) none)
  ]

-- as many samples as draws are counted
sampled-many : (K : Course) (a : ℕ) (s : State) → length (sampled K a s) ≡ draws_of K a s
unfolding sampled
sampled-many K zero s = sym (times_zero going (step K) s)
sampled-many K (suc a) s = elim (decide (going s)) [
  | inl d ↦ ap (λ (b : Bool). length (cond b (sample_at s ∷ sampled K a (step K s)) [])) d ∙ ap suc (sampled-many K a (step K s)) ∙ sym (times-step going (step K) a s d)
  | inr d ↦ ap (λ (b : Bool). length (cond b (sample_at s ∷ sampled K a (step K s)) [])) d ∙ sym (times_stop going (step K) (suc a) s d)
]

module _ (K : Course) (m : Memory) where
  pub tiles_chosen : Accepted K m → (t : ℕ) → t < K.job.T → Chosen K.job (state_of m).palette (subs_of K.job.S (state_of m).rec) (have_of K.job.C (state_of m).rec) t
  tiles_chosen A t l =
      chosen K.job (state_of m).palette (subs_of K.job.S (state_of m).rec) (have_of K.job.C (state_of m).rec)
      (draw-shown K (job-passed K true A.passed).ready (state_of m) A.fit.rests.place A.fit.sound.held.size A.fit.sound.held.bound) t l

  -- the next draw of an accepted memory
  pub draw-moves : Accepted K m → Moves K (sample_at (state_of m)) (state_of m) (draw K (state_of m))
  draw-moves A = fit_moves K true (job-passed K true A.passed) (state_of m) A.fit

  -- an accepted advance is as many draws as it reports
  pub advance-moves : (a : ℕ) → (advance_answer K m).number ≡ 0 → Draws K (state_of m) (sampled K a (state_of m)) (state_of (advance_call K m a).after)
  advance-moves a h =
      let A = (advance_opened K m h).0 in
      subst⁻¹ (Draws K (state_of m) (sampled K a (state_of m))) (advanced-state K m a h) (fit-draws K true (job-passed K true A.passed) a (state_of m) A.fit)

  pub advance_many : (a : ℕ) → (advance_answer K m).number ≡ 0 → length (sampled K a (state_of m)) ≡ (advance_call K m a).answer.draws
  unfolding advance_call
  advance_many a h = sampled-many K a (state_of m) ∙ sym (ap (λ (x : Outcome Advanced Memory). x.answer.draws) (advance-done K m a h))

  -- by one draw inside a round nothing else is due: memory before and after
  pub one_draw : (advance_answer K m).number ≡ 0 → 2 ≤ get_or m.words 3 0 → state_of (advance_call K m 1).after ≡ draw K (state_of m)
  one_draw h l =
      let A = advance_opened K m h in
      advanced-state K m 1 h ∙ whilst_step going (step K) 0 (state_of m) A.1 ∙ whilst_zero going (step K) (step K (state_of m)) ∙ (unfold step in settle-idle K (draw K (state_of m)) idle)
    where
      idle : due (draw K (state_of m)) ≡ false
      idle = unfold draw draw_with state_of in more (draws (get_or m.words 1 0)) (get_or m.words 3 0) l
        where
          more : (t : Bool) (n : ℕ) → 2 ≤ n → t && eqb (n - 1) 0 ≡ false
          more true n h = ne_eqb (n - 1) 0 (λ (e : n - 1 ≡ 0). omega arith)
          more false n h = refl

  pub one-moves : (advance_answer K m).number ≡ 0 → 2 ≤ get_or m.words 3 0 → Moves K (sample_at (state_of m)) (state_of m) (state_of (advance_call K m 1).after)
  one-moves h l = subst⁻¹ (Moves K (sample_at (state_of m)) (state_of m)) (one_draw h l) (draw-moves (advance_opened K m h).0)
