-- Every step keeps what the calls check of a run's memory, beside the record's words 1 to 4: lengths, components within 4, order entries below n,
-- hints for all tiles, and the least palette with its error. Assumes nothing.
use mathlib.Core.Path.{◌≡◌, refl, subst⁻¹, ◌∙◌}
use mathlib.Core.Logic.{◌≢◌}
use mathlib.Core.Bool.{Bool, cond}
use mathlib.Core.List.{List}
use Prim.Native.Nat.{ℕ, ◌+◌, ◌-◌, ◌*◌, ◌≤◌, ◌<◌}
use native.Mathlib.Nat.{le_refl}
use native.Mathlib.Omega.{arith}
use lib.ListN.{length}
use lib.Dec.{ltb, eqb}
use lib.Ieee.{Float, binary32, lt, of_bits, to_bits}
use borrow.Author.Tests.{ltb-true, eqb-true}
use Rattle.color.proofs.Sizes.{bounded_wider}
use Rattle.cycle.specs.Cycle.{draw_one, after, round_at}
use Rattle.cycle.proofs.Ready.{ready-length, ready-below, sample-below}
use Rattle.cycle.proofs.Rounds.{round-size, round-below}
use Rattle.job.specs.Gives.{Ready, Sampled}
use Rattle.palette_edit.proofs.Gentle.{Gentle, gentle_3, gentle_5}
use Rattle.palette_tile.specs.Tiles.{Shown, hints_of}
use Rattle.palette_tile.proofs.Hints.{length-hints}
use Rattle.palette_mse.proofs.Fine.{mse_error}
use Rattle.quantizer.specs.Course.{Course, sample_tile, sample_place, sample_colour}
use Rattle.quantizer.specs.Sums.{zeros}
use Rattle.quantizer.specs.Seeding.{seeded, duplicated, worst_of}
use Rattle.quantizer.specs.Growing.{grown}
use Rattle.quantizer.specs.Replacing.{replaced}
use Rattle.quantizer.specs.Refining.{refined}
use Rattle.quantizer.proofs.Lists.{length-zeros, zeros-bounded}
use Rattle.quantizer.proofs.Lengths.{length-grown_hints, length-replaced_hints, length-moved_hints, length-seeded, length-grown, length_moved, length-refined}
use Rattle.quantizer.proofs.Indexes.{worst_below}
use Rattle.quantizer.proofs.Bounds.{sample-sized, seeded-bounded, duplicated-bounded, length-duplicated, grown-bounded, replaced-kept, moved-bounded}
use Rattle.quantizer.proofs.Refines.{refined-bounded}
use Rattle.run_stages.specs.State.{State, painted, beside}
use Rattle.run_stages.specs.Stages.{noticed, open_seeding, open_growing, open_replacing, error_of, keep, judged, enter_replacing, enter_growing, enter_reducing, close_seeding, close_growing, close_replacing}
use Rattle.run_stages.specs.Stages.{finish_round, due, settle, cycle_of, subs_of, have_of, alpha_of, draw, draw_with, fresh, start, refined_once, hand_in}
use Rattle.run_calls.proofs.Cases.{by-test, both}
use Rattle.run_calls.proofs.Whilsts.{whilst_keeps}
use Rattle.run_calls.specs.Place.{Placed}
use Rattle.run_calls.proofs.Presence.{draw-shown}
use Rattle.run_calls.proofs.Limits.{error-bits}
use Rattle.run_calls.specs.Sound.{Dealt, Held, Second, Sound, in2, out2}

-- the last word outside stage 2
pub no_error : (K : Course) (s : State) → Sound K s → s.rec.stage ≢ 2 → s.rec.error ≡ 0
no_error K s A h = by A.second
  where
    by : Second K s.rec.stage s.rec.error s.least → s.rec.error ≡ 0
    by (in2 k e f) = absurd (h k)
    by (out2 k e) = e

module _ (K : Course) (R : Ready K.job) where
  shown : (pal : List Float) → Held K pal → (n have : ℕ) → 1 ≤ n → n ≤ K.job.S → 1 ≤ have → have ≤ K.job.C → Shown K.job pal n have
  shown pal H n have n1 nS h1 hC = record { ready = R; subs = n1; most = nS; some = h1; present = hC; room = H.size; bounded = H.bound }

  pub all_shown : (pal : List Float) → Held K pal → Shown K.job pal K.job.S K.job.C
  all_shown pal H = shown pal H K.job.S K.job.C R.sizes.subs (le_refl K.job.S) R.sizes.some (le_refl K.job.C)

  -- ---- a palette through each stage boundary
  zeros-held : Held K (zeros (3 * (K.job.S * K.job.C)))
  zeros-held = record { size = length-zeros (3 * (K.job.S * K.job.C)); bound = zeros-bounded (3 * (K.job.S * K.job.C)) 4 }

  duplicated-held : (from to : ℕ) (pal : List Float) → from < K.job.S → to < K.job.S → Held K pal → Held K (duplicated K.job from to pal)
  duplicated-held from to pal F G H =
      record {
        size = length-duplicated K.job pal H.size from to R.sizes.some F G ∙ H.size;
        bound = duplicated-bounded K.job pal H.size from to R.sizes.some F G 4 H.bound;
      }

  grown-held : (have : ℕ) (pal : List Float) → 1 ≤ have → have ≤ K.job.C → Held K pal → Held K (grown K.job pal have)
  grown-held have pal h1 hC H =
      record {
        size = length-grown K.job pal have ∙ H.size;
        bound = grown-bounded K.job pal have (shown pal H K.job.S have R.sizes.subs (le_refl K.job.S) h1 hC) 4 H.bound;
      }

  replaced-held : (pal : List Float) → Held K pal → Held K (replaced K.job pal)
  replaced-held pal H =
      let r = replaced-kept K.job pal (all_shown pal H) 4 H.bound in
      record { size = r.size ∙ H.size; bound = r.bound }

  pub refined-held : (pal : List Float) → Held K pal → Held K (refined K.job pal)
  refined-held pal H = record { size = length-refined K.job pal ∙ H.size; bound = refined-bounded K.job pal (all_shown pal H) 4 (omega arith) H.bound }

  error-finite : (pal : List Float) → Held K pal → (s : State) → s.palette ≡ pal → to_bits binary32 (error_of K s) < 0x7f800000
  unfolding error_of
  error-finite pal H s e = error-bits (error_of K s) (mse_error K.job s.palette K.job.S K.job.C (all_shown s.palette (subst⁻¹ (Held K) e H)))

  pub hinted : (pal : List Float) (n have : ℕ) (h : List ℕ) → length h ≡ K.job.T → length (hints_of K.job pal n have h K.job.T) ≡ K.job.T
  hinted pal n have h e = length-hints K.job pal n have h K.job.T ∙ e

  -- ---- opening a round, and entering a stage
  keep-held : (s : State) → Held K s.palette → length s.hints ≡ K.job.T → Dealt K.n s.order → s.rec.stage ≡ 2 → Sound K (keep K s)
  unfolding keep noticed
  keep-held s H h d k = record { held = H; room = H.size; second = in2 k (error-finite s.palette H s refl) H.bound; hints = hinted s.palette _ _ s.hints h; dealt = d }

  enter_replacing-sound : (s : State) → Held K s.palette → length s.hints ≡ K.job.T → Dealt K.n s.order → Sound K (enter_replacing K s)
  unfolding enter_replacing open_replacing keep noticed
  enter_replacing-sound s H h d =
      record {
        held = replaced-held s.palette H;
        room = H.size;
        second = in2 refl (error-finite s.palette H s refl) H.bound;
        hints = length-replaced_hints K.job s.palette _ ∙ hinted s.palette _ _ s.hints h;
        dealt = d;
      }

  open_growing-sound : (r : ℕ) (s : State) → r + 1 ≤ K.job.C → Sound K s → s.rec.error ≡ 0 → Sound K (open_growing K r s)
  unfolding open_growing
  open_growing-sound r s l A e =
      record {
        held = grown-held (r + 1) s.palette (omega arith) l A.held;
        room = A.room;
        second = out2 (omega arith) e;
        hints = length-grown_hints K.job s.palette s.hints (r + 1) ∙ A.hints;
        dealt = A.dealt;
      }

  open_seeding-sound : (r from : ℕ) (s : State) → r + 1 < K.job.S → from < K.job.S → Sound K s → s.rec.error ≡ 0 → Sound K (open_seeding K r from s)
  unfolding open_seeding
  open_seeding-sound r from s l f A e = record { held = duplicated-held from (r + 1) s.palette f l A.held; room = A.room; second = out2 (omega arith) e; hints = A.hints; dealt = A.dealt }

  enter_growing-sound : (s : State) → Sound K s → s.rec.error ≡ 0 → Sound K (enter_growing K s)
  unfolding enter_growing
  enter_growing-sound s A e = both (Sound K) (ltb 1 K.job.C) (open_growing-sound 0 s (omega (arith, R.sizes.some)) A e) (enter_replacing-sound s A.held A.hints A.dealt)

  noticed-sound : (n have : ℕ) (s : State) → Sound K s → Sound K (noticed K n have s)
  unfolding noticed
  noticed-sound n have s A = record { held = A.held; room = A.room; second = A.second; hints = hinted s.palette n have s.hints A.hints; dealt = A.dealt }

  noticed-error : (n have : ℕ) (s : State) → (noticed K n have s).rec.error ≡ s.rec.error
  unfolding noticed
  noticed-error n have s = refl

  -- ---- closing a round
  close_seeding-sound : (s : State) → Sound K s → s.rec.stage ≡ 0 → Sound K (close_seeding K s)
  unfolding close_seeding
  close_seeding-sound s A k =
      let e = noticed-error (s.rec.rounds + 2) 1 s ∙ no_error K s A (omega arith) in
      by-test (Sound K) (ltb (s.rec.rounds + 1) (K.job.S - 1))
      (λ t.
      let l : s.rec.rounds + 1 < K.job.S - 1 = ltb-true (s.rec.rounds + 1) (K.job.S - 1) t in
      let H = shown s.palette A.held (s.rec.rounds + 2) 1 (omega arith) (omega arith) (omega arith) R.sizes.some in
      open_seeding-sound (s.rec.rounds + 1) (worst_of K.job s.palette (s.rec.rounds + 2)) _ (omega arith) (omega (arith, worst_below K.job s.palette (s.rec.rounds + 2) H)) (noticed-sound _ _ s A) e)
      (λ t. enter_growing-sound _ (noticed-sound _ _ s A) e)

  close_growing-sound : (s : State) → Sound K s → s.rec.stage ≡ 1 → Sound K (close_growing K s)
  unfolding close_growing
  close_growing-sound s A k =
      by-test (Sound K) (ltb (s.rec.rounds + 1) (K.job.C - 1))
      (λ t. let l : s.rec.rounds + 1 < K.job.C - 1 = ltb-true (s.rec.rounds + 1) (K.job.C - 1) t in open_growing-sound (s.rec.rounds + 1) s (omega arith) A (no_error K s A (omega arith)))
      (λ t. enter_replacing-sound s A.held A.hints A.dealt)

  judged-sound : (s : State) → Sound K s → s.rec.stage ≡ 2 → Sound K (judged K s)
  unfolding judged
  judged-sound s A k = both (Sound K) (lt (error_of K s) (of_bits binary32 s.rec.error)) (keep-held s A.held A.hints A.dealt k) (noticed-sound _ _ s A)

  judged-stage : (s : State) → (judged K s).rec.stage ≡ s.rec.stage
  unfolding judged keep noticed
  judged-stage s = both (λ (z : State). z.rec.stage ≡ s.rec.stage) (lt (error_of K s) (of_bits binary32 s.rec.error)) {x = keep K s} {y = noticed K K.job.S K.job.C s} refl refl

  -- the least palette in stage 2
  least-held : (s : State) → Sound K s → s.rec.stage ≡ 2 → Held K s.least
  least-held s A k = by A.second
    where
      by : Second K s.rec.stage s.rec.error s.least → Held K s.least
      by (in2 q e f) = record { size = A.room; bound = f }
      by (out2 q e) = absurd (q k)

  open_replacing-sound : (r : ℕ) (s : State) → Sound K s → s.rec.stage ≡ 2 → Sound K (open_replacing K r s)
  unfolding open_replacing
  open_replacing-sound r s A k =
      record {
        held = replaced-held s.palette A.held;
        room = A.room;
        second = two A.second;
        hints = length-replaced_hints K.job s.palette s.hints ∙ A.hints;
        dealt = A.dealt;
      }
    where
      two : Second K s.rec.stage s.rec.error s.least → Second K 2 s.rec.error s.least
      two (in2 q e f) = in2 refl e f
      two (out2 q e) = absurd (q k)

  enter_reducing-sound : (s : State) → Sound K s → s.rec.stage ≡ 2 → Sound K (enter_reducing K s)
  unfolding enter_reducing
  enter_reducing-sound s A k = record { held = least-held s A k; room = zeros-held.size; second = out2 (omega arith) refl; hints = A.hints; dealt = A.dealt }

  close_replacing-sound : (s : State) → Sound K s → s.rec.stage ≡ 2 → Sound K (close_replacing K s)
  unfolding close_replacing
  close_replacing-sound s A k =
      both (Sound K) (ltb (s.rec.rounds + 1) 10) (open_replacing-sound _ _ (judged-sound s A k) (judged-stage s ∙ k)) (enter_reducing-sound _ (judged-sound s A k) (judged-stage s ∙ k))

  pub finish_sound : (s : State) → Sound K s → Sound K (finish_round K s)
  unfolding finish_round beside
  finish_sound s A =
      by-test (Sound K) (eqb s.rec.stage 0) (λ t. close_seeding-sound s A (eqb-true s.rec.stage 0 t))
      (λ _. by-test (Sound K) (eqb s.rec.stage 1) (λ t. close_growing-sound s A (eqb-true s.rec.stage 1 t))
      (λ _. by-test (Sound K) (eqb s.rec.stage 2) (λ t. close_replacing-sound s A (eqb-true s.rec.stage 2 t))
      (λ _. by-test (Sound K) (eqb s.rec.stage 4) (λ t. record { held = A.held; room = A.room; second = out2 (omega arith) (no_error K s A (omega (arith, eqb-true s.rec.stage 4 t))); hints = A.hints; dealt = A.dealt })
      (λ _. A))))

  pub settle-sound : (s : State) → Sound K s → Sound K (settle K s)
  unfolding settle
  settle-sound s A = whilst_keeps due (finish_round K) (Sound K) (λ z B _. finish_sound z B) _ s A

  -- ---- after a stop
  refined-sound : (s : State) → Sound K s → Sound K (refined_once K s)
  unfolding refined_once
  refined-sound s A = record { held = refined-held s.palette A.held; room = A.room; second = A.second; hints = hinted s.palette _ _ s.hints A.hints; dealt = A.dealt }

  pub hand_in-sound : (h : List Float) (s : State) → Held K h → Sound K s → s.rec.stage ≢ 2 → Sound K (hand_in K h s)
  unfolding hand_in refined_once
  hand_in-sound h s H A k =
      let e = no_error K s A k in
      let y = refined-sound _ (refined-sound _ (refined-sound _ (refined-sound _ handed))) in
      both (Sound K) (eqb s.rec.stage 3) (settle-sound _ (record { held = H; room = A.room; second = out2 (omega arith) e; hints = A.hints; dealt = A.dealt }))
      (both (Sound K) (eqb s.rec.stage 5)
      (record { held = y.held; room = y.room; second = out2 (omega arith) e; hints = y.hints; dealt = y.dealt })
      (record { held = H; room = A.room; second = out2 (omega arith) e; hints = A.hints; dealt = A.dealt }))
    where
      handed : Sound K (painted s s.hints h)
      handed = record { held = H; room = A.room; second = A.second; hints = A.hints; dealt = A.dealt }

-- ---- a draw, and the start: the samples are those of the job
module _ (K : Course) (given : Bool) (D : Sampled K.job K.n K.samples given) where
  gentle : (s : State) → Gentle (alpha_of s.rec)
  unfolding alpha_of
  gentle s = both Gentle (eqb s.rec.stage 4) gentle_5 gentle_3

  drawn-dealt : (s : State) → Dealt K.n s.order → Dealt K.n (draw_one (cycle_of s.order s.rec)).next.cards.order
  unfolding draw_one
  drawn-dealt s d =
      record {
        size = ready-length (cycle_of s.order s.rec) ∙ d.size;
        below = λ i l. ready-below (cycle_of s.order s.rec) K.n d.below i (omega (arith, ready-length (cycle_of s.order s.rec)));
      }

  pub sample_in : (s : State) → Dealt K.n s.order → (draw_one (cycle_of s.order s.rec)).sample < K.n
  sample_in s d = sample-below (cycle_of s.order s.rec) K.n d.below (omega (arith, d.size, D.some))

  pub draw-sound : (s : State) → Placed K s → Sound K s → Sound K (draw K s)
  unfolding draw draw_with
  draw-sound s p A =
      let i = (draw_one (cycle_of s.order s.rec)).sample in
      let t = sample_tile K i in
      let H = draw-shown K D.ready s p A.held.size A.held.bound in
      record {
        held = record {
          size = length_moved K.job s.palette (subs_of K.job.S s.rec) (have_of K.job.C s.rec) t (sample_place K i) (alpha_of s.rec) ∙ A.held.size;
          bound = moved-bounded K.job s.palette (subs_of K.job.S s.rec) (have_of K.job.C s.rec) H t (sample_place K i)
              (alpha_of s.rec) (gentle s) (unfold sample_colour in sample-sized K given D i (sample_in s A.dealt));
        };
        room = A.room;
        second = A.second;
        hints = length-moved_hints K.job s.palette s.hints (subs_of K.job.S s.rec) (have_of K.job.C s.rec) t ∙ A.hints;
        dealt = drawn-dealt s A.dealt;
      }

  pub fresh-sound : (seed : ℕ) (hints : List ℕ) → length hints ≡ K.job.T → Sound K (fresh K seed hints)
  unfolding fresh
  fresh-sound seed hints h =
      let z = zeros-held K D.ready in
      let pal = zeros (3 * (K.job.S * K.job.C)) in
      record {
        held = record {
          size = length-seeded K pal ∙ z.size;
          bound = bounded_wider (seeded K pal) 2 4 (omega arith) (seeded-bounded K given D pal (zeros-bounded (3 * (K.job.S * K.job.C)) 2));
        };
        room = z.size;
        second = out2 (omega arith) refl;
        hints = h;
        dealt = unfold after round_at in record { size = round-size K.n seed 0; below = λ i l. round-below K.n seed 0 i (omega (arith, round-size K.n seed 0)) };
      }

  -- the first round of a start
  pub first-sound : (seed : ℕ) (hints : List ℕ) → length hints ≡ K.job.T → Sound K (cond (ltb 1 K.job.S) (open_seeding K 0 0 (fresh K seed hints)) (enter_growing K (fresh K seed hints)))
  first-sound seed hints h =
      by-test (Sound K) (ltb 1 K.job.S)
      (λ t. let l : 1 < K.job.S = ltb-true 1 K.job.S t in open_seeding-sound K D.ready 0 0 (fresh K seed hints) (omega arith) (omega arith) (fresh-sound seed hints h) zero-error)
      (λ t. enter_growing-sound K D.ready (fresh K seed hints) (fresh-sound seed hints h) zero-error)
    where
      zero-error : (fresh K seed hints).rec.error ≡ 0
      zero-error = unfold fresh in refl

  pub start-sound : (seed : ℕ) (hints : List ℕ) → length hints ≡ K.job.T → Sound K (start K seed hints)
  unfolding start
  start-sound seed hints h = settle-sound K D.ready _ (first-sound seed hints h)
