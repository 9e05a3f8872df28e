-- The run, stage by stage: what opens and closes a round, one draw, and what each call does to a state that it accepts. Definitions only. Assumes nothing.
use Rattle.std.specs.Prelude.{ℕ, ◌+◌, ◌-◌, ◌*◌, Bool, cond, ◌&&◌, List, [], ◌∷◌, ltb, eqb, Float}
use Rattle.std.specs.Float.{binary32}
use Rattle.std.specs.Float.Ieee.{lt, of_bits, to_bits}
use Rattle.prng.specs.Shuffle.{deck}
use Rattle.cycle.specs.Cycle.{Cycle, Drawn, cycle, draw_one, after}
use Rattle.palette_tile.specs.Tiles.{hints_of}
use Rattle.palette_mse.specs.Mse.{mse_of}
use Rattle.quantizer.specs.Course.{Course, b, sample_tile, sample_place}
use Rattle.quantizer.specs.Sums.{zeros}
use Rattle.quantizer.specs.Seeding.{seeded, duplicated, worst_of}
use Rattle.quantizer.specs.Growing.{grown, grown_hints}
use Rattle.quantizer.specs.Replacing.{replaced, replaced_hints}
use Rattle.quantizer.specs.Refining.{refined}
use Rattle.quantizer.specs.Drawing.{moved, moved_hints}
use Rattle.run_stages.specs.declared.Record.{Record}
use Rattle.run_stages.specs.Whilst.{whilst, times}
use Rattle.run_stages.specs.State.{State, begun, counted, at, painted, kept, draws, beside}
use Rattle.run_stages.specs.Record.{sizes_word}

-- ---- what a record says by itself. The subpalettes that are present, of S, and the colours of each, of C
unfoldable pub subs_of : ℕ → Record → ℕ
subs_of S r = cond (eqb r.stage 0) (r.rounds + 2) S

unfoldable pub have_of : ℕ → Record → ℕ
have_of C r = cond (eqb r.stage 0) 1 (cond (eqb r.stage 1) (r.rounds + 2) C)

-- how far a colour moves: 0.3, in stage 4 0.5
unfoldable pub alpha_of : Record → Float
alpha_of r = cond (eqb r.stage 4) (of_bits binary32 0x3f000000) (of_bits binary32 0x3e99999a)

-- the cycle of samples, in its present order
abbrev pub cycle_of : List ℕ → Record → Cycle
cycle_of order r = cycle (deck order r.generator) r.made

-- a run is at a stage that draws; and no draw is left in its round
abbrev pub going : State → Bool
going s = draws s.rec.stage

abbrev pub due : State → Bool
due s = going s && eqb s.rec.left 0

module _ (K : Course) where
  open K.job use {S, C, T}

  -- every tile that is not empty is fitted to n subpalettes of `have` colours: the winners become the hints
  unfoldable pub noticed : ℕ → ℕ → State → State
  noticed n have s = painted s (hints_of K.job s.palette n have s.hints T) s.palette

  -- ---- what opens a round, the r-th of its stage
  unfoldable pub open_seeding : ℕ → ℕ → State → State
  open_seeding r from s = at (painted s s.hints (duplicated K.job from (r + 1) s.palette)) 0 r (b K)

  unfoldable pub open_growing : ℕ → State → State
  open_growing r s = at (painted s (grown_hints K.job s.palette (r + 1) s.hints) (grown K.job s.palette (r + 1))) 1 r (b K)

  unfoldable pub open_replacing : ℕ → State → State
  open_replacing r s = at (painted s (replaced_hints K.job s.palette s.hints) (replaced K.job s.palette)) 2 r (b K)

  -- ---- the first palette of least error is kept. Its error's bits are the record's last word
  unfoldable pub error_of : State → Float
  error_of s = mse_of K.job s.palette S C

  unfoldable pub keep : State → State
  keep s = kept (noticed S C s) s.palette (to_bits binary32 (error_of s))

  unfoldable pub judged : State → State
  judged s = cond (lt (error_of s) (of_bits binary32 s.rec.error)) (keep s) (noticed S C s)

  -- ---- entering a stage
  unfoldable pub enter_replacing : State → State
  enter_replacing s = open_replacing 0 (keep s)

  unfoldable pub enter_growing : State → State
  enter_growing s = cond (ltb 1 C) (open_growing 0 s) (enter_replacing s)

  -- the stop for reduction: the palette kept is the palette, and the second one is zeroed
  unfoldable pub enter_reducing : State → State
  enter_reducing s = at (kept (painted s s.hints s.least) (zeros (3 * (S * C))) 0) 3 0 0

  -- ---- what closes a round, and opens the next
  unfoldable pub close_seeding : State → State
  close_seeding s =
      let r = s.rec.rounds in
      cond (ltb (r + 1) (S - 1)) (open_seeding (r + 1) (worst_of K.job s.palette (r + 2)) (noticed (r + 2) 1 s)) (enter_growing (noticed (r + 2) 1 s))

  unfoldable pub close_growing : State → State
  close_growing s = cond (ltb (s.rec.rounds + 1) (C - 1)) (open_growing (s.rec.rounds + 1) s) (enter_replacing s)

  unfoldable pub close_replacing : State → State
  close_replacing s = cond (ltb (s.rec.rounds + 1) 10) (open_replacing (s.rec.rounds + 1) (judged s)) (enter_reducing (judged s))

  unfoldable pub finish_round : State → State
  finish_round s = beside s.rec.stage ((0, close_seeding s) ∷ (1, close_growing s) ∷ (2, close_replacing s) ∷ (4, at s 5 0 0) ∷ []) s

  -- ---- all that needs no draw. A run has S + C + 9 rounds, so the bound is never met
  unfoldable pub settle : State → State
  settle s = whilst due finish_round (S + C + 20) s

  -- ---- one draw. The cycle went on to d: its sample moves the palette
  unfoldable pub draw_with : Drawn → State → State
  draw_with d s =
      record {
        order = d.next.cards.order;
        hints = moved_hints K.job s.palette (subs_of S s.rec) (have_of C s.rec) (sample_tile K d.sample) s.hints;
        palette = moved K.job s.palette (subs_of S s.rec) (have_of C s.rec) (sample_tile K d.sample) (sample_place K d.sample) (alpha_of s.rec);
        least = s.least;
        rec = counted s.rec d.next.cards.state (s.rec.made + 1);
      }

  unfoldable pub draw : State → State
  draw s = draw_with (draw_one (cycle_of s.order s.rec)) s

  -- ---- the calls, on what they accept. A draw is followed by all that is then due, so a state between calls has nothing due
  unfoldable pub step : State → State
  step s = settle (draw s)

  abbrev pub advance : ℕ → State → State
  advance a s = whilst going step a s

  -- the draws that it makes
  abbrev pub draws_of : ℕ → State → ℕ
  draws_of a s = times going step a s

  -- both palettes nought but for the mean, the first order, stage 0, and the job's sizes for good
  unfoldable pub fresh : ℕ → List ℕ → State
  fresh seed hints =
      let c = after K.n seed 0 in
      let z = zeros (3 * (S * C)) in
      record { order = c.cards.order; hints = hints; palette = seeded K z; least = z; rec = begun c.cards.state (sizes_word K) }

  unfoldable pub start : ℕ → List ℕ → State
  start seed hints =
      let s = fresh seed hints in
      settle (cond (ltb 1 S) (open_seeding 0 0 s) (enter_growing s))

  unfoldable pub refined_once : State → State
  refined_once s = painted s (hints_of K.job s.palette S C s.hints T) (refined K.job s.palette)

  -- what goes on after a stop, with the reduced colours as the palette
  unfoldable pub hand_in : List Float → State → State
  hand_in reduced s =
      let x = painted s s.hints reduced in
      cond (eqb s.rec.stage 3) (settle (at x 4 0 (10 * b K)))
      (cond (eqb s.rec.stage 5) (at (refined_once (refined_once (refined_once (refined_once x)))) 6 0 0) (at x 7 0 0))
