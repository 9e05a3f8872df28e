-- Results are proved against a definition: a tile that is not empty gets the subpalette of least rounded summed distance, the lowest index on a tie,
-- whatever hint it starts from. In a run so does the tile of every sample drawn, and the sample moves one colour of that subpalette. Assumes nothing.
use Rattle.std.specs.Prelude.{ℕ, ◌+◌, ◌-◌, ◌≤◌, ◌<◌, ◌≡◌, true, false, ◌≢◌, List, [], ◌∷◌, length, get_or, set, Float, Ok}
use Rattle.std.specs.Float.{inf}
use Rattle.answer.specs.Refusals.{Answered, refusal}
use Rattle.answer.specs.Outcome.{Outcome, outcome}
use Rattle.cycle.specs.Cycle.{draw_one}
use Rattle.color.specs.declared.Oklab.{Oklab}
use Rattle.color.specs.Color.{sqdist_of, colour_at}
use Rattle.color.specs.Blend.{nudged}
use Rattle.stats.specs.declared.Near.{Near}
use Rattle.job.specs.Job.{Job, nought, is_empty}
use Rattle.stats.specs.Least.{Least, RunnerUp}
use Rattle.palette.specs.Palette.{dist_at}
use Rattle.palette_edit.specs.Edits.{place_of}
use Rattle.palette_tile.specs.Tiles.{tile_at, present_in, fit_at, winner, two_at}
use Rattle.fits_check.specs.One.{one_answer, single_answer}
use Rattle.fits_outcome.specs.Fits.{single_def}
use Rattle.fits_outcome.specs.Pairs.{pair_def}
use Rattle.assign_tiles.specs.Tiles.{TileMemory, tile_memory}
use Rattle.assign.specs.Assign.{assign_answer, assign_def}
use Rattle.quantizer.specs.Course.{Course, sample_tile, sample_colour}
use Rattle.run_stages.specs.Calls.{Advanced}
use Rattle.run_stages.specs.State.{State}
use Rattle.run_stages.specs.Stages.{settle, cycle_of, subs_of, have_of, alpha_of, draw}
use Rattle.run_stages.specs.Calls.{Memory, state_of, advanced, advance_answer, start_call, advance_call, hand_in_call, result_call}
use Rattle.run_stages.specs.History.{sample_at, sampled}
use Rattle.run_calls.specs.Accepted.{Accepted}

-- the distance of tile t to each of the n subpalettes of `have` colours that are present: nearest distance times count, summed colour by colour
abbrev pub distances : Job → List Float → ℕ → ℕ → ℕ → ℕ → Float
distances J palette n have t = dist_at (present_in J palette n have) (tile_at J t) J.weight

-- ---- the choice for a tile, in every call and at every moment of a run
pub record Chosen (J : Job) (palette : List Float) (n have t : ℕ) : Type 0 where
  -- no subpalette is less far, and every one before it is farther
  pub least : Least (distances J palette n have t) n (fit_at J palette n have t)
  -- the first of the best two is that one
  pub first : (two_at J palette n have t).index ≡ (fit_at J palette n have t).index
  pub first_dist : (two_at J palette n have t).dist ≡ (fit_at J palette n have t).dist
  -- the next is, among the others, the lowest of least distance, and the second is that distance
  pub next : 2 ≤ n → RunnerUp (distances J palette n have t) n (two_at J palette n have t)
  -- where there is no other it is the first itself, and the second is infinity
  pub next_alone : n ≡ 1 → ((two_at J palette n have t).next ≡ (two_at J palette n have t).index) × ((two_at J palette n have t).second ≡ inf false)
  -- where all distances are infinite the first is 0, and the next is 1 if there is such a subpalette
  pub all_infinite : ((j : ℕ) → j < n → distances J palette n have t j ≡ inf false)
      → ((two_at J palette n have t).index ≡ 0) × (2 ≤ n → (two_at J palette n have t).next ≡ 1)

-- ---- the single fit, best_two and assign, where S subpalettes of C colours are present
module _ (J : Job) (palette : List Float) where
  pub record SingleFit : Type 0 where
    -- a tile that passed is answered with its choice, which becomes its hint
    pub chooses : (hints : List ℕ) → (single_answer J palette (length hints)).number ≡ 0
        → Chosen J palette J.S J.C 0
        × (single_def J palette hints ≡ outcome (Ok (fit_at J palette J.S J.C 0)) (set hints 0 (winner J palette J.S J.C 0)))
    -- any two hints give one answer
    pub any_hint : (h k : List ℕ) → length h ≡ length k → (single_def J palette h).answer ≡ (single_def J palette k).answer
    -- an empty tile, where all else passed, is refused
    pub empty : (hints : List ℕ) → (one_answer J palette (length hints)).number ≡ 0 → is_empty J 0 ≡ true → single_answer J palette (length hints) ≡ refusal 15 0

  pub record BestTwo : Type 0 where
    pub chooses : (hints : List ℕ) → (one_answer J palette (length hints)).number ≡ 0
        → Chosen J palette J.S J.C 0
        × (pair_def J palette hints ≡ outcome (Ok (two_at J palette J.S J.C 0)) (set hints 0 (winner J palette J.S J.C 0)))
    pub any_hint : (h k : List ℕ) → length h ≡ length k → (pair_def J palette h).answer ≡ (pair_def J palette k).answer
    -- an empty tile: 0 at 0 and 1 at 0, or 0 at infinity where there is one subpalette
    pub empty_one : (hints : List ℕ) → (one_answer J palette (length hints)).number ≡ 0 → is_empty J 0 ≡ true → J.S ≡ 1
        → pair_def J palette hints ≡ outcome (Ok (record { index = 0; dist = nought; next = 0; second = inf false })) (set hints 0 0)
    pub empty_many : (hints : List ℕ) → (one_answer J palette (length hints)).number ≡ 0 → is_empty J 0 ≡ true → 2 ≤ J.S
        → pair_def J palette hints ≡ outcome (Ok (record { index = 0; dist = nought; next = 1; second = nought })) (set hints 0 0)

  pub record Assign : Type 0 where
    -- each tile that is not empty gets its choice, whatever its hint was, and it becomes the hint
    pub chooses : (h : TileMemory) → (assign_answer J palette h).number ≡ 0 → (t : ℕ) → t < J.T → is_empty J t ≡ false
        → Chosen J palette J.S J.C t
        × (get_or (assign_def J palette h).after.out t 0 ≡ winner J palette J.S J.C t)
        × (get_or (assign_def J palette h).after.hints t 0 ≡ winner J palette J.S J.C t)
    -- any two lists of hints give one number, and each tile one subpalette
    pub any_hints : (out h k : List ℕ) → length h ≡ length k
        → ((assign_def J palette (tile_memory h out)).answer ≡ (assign_def J palette (tile_memory k out)).answer)
        × ((assign_def J palette (tile_memory h out)).after.out ≡ (assign_def J palette (tile_memory k out)).after.out)
    -- an empty one gets 0, and keeps its hint
    pub empty : (h : TileMemory) → (assign_answer J palette h).number ≡ 0 → (t : ℕ) → t < J.T → is_empty J t ≡ true
        → (get_or (assign_def J palette h).after.out t 0 ≡ 0) × (get_or (assign_def J palette h).after.hints t 0 ≡ get_or h.hints t 0)

-- ---- one draw of a run
-- the squared distance of colour q to each colour of subpalette i
abbrev pub gaps : Job → List Float → ℕ → Oklab → ℕ → Float
gaps J palette i q j = sqdist_of (colour_at palette (place_of J.C i j)) q J.weight

-- sample i turns s into z
pub record Moves (K : Course) (i : ℕ) (s z : State) : Type 0 where
  -- a subpalette and a colour of it, each with its distance
  pub sub : Near
  pub colour : Near
  -- the subpalette of least distance to the sample's tile, the lowest index on a tie, of those that are present
  pub fits : Least (distances K.job s.palette (subs_of K.job.S s.rec) (have_of K.job.C s.rec) (sample_tile K i)) (subs_of K.job.S s.rec) sub
  -- of its colours that are present the one nearest to the sample's, the lowest index on a tie
  pub nearest : Least (gaps K.job s.palette sub.index (sample_colour K i)) (have_of K.job.C s.rec) colour
  -- that one moves towards the sample's colour: alpha is 0.5 in stage 4, and 0.3 elsewhere
  pub moves : colour_at z.palette (place_of K.job.C sub.index colour.index)
      ≡ nudged (alpha_of s.rec) (colour_at s.palette (place_of K.job.C sub.index colour.index)) (sample_colour K i)
  -- and no other place of either palette changes
  pub stays : (p : ℕ) → p ≢ place_of K.job.C sub.index colour.index → colour_at z.palette p ≡ colour_at s.palette p
  pub size : length z.palette ≡ length s.palette
  pub second : z.least ≡ s.least
  -- the tile's hint becomes the subpalette, and no other hint changes
  pub hint : get_or z.hints (sample_tile K i) 0 ≡ sub.index
  pub hints_stay : (t : ℕ) → t ≢ sample_tile K i → get_or z.hints t 0 ≡ get_or s.hints t 0
  pub hints : length z.hints ≡ length s.hints
  -- one draw more is made and one less is left in the round; order and generator go on in the cycle, and the record's other words stay
  pub made : z.rec.made ≡ s.rec.made + 1
  pub one_less : z.rec.left ≡ s.rec.left - 1
  pub order : z.order ≡ (draw_one (cycle_of s.order s.rec)).next.cards.order
  pub generator : z.rec.generator ≡ (draw_one (cycle_of s.order s.rec)).next.cards.state
  pub stage : z.rec.stage ≡ s.rec.stage
  pub rounds : z.rec.rounds ≡ s.rec.rounds
  pub error : z.rec.error ≡ s.rec.error
  pub sizes : z.rec.sizes ≡ s.rec.sizes

-- from s to z by draws of these samples, each followed by what is then due
pub data Draws (K : Course) : State → List ℕ → State → Type 0 where
  none : {s : State} → Draws K s [] s
  drawn : {s z : State} {is : List ℕ} → Moves K (sample_at s) s (draw K s) → Draws K (settle K (draw K s)) is z → Draws K s (sample_at s ∷ is) z

-- ---- whatever the hints, for a whole run
-- memories that differ in their hints alone, of which they have as many
pub record HintsApart (m x : Memory) : Type 0 where
  pub order : m.order ≡ x.order
  pub palette : m.palette ≡ x.palette
  pub least : m.least ≡ x.least
  pub words : m.words ≡ x.words
  pub many : length m.hints ≡ length x.hints

-- what one call came to on each of two memories
pub record SameButHints (x y : Outcome Advanced Memory) : Type 0 where
  pub answer : x.answer ≡ y.answer
  pub after : HintsApart x.after y.after

-- a call: a start from a seed, an advance by an allotment, a hand_in of colours
pub data Request : Type 0 where
  start : ℕ → Request
  advance : ℕ → Request
  hand_in : List Float → Request

-- a start and a hand_in make no draw
abbrev pub drawless : Outcome Answered Memory → Outcome Advanced Memory
drawless x = outcome (advanced x.answer 0) x.after

module _ (K : Course) where
  unfoldable pub called : Memory → Request → Outcome Advanced Memory
  called m (start seed) = drawless (start_call K m seed)
  called m (advance a) = advance_call K m a
  called m (hand_in reduced) = drawless (hand_in_call K m reduced)

  -- the memory that calls in a row leave, whatever each of them answered
  unfoldable pub left : List Request → Memory → Memory
  left [] m = m
  left (c ∷ cs) m = left cs (called m c).after

  -- after any calls, refused ones too, the next one comes to the same on both: number, index, draws reported, both palettes, order and record;
  -- so do the samples that it draws and the result
  pub record WhateverHints (m x : Memory) : Type 0 where
    pub calls : (cs : List Request) (c : Request) → SameButHints (called (left cs m) c) (called (left cs x) c)
    pub samples : (cs : List Request) (a : ℕ) → sampled K a (state_of (left cs m)) ≡ sampled K a (state_of (left cs x))
    pub results : (cs : List Request) (out : List Float) → result_call K (left cs m) out ≡ result_call K (left cs x) out

-- ---- the demand
pub record Second : Type 0 where
  pub single_fit : (J : Job) (palette : List Float) → SingleFit J palette
  pub best_two : (J : Job) (palette : List Float) → BestTwo J palette
  pub assign : (J : Job) (palette : List Float) → Assign J palette
  -- at every draw of an accepted memory, whatever hints it holds, each tile's choice is among the colours then present
  pub tiles : (K : Course) (m : Memory) → Accepted K m → (t : ℕ) → t < K.job.T → Chosen K.job (state_of m).palette (subs_of K.job.S (state_of m).rec) (have_of K.job.C (state_of m).rec) t
  -- the draw itself
  pub draw : (K : Course) (m : Memory) → Accepted K m → Moves K (sample_at (state_of m)) (state_of m) (draw K (state_of m))
  -- an accepted advance is such draws, as many as it reports
  pub advance : (K : Course) (m : Memory) (a : ℕ) → (advance_answer K m).number ≡ 0 → Draws K (state_of m) (sampled K a (state_of m)) (state_of (advance_call K m a).after)
  pub advance_many : (K : Course) (m : Memory) (a : ℕ) → (advance_answer K m).number ≡ 0 → length (sampled K a (state_of m)) ≡ (advance_call K m a).answer.draws
  -- by one draw inside a round: of the memory before and after
  pub one_draw : (K : Course) (m : Memory) → (advance_answer K m).number ≡ 0 → 2 ≤ get_or m.words 3 0 → Moves K (sample_at (state_of m)) (state_of m) (state_of (advance_call K m 1).after)
  pub whatever_hints : (K : Course) (m x : Memory) → HintsApart m x → WhateverHints K m x
