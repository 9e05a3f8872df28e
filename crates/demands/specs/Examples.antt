-- The examples marked P, as one table. Assumes nothing.
use Rattle.std.specs.Prelude.{ℕ, ◌*◌, ◌≤◌, ◌<◌, ◌≡◌, false, List, [], ◌∷◌, length, get_or, replicate, Float}
use Rattle.std.specs.Float.{inf, binary32}
use Rattle.std.specs.Float.Ieee.{of_bits}
use Rattle.lists.specs.Count.{count}
use Rattle.lists.specs.Firsts.{hits}
use Rattle.prng.specs.Shuffle.{deck, shuffle_of}
use Rattle.cycle.specs.Tenth.{tenth}
use Rattle.stats.specs.Stats.{value_at, least_two}
use Rattle.stats_extremes.specs.Extremes.{argmax_of, argmin_of}
use Rattle.job.specs.Job.{Job, job, small_tile}
use Rattle.color.specs.Blend.{blend}
use Rattle.palette_tile.specs.Tiles.{fit_at}
use Rattle.assign_tiles.specs.Tiles.{tile_memory}
use Rattle.assign.specs.Assign.{assign_def}
use Rattle.quantizer.specs.Course.{Course, course}
use Rattle.run_stages.specs.Calls.{Memory, memory, record_words}
use Rattle.run_stages.specs.History.{Run}
use Rattle.demands.specs.Ends.{Finished}

-- ---- numbers as f32
abbrev pub nought : Float
nought = of_bits binary32 0

abbrev pub quarter : Float
quarter = of_bits binary32 0x3e800000

abbrev pub half : Float
half = of_bits binary32 0x3f000000

abbrev pub one : Float
one = of_bits binary32 0x3f800000

abbrev pub two : Float
two = of_bits binary32 0x40000000

abbrev pub three : Float
three = of_bits binary32 0x40400000

abbrev pub five : Float
five = of_bits binary32 0x40a00000

-- ---- the sheet of docs/SCOPE.md: (0.25, 0, 0) four times; an empty tile; (0.5, 0, 0) twice; (1, 0, 0) once
abbrev pub sheet_job : Job
sheet_job = job small_tile 2 1 4 one (0 ∷ 1 ∷ 1 ∷ 0 ∷ 1 ∷ 1 ∷ 2 ∷ 1 ∷ []) (quarter ∷ nought ∷ nought ∷ half ∷ nought ∷ nought ∷ one ∷ nought ∷ nought ∷ []) (4 ∷ 2 ∷ 1 ∷ [])

-- subpalettes (0, 0, 0) and (1, 0, 0)
abbrev pub sheet_palette : List Float
sheet_palette = nought ∷ nought ∷ nought ∷ one ∷ nought ∷ nought ∷ []

-- a run of n samples past its last draw, from any seed and in any division into calls
pub record Past (s c n : ℕ) (K : Course) (m : Memory) : Type 0 where
  pub subs : K.job.S ≡ s
  pub colours : K.job.C ≡ c
  pub samples : K.n ≡ n
  pub stage : 5 ≤ get_or m.words 1 0

-- n samples of a job that has one tile of one colour, and memory to start a run in
abbrev pub one_colour : ℕ → ℕ → ℕ → Course
one_colour s c n = course (job small_tile s c 1 one (0 ∷ 1 ∷ []) (half ∷ nought ∷ nought ∷ []) (1 ∷ [])) n (replicate (2 * n) 0)

abbrev pub blank : ℕ → ℕ → ℕ → Memory
blank s c n = memory (replicate n 0) (0 ∷ []) (replicate (3 * (s * c)) nought) (replicate (3 * (s * c)) nought) (replicate record_words 0)

-- 20 draws of 10 samples, each twice
abbrev pub EachTwice : List ℕ → Type 0
EachTwice ds = (length ds ≡ 20) × ((i : ℕ) → i < 10 → count i ds ≡ 2)

-- 44 draws of 25 samples, 19 of them twice and 6 once
abbrev pub MostTwice : List ℕ → Type 0
MostTwice ds = (length ds ≡ 44) × (hits (λ i. count i ds) 2 25 ≡ 19) × (hits (λ i. count i ds) 1 25 ≡ 6)

-- ---- the table
pub record Examples : Type 0 where
  pub tenth_of_9 : tenth 9 ≡ 0
  pub tenth_of_10 : tenth 10 ≡ 1
  pub tenth_of_19 : tenth 19 ≡ 1
  pub tenth_of_20 : tenth 20 ≡ 2
  pub draws_20 : (K : Course) (seed : ℕ) {m : Memory} {ds : List ℕ} → Run K seed m ds → Past 1 1 10 K m → EachTwice ds
  pub draws_44 : (K : Course) (seed : ℕ) {m : Memory} {ds : List ℕ} → Run K seed m ds → Past 2 2 25 K m → MostTwice ds
  -- there are such runs, from every seed to the finish
  pub a_run_of_20 : (seed : ℕ) → (x : Finished (one_colour 1 1 10) seed) × EachTwice x.samples
  pub a_run_of_44 : (seed : ℕ) → (x : Finished (one_colour 2 2 25) seed) × MostTwice x.samples
  pub argmax_takes_last : argmax_of (value_at (one ∷ three ∷ three ∷ [])) 3 ≡ 2
  pub argmin_takes_first : argmin_of (value_at (two ∷ one ∷ one ∷ [])) 3 ≡ 1
  pub two_of_2_1_1 : least_two (value_at (two ∷ one ∷ one ∷ [])) 3 ≡ record { index = 1; dist = one; next = 2; second = one }
  pub two_of_5 : least_two (value_at (five ∷ [])) 1 ≡ record { index = 0; dist = five; next = 0; second = inf false }
  pub tile_2 : fit_at sheet_job sheet_palette 2 1 2 ≡ record { index = 0; dist = half }
  -- so from hints 0, 1 and 99, and from any other
  pub tile_2_from : (a c hint d : ℕ) (w x y z : ℕ) → get_or (assign_def sheet_job sheet_palette (tile_memory (a ∷ c ∷ hint ∷ d ∷ []) (w ∷ x ∷ y ∷ z ∷ []))).after.out 2 0 ≡ 0
  pub nudge : blend half nought one ≡ half
  pub shuffle_of_one : (s x : ℕ) → shuffle_of s (x ∷ []) ≡ deck (x ∷ []) s
