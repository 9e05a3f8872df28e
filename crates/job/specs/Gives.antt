-- What a job that is answered 0 gives: lengths, limits, each tile among the colours lent, each number within its bound. Definitions only. Assumes nothing.
use Rattle.std.specs.Prelude.{ℕ, ◌+◌, ◌*◌, ◌≤◌, ◌<◌, ◌≡◌, Bool, true, List, T, length, get_or, Float}
use Rattle.std.specs.Float.Ieee.Positive.{positive}
use Rattle.lists.specs.Every.{sum}
use Rattle.ieee.specs.Terms.{Within}
use Rattle.color.specs.Color.{Bounded}
use Rattle.job.specs.Job.{Job, first_of, size_of, counts_of, most_tile_size, most_subpalettes, most_colours, most_tiles, most_tile_colours, most_samples}

pub record InRange (size s c t : ℕ) : Type 0 where
  pub small : size ≤ most_tile_size
  pub subs : 1 ≤ s
  pub few : s ≤ most_subpalettes
  pub some : 1 ≤ c
  pub cap : c ≤ most_colours
  pub tiled : 1 ≤ t
  pub tiles : t ≤ most_tiles
  pub cells : s * c ≤ most_subpalettes * most_colours

pub record Ready (J : Job) : Type 0 where
  pub sizes : InRange J.size J.S J.C J.T
  pub table : length J.tiles ≡ 2 * J.T
  pub three : length J.colours ≡ 3 * length J.counts
  pub total : length J.counts ≤ most_tile_colours
  pub weight : T (positive J.weight)
  pub heavy : Within J.weight 16 1
  pub bounded : Bounded J.colours 2
  pub starts : (t : ℕ) → t < J.T → first_of J.tiles t ≡ sum (size_of J.tiles) t
  pub whole : sum (size_of J.tiles) J.T ≡ length J.counts
  pub short : (t : ℕ) → t < J.T → size_of J.tiles t ≤ J.size
  pub inside : (t : ℕ) → t < J.T → first_of J.tiles t + size_of J.tiles t ≤ length J.counts
  pub low : (t k : ℕ) → t < J.T → k < length (counts_of J t) → 1 ≤ get_or (counts_of J t) k 0
  pub high : (t k : ℕ) → t < J.T → k < length (counts_of J t) → get_or (counts_of J t) k 0 ≤ J.size
  pub full : (t : ℕ) → t < J.T → sum (λ k. get_or (counts_of J t) k 0) (length (counts_of J t)) ≤ J.size

-- a palette of S·C colours lent beside a job
pub record Lent (s c : ℕ) (palette : List Float) : Type 0 where
  pub room : length palette ≡ 3 * (s * c)
  pub bounded : Bounded palette 2

-- a call without samples that is not refused
pub record Plain (J : Job) (palette : List Float) (room : Bool) : Type 0 where
  pub ready : Ready J
  pub lent : Lent J.S J.C palette
  pub roomy : room ≡ true

-- a call with samples that is not refused
pub record Sampled (J : Job) (n : ℕ) (samples : List ℕ) (room : Bool) : Type 0 where
  pub ready : Ready J
  pub some : 1 ≤ n
  pub few : n ≤ most_samples
  pub pairs : length samples ≡ 2 * n
  pub roomy : room ≡ true
  pub tile : (i : ℕ) → i < n → get_or samples (2 * i) 0 < J.T
  pub place : (i : ℕ) → i < n → get_or samples (2 * i + 1) 0 < size_of J.tiles (get_or samples (2 * i) 0)
