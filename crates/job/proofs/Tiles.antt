-- A tile of a job that passed: its colours and counts are parts of what is lent, with their lengths and bounds. Assumes nothing.
use Prim.Native.Nat.{ℕ, ◌+◌, ◌*◌, ◌≤◌, ◌<◌}
use mathlib.Core.Path.{◌≡◌, sym, ap, subst⁻¹, ◌∙◌}
use mathlib.Core.List.{List}
use native.Mathlib.Omega.{arith}
use lib.Ieee.{nan}
use lib.ListN.{get_or, length, take, drop, length-take, length-drop}
use lib.Seq.{get_or-take, get_or-drop}
use Rattle.ieee.specs.Terms.{Within}
use Rattle.color.specs.Color.{Finite, Bounded}
use Rattle.color.proofs.Sizes.{bounded-finite}
use Rattle.job.specs.Job.{Job, first_of, size_of, tile_of, counts_of, Inside}
use Rattle.job.specs.Gives.{Ready}

-- ---- a part of a list: what holds of each element of the whole holds of each of the part
module _ {A : Type 0} (s : List A) (a m : ℕ) (h : a + m ≤ length s) where
  part_length : length (take m (drop a s)) ≡ m
  part_length = simp (length-take, length-drop) (omega arith)

  part-all : (d : A) (P : A → Type 0) → ((i : ℕ) → i < length s → P (get_or s i d)) → (j : ℕ) → j < length (take m (drop a s)) → P (get_or (take m (drop a s)) j d)
  part-all d P f j l =
      let k : j < m = omega (arith, part_length) in
      subst⁻¹ P (get_or-take m (drop a s) j d k ∙ get_or-drop a s j d) (f (a + j) (omega arith))

-- ---- tile t
module _ (J : Job) (R : Ready J) (t : ℕ) (l : t < J.T) where
  pub tile-listed : 2 * t + 1 < length J.tiles
  tile-listed = omega (arith, R.table)

  pub counts_room : first_of J.tiles t + size_of J.tiles t ≤ length J.counts
  counts_room = R.inside t l

  pub colours_room_lem : 3 * first_of J.tiles t + 3 * size_of J.tiles t ≤ length J.colours
  colours_room_lem = omega (arith, counts_room, R.three)

  pub colours-placed : Inside 3 J.tiles t (length J.colours)
  colours-placed = record { listed = tile-listed; inside = omega (arith, colours_room_lem) }

  pub counts-placed : Inside 1 J.tiles t (length J.counts)
  counts-placed = record { listed = tile-listed; inside = omega (arith, counts_room) }

  pub tile-length : length (tile_of J t) ≡ 3 * size_of J.tiles t
  tile-length = part_length J.colours (3 * first_of J.tiles t) (3 * size_of J.tiles t) colours_room_lem

  pub counts-length : length (counts_of J t) ≡ size_of J.tiles t
  counts-length = part_length J.counts (first_of J.tiles t) (size_of J.tiles t) counts_room

  pub tile-three : length (tile_of J t) ≡ 3 * length (counts_of J t)
  tile-three = tile-length ∙ sym (ap (λ (n : ℕ). 3 * n) counts-length)

  pub tile-bounded : Bounded (tile_of J t) 2
  tile-bounded = part-all J.colours (3 * first_of J.tiles t) (3 * size_of J.tiles t) colours_room_lem nan (λ x. Within x 2 1) R.bounded

  pub tile-finite : Finite (tile_of J t)
  tile-finite = bounded-finite (tile_of J t) 2 tile-bounded
