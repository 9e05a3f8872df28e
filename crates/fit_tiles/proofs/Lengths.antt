-- How long the lines of a job are, at most. Assumes nothing.
use Prim.Native.Nat.{ℕ, zero, suc, ◌*◌, ◌≤◌}
use native.Mathlib.Omega.{arith}
use mathlib.Core.List.{List, ◌++◌}
use lib.ListN.{length, length-append}
use lib.Ieee.{Float}
use Rattle.job.specs.Job.{Job}
use Rattle.fit_lines.specs.Lines.{head_line, tile_line, load_line, blank_line}
use Rattle.fit_lines.proofs.Lengths.{head_most, tile-most, load_most, blank-most}
use Rattle.fit_tiles.specs.Text.{found_of, tile_lines, load_of, load_lines, blanks_of, fit_text, most_text}

pub tile_lines-most : (J : Job) (p : List Float) (n : ℕ) → length (tile_lines J p n) ≤ 43 * n
unfolding tile_lines
tile_lines-most J p zero = omega arith
tile_lines-most J p (suc n) =
    omega (arith, length-append (tile_lines J p n) (tile_line n (found_of J p n)), tile-most n (found_of J p n), tile_lines-most J p n)

pub loads-most : (f : ℕ → ℕ) (n : ℕ) → length (load_lines f n) ≤ 15 * n
unfolding load_lines
loads-most f zero = omega arith
loads-most f (suc n) = omega (arith, length-append (load_lines f n) (load_line n (f n)), load_most n (f n), loads-most f n)

-- what any job's lines take, at most
pub fit-most : (J : Job) (p : List Float) → J.T ≤ 1024 → J.S ≤ 16 → length (fit_text J p) ≤ most_text
unfolding fit_text
fit-most J p t s =
    let f : ℕ → ℕ = λ k. load_of J p k J.T in
    let blank : ℕ = blanks_of J.tiles J.T in
    omega (
      arith,
      length-append (head_line J.T J.S ++ tile_lines J p J.T ++ load_lines f J.S) (blank_line blank),
      length-append (head_line J.T J.S ++ tile_lines J p J.T) (load_lines f J.S),
      length-append (head_line J.T J.S) (tile_lines J p J.T),
      head_most J.T J.S,
      tile_lines-most J p J.T,
      loads-most f J.S,
      blank-most blank,
    )
