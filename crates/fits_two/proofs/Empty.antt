-- `best_two` of an empty tile: subpalette 0 at distance 0, and next 1 at 0, or 0 at infinity where there is one subpalette; its hint becomes 0. Assumes nothing.
use Prim.Native.Nat.{ℕ, ◌≤◌}
use mathlib.Core.Path.{◌≡◌, ◌∙◌}
use mathlib.Core.Bool.{true, false}
use mathlib.Core.List.{List}
use native.Mathlib.Omega.{arith}
use lib.Ieee.{Float, inf, binary32, of_bits}
use lib.ListN.{length, set}
use borrow.Author.Tests.{eqb-true}
use Rattle.answer.specs.Outcome.{outcome}
use Rattle.answer.proofs.Outcomes.{decided-done}
use Rattle.stats.specs.declared.Two.{Two}
use Rattle.job.specs.Job.{Job, size_of, counts_of, is_empty}
use Rattle.job.proofs.Tiles.{counts-length}
use Rattle.palette_two.proofs.Empty.{empty_alone, empty_among}
use Rattle.palette_tile.specs.Tiles.{tile_at, present_in, two_at}
use Rattle.std.specs.Prelude.{Ok}
use Rattle.fits_check.specs.One.{one_answer}
use Rattle.fits_outcome.specs.Pairs.{pair_def}
use Rattle.fits_check.proofs.Passes.{one-tile, one_plain}

module _ (J : Job) (palette : List Float) (hints : List ℕ) (z : (one_answer J palette (length hints)).number ≡ 0) (e : is_empty J 0 ≡ true) where
  no_counts : length (counts_of J 0) ≡ 0
  no_counts = counts-length J (one_plain J palette (length hints) z).ready 0 (omega (arith, one-tile J palette (length hints) z)) ∙ eqb-true (size_of J.tiles 0) 0 e

  answered : (best : Two) → two_at J palette J.S J.C 0 ≡ best → pair_def J palette hints ≡ outcome (Ok best) (set hints 0 best.index)
  unfolding pair_def
  answered best f = rw (decided-done (one_answer J palette (length hints)) _ _ hints z, f)

  pub empty_one : J.S ≡ 1 → pair_def J palette hints ≡ outcome (Ok (record { index = 0; dist = of_bits binary32 0; next = 0; second = inf false })) (set hints 0 0)
  unfolding two_at
  empty_one s = answered (record { index = 0; dist = of_bits binary32 0; next = 0; second = inf false }) (empty_alone (present_in J palette J.S J.C) (tile_at J 0) J.weight no_counts s)

  pub empty_many : 2 ≤ J.S → pair_def J palette hints ≡ outcome (Ok (record { index = 0; dist = of_bits binary32 0; next = 1; second = of_bits binary32 0 })) (set hints 0 0)
  unfolding two_at
  empty_many s = answered (record { index = 0; dist = of_bits binary32 0; next = 1; second = of_bits binary32 0 }) (empty_among (present_in J palette J.S J.C) (tile_at J 0) J.weight no_counts s)
