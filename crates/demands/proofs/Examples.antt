-- The examples marked P, as one table. Assumes nothing.
use Prim.Native.Nat.{ℕ, ◌+◌, ◌*◌, ◌/◌}
use mathlib.Core.Path.{◌≡◌, refl, ap, subst⁻¹, ◌∙◌}
use mathlib.Core.List.{List, [], ◌∷◌}
use native.Mathlib.Omega.{arith}
use lib.ListN.{length, get_or}
use lib.Dec.{lit<}
use lib.Ieee.{of_bits, neg, le, lt, eq}
use Rattle.lists.specs.Every.{every, sum}
use Rattle.lists.specs.Count.{count}
use Rattle.lists.specs.Firsts.{firsts, hits}
use Rattle.lists.proofs.Hits.{length-firsts}
use Rattle.prng.proofs.Shuffled.{shuffle_one}
use Rattle.cycle.specs.Cycle.{draw_at}
use Rattle.cycle.proofs.Examples.{tenths, twenty_of_ten, forty_four_of_twenty_five}
use Rattle.stats.proofs.Examples.{smallest-two_of_2_1_1, smallest-two_of_5}
use Rattle.stats_extremes.proofs.Examples.{argmax_of_1_3_3, argmin_of_2_1_1}
use Rattle.stats.specs.declared.Near.{Near}
use Rattle.job.specs.Job.{job}
use Rattle.answer.specs.Rules.{answer}
use Rattle.job.specs.Checks.{tile_sized, among, within, weight_fits, tile_test, tile_fits, tiles_fit, count_test, count_fits, part_fits, tile_counts_fit, counts_fit, first_not, component_fits, first_bad, sample_test, sample_fits, samples_fit, plain_answer}
use Rattle.palette.proofs.Example.{middle_first}
use Rattle.color.proofs.Example.{half_way}
use Rattle.palette_tile.specs.Tiles.{fit_at}
use Rattle.assign_tiles.specs.Tiles.{TileMemory, tile_memory}
use Rattle.assign.specs.Assign.{room_for, assign_answer, assign_def}
use Rattle.quantizer.specs.Course.{Course}
use Rattle.run_stages.specs.Calls.{Memory, colours_room, memory_room, start_answer}
use Rattle.run_stages.specs.History.{Run}
use Rattle.run_calls.proofs.Follow.{run-samples, run_end}
use Rattle.demands.proofs.Second.{second_demand}
use Rattle.demands.specs.Examples.{EachTwice, Examples, MostTwice, Past, blank, half, one_colour, sheet_job, sheet_palette}
use Rattle.demands.specs.Ends.{Finished}
use Rattle.demands.proofs.Finish.{run_ends}

-- ---- the runs
-- the draws of a run past its last, by the cycle
all-draws : (K : Course) (seed s c n : ℕ) {m : Memory} {ds : List ℕ} → Run K seed m ds → Past s c n K m → ds ≡ firsts (draw_at n seed) ((s + c + 18) * (n / 10))
all-draws K seed s c n r P =
    run-samples K seed r
    ∙ ap (firsts (draw_at K.n seed)) (run_end K seed r P.stage)
    ∙ ap (λ (k : ℕ). firsts (draw_at K.n seed) ((k + K.job.C + 18) * (K.n / 10))) P.subs
    ∙ ap (λ (k : ℕ). firsts (draw_at K.n seed) ((s + k + 18) * (K.n / 10))) P.colours
    ∙ ap (λ (k : ℕ). firsts (draw_at k seed) ((s + c + 18) * (k / 10))) P.samples

module _ (K : Course) (seed : ℕ) {m : Memory} {ds : List ℕ} (r : Run K seed m ds) where
  run_of_20 : Past 1 1 10 K m → EachTwice ds
  run_of_20 P =
      let e = all-draws K seed 1 1 10 r P in
      (ap length e ∙ length-firsts (draw_at 10 seed) 20, λ i h. ap (count i) e ∙ twenty_of_ten seed i h)

  run_of_44 : Past 2 2 25 K m → MostTwice ds
  run_of_44 P =
      let e = all-draws K seed 2 2 25 r P in
      let x = forty_four_of_twenty_five seed in (
        ap length e ∙ length-firsts (draw_at 25 seed) 44,
        subst⁻¹ (λ (xs : List ℕ). hits (λ i. count i xs) 2 25 ≡ 19) e x.0,
        subst⁻¹ (λ (xs : List ℕ). hits (λ i. count i xs) 1 25 ≡ 6) e x.1,
      )

-- one of each, from any seed
module _ (seed : ℕ) where
  accepted-starts : ((start_answer (one_colour 1 1 10) (blank 1 1 10)).number ≡ 0) × ((start_answer (one_colour 2 2 25) (blank 2 2 25)).number ≡ 0)
  unfolding start_answer memory_room colours_room answer tile_sized among weight_fits tiles_fit tile_fits tile_test counts_fit tile_counts_fit part_fits count_fits count_test
      first_bad first_not component_fits within samples_fit sample_fits sample_test every sum of_bits neg le lt eq
  accepted-starts = (refl, refl)

  past : (s c n : ℕ) (x : Finished (one_colour s c n) seed) → Past s c n (one_colour s c n) x.last
  past s c n x = record { subs = refl; colours = refl; samples = refl; stage = omega (arith, x.stage) }

  there-is_20 : (x : Finished (one_colour 1 1 10) seed) × EachTwice x.samples
  there-is_20 = let x = (run_ends (one_colour 1 1 10)).finished (blank 1 1 10) seed accepted-starts.0 in (x, run_of_20 (one_colour 1 1 10) seed x.run (past 1 1 10 x))

  there-is_44 : (x : Finished (one_colour 2 2 25) seed) × MostTwice x.samples
  there-is_44 = let x = (run_ends (one_colour 2 2 25)).finished (blank 2 2 25) seed accepted-starts.1 in (x, run_of_44 (one_colour 2 2 25) seed x.run (past 2 2 25 x))

-- ---- the sheet
middle : fit_at sheet_job sheet_palette 2 1 2 ≡ record { index = 0; dist = half }
unfolding fit_at
middle = middle_first

module _ (a c hint d w x y z : ℕ) where
  abbrev lent : TileMemory
  lent = tile_memory (a ∷ c ∷ hint ∷ d ∷ []) (w ∷ x ∷ y ∷ z ∷ [])

  accepted : (assign_answer sheet_job sheet_palette lent).number ≡ 0
  unfolding assign_answer plain_answer answer room_for tile_sized among weight_fits tiles_fit tile_fits tile_test counts_fit tile_counts_fit part_fits count_fits count_test
      first_bad first_not component_fits within every sum of_bits neg le lt eq
  accepted = refl

  from_any : get_or (assign_def sheet_job sheet_palette lent).after.out 2 0 ≡ 0
  from_any = ((second_demand.assign sheet_job sheet_palette).chooses lent accepted 2 (lit< tt) refl).1 ∙ ap (λ (b : Near). b.index) middle

pub examples : Examples
examples =
    record {
      tenth_of_9 = tenths.0;
      tenth_of_10 = tenths.1;
      tenth_of_19 = tenths.2;
      tenth_of_20 = tenths.3;
      draws_20 = run_of_20;
      draws_44 = run_of_44;
      a_run_of_20 = there-is_20;
      a_run_of_44 = there-is_44;
      argmax_takes_last = argmax_of_1_3_3;
      argmin_takes_first = argmin_of_2_1_1;
      two_of_2_1_1 = smallest-two_of_2_1_1;
      two_of_5 = smallest-two_of_5;
      tile_2 = middle;
      tile_2_from = from_any;
      nudge = half_way;
      shuffle_of_one = shuffle_one;
    }
