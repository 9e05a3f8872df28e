-- An answer of 0 gives the records of Gives.antt, which this passes on with the laws. Assumes nothing.
use Prim.Native.Nat.{ℕ, zero, suc, ◌+◌, ◌*◌, ◌≤◌, ◌<◌}
use mathlib.Core.Path.{◌≡◌, refl, sym, ap, ◌∙◌}
use mathlib.Core.Bool.{Bool, true, false, ◌&&◌, ◌||◌, true≢false}
use mathlib.Core.Logic.{◌⊎◌, inl, inr}
use mathlib.Core.List.{List}
use native.Mathlib.Omega.{arith}
use native.Mathlib.Nat.{mul-le-mul}
use lib.Dec.{T, eqb, ltb, leb, lit≤, lt→ltb}
use lib.ListN.{length, get_or}
use lib.Ieee.{Float, nan, inf, fin, lt, eq, le, neg, up, down, of_bits}
use lib.Ieee.Positive.{positive}
use borrow.Author.Tests.{eqb-true, leb-true, ltb-true}
use Rattle.lists.specs.Every.{every, sum}
use Rattle.lists.proofs.Loops.{every-at}
use Rattle.lists.proofs.Tests.{and_l, and_r}
use Rattle.ieee.proofs.Order.{of_true, or_l}
use Rattle.ieee.proofs.Bounds.{between}
use Rattle.ieee.specs.Terms.{Within}
use Rattle.ieee.proofs.Within.{neg-within}
use Rattle.color.specs.Color.{Bounded}
use Rattle.job.proofs.First.{none_first}
use Rattle.answer.specs.Refusals.{Answered}
use Rattle.answer.specs.Rules.{Passed, answer, numbered}
use Rattle.answer.proofs.Passing.{all_pass}
use Rattle.job.specs.Job.{Job, small_tile, large_tile, most_tile_size, first_of, size_of, counts_part, counts_of, most_subpalettes, most_colours, most_tiles, most_tile_colours, most_samples, nought, two, sixteen}
use Rattle.job.specs.Checks.{first_not, tile_sized, among, within, weight_fits, tile_test, tile_fits, tiles_fit, count_test, count_fits, part_fits, tile_counts_fit, counts_fit}
use Rattle.job.specs.Checks.{component_fits, first_bad, components_fit, sample_test, sample_fits, samples_fit, size_rules, shape_rules, tables, plain_rules, sampled_rules, plain_answer, sampled_answer}
use Rattle.job.specs.Gives.{InRange, Ready, Plain, Sampled}

-- ---- numbers
-- the sizes that there are, one by one, and their bound
pub tile-sizes : (size : ℕ) → tile_sized size ≡ true → (size ≡ small_tile) ⊎ (size ≡ large_tile)
unfolding tile_sized
tile-sizes size h = by (eqb size small_tile) refl
  where
    by : (b : Bool) → eqb size small_tile ≡ b → (size ≡ small_tile) ⊎ (size ≡ large_tile)
    by true e = inl (eqb-true size small_tile e)
    by false e = inr (eqb-true size large_tile (sym (ap (λ (b : Bool). b || eqb size large_tile) e) ∙ h))

pub tile-bound : (size : ℕ) → tile_sized size ≡ true → size ≤ most_tile_size
tile-bound size h = by (tile-sizes size h)
  where
    by : (size ≡ small_tile) ⊎ (size ≡ large_tile) → size ≤ most_tile_size
    by (inl e) = omega arith
    by (inr e) = omega arith

sizes-ready : (size s c t : ℕ) → Passed (size_rules size s c t) → InRange size s c t
unfolding among
sizes-ready size s c t (y, p) =
    let few : s ≤ most_subpalettes = leb-true s most_subpalettes (and_r (leb 1 s) (leb s most_subpalettes) p.0) in
    let cap : c ≤ most_colours = leb-true c most_colours (and_r (leb 1 c) (leb c most_colours) p.1.0) in
    record {
      small = tile-bound size y;
      subs = leb-true 1 s (and_l (leb 1 s) (leb s most_subpalettes) p.0);
      few = few;
      some = leb-true 1 c (and_l (leb 1 c) (leb c most_colours) p.1.0);
      cap = cap;
      tiled = leb-true 1 t (and_l (leb 1 t) (leb t most_tiles) p.1.1.0);
      tiles = leb-true t most_tiles (and_r (leb 1 t) (leb t most_tiles) p.1.1.0);
      cells = mul-le-mul few cap;
    }

pub sizes_of_lem : (size s c t : ℕ) (a : Answered) → a ≡ answer (size_rules size s c t) → a.number ≡ 0 → InRange size s c t
unfolding numbered
sizes_of_lem size s c t a e z = sizes-ready size s c t (all_pass (size_rules size s c t) refl (sym (ap (λ (x : Answered). x.number) e) ∙ z))

no_less : (a b : ℕ) → 0 * a < 0 * b * 1 → ⊥
no_less a b h = omega arith

weight-positive : (w : Float) → lt nought w ≡ true → le w sixteen ≡ true → T (positive w)
unfolding lt le eq of_bits
weight-positive nan h g = absurd (true≢false (sym h))
weight-positive (inf true) h g = absurd (true≢false (sym h))
weight-positive (inf false) h g = absurd (true≢false (sym g))
weight-positive (fin true m e) h g = absurd (true≢false (sym h))
weight-positive (fin false zero e) h g = absurd (no_less (down e) (up e) (ltb-true (0 * down e) (0 * up e * 1) h))
weight-positive (fin false (suc m) e) h g = lt→ltb 0 (suc m) (omega arith)

nought-within : Within nought 16 1
unfolding of_bits
nought-within = lit≤ tt

sixteen-within : Within sixteen 16 1
unfolding of_bits
sixteen-within = lit≤ tt

lt-le : (x y : Float) → lt x y ≡ true → T (le x y)
unfolding le
lt-le x y h = or_l (lt x y) _ (of_true h)

weight-within : (w : Float) → lt nought w ≡ true → le w sixteen ≡ true → Within w 16 1
weight-within w h g = between nought w sixteen 16 1 nought-within sixteen-within (lt-le nought w h) (of_true g)

pub two-within : Within two 2 1
unfolding of_bits
two-within = lit≤ tt

-- a component that passed its limit is at most k in size, where the limit is
pub within_limit : (m x : Float) (k : ℕ) → Within m k 1 → within m x ≡ true → Within x k 1
unfolding within
within_limit m x k w h = between (neg m) x m k 1 (neg-within m k 1 w) w (of_true (and_r (le x m) (le (neg m) x) h)) (of_true (and_l (le x m) (le (neg m) x) h))

pub components_within : (m : Float) (xs : List Float) (k : ℕ) → Within m k 1 → components_fit m xs ≡ true → Bounded xs k
unfolding first_bad component_fits
components_within m xs k w h i l =
    within_limit m (get_or xs i nan) k w
    (every-at (component_fits m xs) (length xs) i (none_first (component_fits m xs) (length xs) (eqb-true (first_not (component_fits m xs) (length xs)) (length xs) h)) l)

-- ---- tiles
-- the room that a tile's test leaves, from its parts
pub test_room : (size total at f n : ℕ) → tile_test size total at f n ≡ true → at + n ≤ total
unfolding tile_test
test_room size total at f n h =
    leb-true (at + n) total (and_r (leb n size) (leb (at + n) total) (and_r (eqb f at) (leb n size && leb (at + n) total) h))

module _ (size total : ℕ) (tiles : List ℕ) (t : ℕ) (F : tiles_fit size total tiles t ≡ true) where
  pub tiles-whole : sum (size_of tiles) t ≡ total
  unfolding tiles_fit
  tiles-whole = eqb-true (sum (size_of tiles) t) total (and_r (every (tile_fits size total tiles) t) (eqb (sum (size_of tiles) t) total) F)

  module _ (i : ℕ) (l : i < t) where
    tile_fits_lem : tile_test size total (sum (size_of tiles) i) (first_of tiles i) (size_of tiles i) ≡ true
    unfolding tiles_fit tile_fits
    tile_fits_lem = every-at (tile_fits size total tiles) t i (and_l (every (tile_fits size total tiles) t) (eqb (sum (size_of tiles) t) total) F) l

    pub tile-short : size_of tiles i ≤ size
    unfolding tile_test
    tile-short =
        leb-true (size_of tiles i) size
        (and_l (leb (size_of tiles i) size) (leb (sum (size_of tiles) i + size_of tiles i) total)
        (and_r (eqb (first_of tiles i) (sum (size_of tiles) i)) (leb (size_of tiles i) size && leb (sum (size_of tiles) i + size_of tiles i) total) tile_fits_lem))

    pub tile-first : first_of tiles i ≡ sum (size_of tiles) i
    unfolding tile_test
    tile-first = eqb-true (first_of tiles i) (sum (size_of tiles) i) (and_l (eqb (first_of tiles i) (sum (size_of tiles) i)) (leb (size_of tiles i) size && leb (sum (size_of tiles) i + size_of tiles i) total) tile_fits_lem)

    pub tile-inside : first_of tiles i + size_of tiles i ≤ total
    tile-inside = omega (arith, tile-first, test_room size total (sum (size_of tiles) i) (first_of tiles i) (size_of tiles i) tile_fits_lem)

-- ---- the counts of a tile
module _ (size : ℕ) (cs : List ℕ) (F : part_fits size cs ≡ true) where
  module _ (k : ℕ) (m : k < length cs) where
    count_fits_lem : count_test size (sum (λ i. get_or cs i 0) k) (get_or cs k 0) ≡ true
    unfolding part_fits count_fits
    count_fits_lem = every-at (count_fits size cs) (length cs) k F m

    count_low : 1 ≤ get_or cs k 0
    unfolding count_test
    count_low = leb-true 1 (get_or cs k 0) (and_l (leb 1 (get_or cs k 0)) (leb (sum (λ i. get_or cs i 0) k + get_or cs k 0) size) count_fits_lem)

    count-sum : sum (λ i. get_or cs i 0) k + get_or cs k 0 ≤ size
    unfolding count_test
    count-sum = leb-true (sum (λ i. get_or cs i 0) k + get_or cs k 0) size (and_r (leb 1 (get_or cs k 0)) (leb (sum (λ i. get_or cs i 0) k + get_or cs k 0) size) count_fits_lem)

    count-high : get_or cs k 0 ≤ size
    count-high = omega (arith, count-sum)

  counts-full : (n : ℕ) → n ≤ length cs → sum (λ i. get_or cs i 0) n ≤ size
  unfolding sum
  counts-full zero l = omega arith
  counts-full (suc n) l = count-sum n l

part-passed : (size : ℕ) (tiles counts : List ℕ) (n : ℕ) → counts_fit size tiles counts n ≡ true → (t : ℕ) → t < n → part_fits size (counts_part tiles counts t) ≡ true
unfolding counts_fit tile_counts_fit
part-passed size tiles counts n F t l = every-at (tile_counts_fit size tiles counts) n t F l

-- ---- the job
ready_of : (J : Job) → Passed (size_rules J.size J.S J.C J.T) → Passed (shape_rules J.T J.tiles J.colours J.counts) → Passed (tables J) → components_fit two J.colours ≡ true → Ready J
unfolding weight_fits
ready_of J p q r v =
    let part = part-passed J.size J.tiles J.counts J.T r.1.1.1.0 in
    record {
      sizes = sizes-ready J.size J.S J.C J.T p;
      table = eqb-true (length J.tiles) (2 * J.T) q.0;
      three = eqb-true (length J.colours) (3 * length J.counts) q.1.0;
      total = leb-true (length J.counts) most_tile_colours r.1.0;
      weight = weight-positive J.weight (and_l (lt nought J.weight) (le J.weight sixteen) r.0) (and_r (lt nought J.weight) (le J.weight sixteen) r.0);
      heavy = weight-within J.weight (and_l (lt nought J.weight) (le J.weight sixteen) r.0) (and_r (lt nought J.weight) (le J.weight sixteen) r.0);
      bounded = components_within two J.colours 2 two-within v;
      starts = tile-first J.size (length J.counts) J.tiles J.T r.1.1.0;
      whole = tiles-whole J.size (length J.counts) J.tiles J.T r.1.1.0;
      short = tile-short J.size (length J.counts) J.tiles J.T r.1.1.0;
      inside = tile-inside J.size (length J.counts) J.tiles J.T r.1.1.0;
      low = λ t k l m. count_low J.size (counts_of J t) (part t l) k m;
      high = λ t k l m. count-high J.size (counts_of J t) (part t l) k m;
      full = λ t l. counts-full J.size (counts_of J t) (part t l) (length (counts_of J t)) (omega arith);
    }

pub plain_ready : (J : Job) (palette : List Float) (room : Bool) → (plain_answer J palette room).number ≡ 0 → Plain J palette room
unfolding plain_answer numbered
plain_ready J palette room e =
    let p = all_pass (plain_rules J palette room) refl e in
    let q = p.1.1.1.1 in
    let r = q.1.1.1.1 in
    let v = r.1.1.1.1 in
    record {
      ready = ready_of J (p.0, (p.1.0, (p.1.1.0, (p.1.1.1.0, tt)))) (q.0, (q.1.0, tt)) (r.0, (r.1.0, (r.1.1.0, (r.1.1.1.0, tt)))) v.1.0;
      lent = record { room = eqb-true (length palette) (3 * (J.S * J.C)) q.1.1.0; bounded = components_within two palette 2 two-within v.0 };
      roomy = q.1.1.1.0;
    }

module _ (tiles : List ℕ) (t : ℕ) (samples : List ℕ) (n : ℕ) (F : samples_fit tiles t samples n ≡ true) (i : ℕ) (l : i < n) where
  sample_fits_lem : ltb (get_or samples (2 * i) 0) t && ltb (get_or samples (2 * i + 1) 0) (size_of tiles (get_or samples (2 * i) 0)) ≡ true
  unfolding samples_fit sample_fits sample_test
  sample_fits_lem = every-at (sample_fits tiles t samples) n i F l

  sample_tile_lem : get_or samples (2 * i) 0 < t
  sample_tile_lem = ltb-true _ t (and_l (ltb (get_or samples (2 * i) 0) t) (ltb (get_or samples (2 * i + 1) 0) (size_of tiles (get_or samples (2 * i) 0))) sample_fits_lem)

  sample_place_lem : get_or samples (2 * i + 1) 0 < size_of tiles (get_or samples (2 * i) 0)
  sample_place_lem = ltb-true _ _ (and_r (ltb (get_or samples (2 * i) 0) t) (ltb (get_or samples (2 * i + 1) 0) (size_of tiles (get_or samples (2 * i) 0))) sample_fits_lem)

pub sampled-ready : (J : Job) (n : ℕ) (samples : List ℕ) (room : Bool) → (sampled_answer J n samples room).number ≡ 0 → Sampled J n samples room
unfolding sampled_answer numbered
sampled-ready J n samples room e =
    let p = all_pass (sampled_rules J n samples room) refl e in
    let q = p.1.1.1.1.1 in
    let r = q.1.1.1.1.1 in
    let v = r.1.1.1.1 in
    record {
      ready = ready_of J (p.0, (p.1.0, (p.1.1.0, (p.1.1.1.0, tt)))) (q.0, (q.1.0, tt)) (r.0, (r.1.0, (r.1.1.0, (r.1.1.1.0, tt)))) v.0;
      some = leb-true 1 n q.1.1.1.1.0;
      few = leb-true n most_samples p.1.1.1.1.0;
      pairs = eqb-true (length samples) (2 * n) q.1.1.0;
      roomy = q.1.1.1.0;
      tile = sample_tile_lem J.tiles J.T samples n v.1.0;
      place = sample_place_lem J.tiles J.T samples n v.1.0;
    }
