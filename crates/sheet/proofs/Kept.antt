-- The sheet of a job that passed its checks can be written, and holds that job: the same sizes, weight, table, colours, counts and palette,
-- as floats, signs of zero too. Assumes nothing.
use mathlib.Core.Path.{◌≡◌, refl, sym, ap, ap₂, ◌∙◌, subst}
use Prim.Native.Nat.{ℕ, zero, suc, ◌+◌, ◌*◌, ◌^◌, ◌≤◌, ◌<◌}
use native.Mathlib.Omega.{arith}
use native.Mathlib.Nat.{zero-add, zero-mul, mul-pos, le_trans}
use mathlib.Core.Bool.{Bool, true, false, ◌&&◌}
use mathlib.Core.List.{List, [], ◌∷◌, ◌++◌}
use lib.Dec.{T, leb, ltb, lt→ltb, le→leb}
use lib.ListN.{length, get_or, take, drop, length-drop, take-append-drop}
use lib.Seq.{drop-cons, drop-drop, drop-length, length-take-le}
use lib.Ieee.{Float, nan, inf, fin, binary32, to_bits, fits, lt, up, down}
use lib.Ieee.Fits.{up_pos}
use lib.Ieee.Bits.{of_bits-to_bits}
use lib.Ieee.Positive.{positive}
use Rattle.lists.specs.Every.{sum}
use Rattle.ieee.specs.Terms.{zero_f, Within}
use Rattle.color.specs.Color.{Bounded}
use Rattle.format.specs.Format.{above, times}
use Rattle.format.proofs.Tests.{and_in}
use Rattle.job.specs.Job.{Job, job, first_of, size_of, counts_part, colours_part}
use Rattle.job.specs.Gives.{Ready, Lent}
use Rattle.job.proofs.Tiles.{counts-length, tile-three, tile-bounded}
use Rattle.format_pattern.specs.Pattern.{weighs}
use Rattle.sheet_format.specs.declared.Edition.{Edition}
use Rattle.sheet_format.specs.Proper.{Proper}
use Rattle.sheet_format.specs.Sheet.{component, Colour, colours, tile, sheet}
use Rattle.sheet_format.specs.Lists.{floats, patterns, tile_counts, tile_floats, all_counts, all_floats, table_of}
use Rattle.sheet_pack.specs.Packed.{colours_of, tiles_from, sheet_of, Counted}
use Rattle.sheet_pack.proofs.Prints.{length-colours_of}
use Rattle.sheet.specs.Sheets.{Singles, job_in}
use Rattle.sheet.proofs.Floats.{singles_drop, singles_take, bounded-drop, bounded-take, round_trip, components_good, weight-good}

above_good : (k n : ℕ) → 1 ≤ n → n ≤ 2 ^ k → T ((above k).good n)
above_good k zero h l = absurd (omega arith)
above_good k (suc n) h l = and_in (ltb 0 (suc n)) (ltb n (2 ^ k)) (lt→ltb 0 (suc n) (omega arith)) (lt→ltb n (2 ^ k) (omega arith))

above_zero : (x : Float) → T (positive x) → Within x 16 1 → T (lt zero_f x)
unfolding lt
above_zero nan h w = absurd w
above_zero (inf s) h w = absurd w
above_zero (fin true m e) h w = absurd h
above_zero (fin false zero e) h w = absurd h
above_zero (fin false (suc m) e) h w =
    lt→ltb (0 * 1 * down e) (suc m * up e * 1)
    (let g : 0 < suc m * up e = mul-pos (omega arith) (up_pos e) in let z : 0 * 1 * down e ≡ 0 = zero-mul (down e) in omega arith)

-- ---- a tile
pub sum_front : (c : ℕ) (cs : List ℕ) (n : ℕ) → sum (λ k. get_or (c ∷ cs) k 0) (suc n) ≡ c + sum (λ k. get_or cs k 0) n
unfolding sum
sum_front c cs zero = omega arith
sum_front c cs (suc n) = omega (arith, sum_front c cs n)

colours-good : (E : Edition) → Proper E → (cs : List ℕ) (xs : List Float) (done : ℕ) → length xs ≡ 3 * length cs → Counted cs → done + sum (λ k. get_or cs k 0) (length cs) ≤ E.size → Singles xs → Bounded xs 2
    → T ((colours E (length cs) done).good (colours_of cs xs))
colours-good E proper [] xs done l c h s b = tt
colours-good E proper (n ∷ cs) xs done l c h s b =
    let v : List ℕ = patterns (take 3 xs) in
    let k : done + (n + sum (λ k. get_or cs k 0) (length cs)) ≤ E.size = subst (λ (i : ℕ). done + i ≤ E.size) (sum_front n cs (length cs)) h in
    let few : n ≤ E.size = omega arith in
    and_in (((above E.each).good n && leb (done + n) E.size) && (times 3 component).good v) ((colours E (length cs) (done + n)).good (colours_of cs (drop 3 xs)))
    (and_in ((above E.each).good n && leb (done + n) E.size) ((times 3 component).good v)
    (and_in ((above E.each).good n) (leb (done + n) E.size) (above_good E.each n (c 0 (omega arith)) (le_trans few proper.each)) (le→leb (done + n) E.size (omega arith)))
    (components_good 3 (take 3 xs) (length-take-le 3 xs (omega arith)) (singles_take 3 xs s) (bounded-take 2 3 xs b)))
    (colours-good E proper cs (drop 3 xs) (done + n) (length-drop 3 xs ∙ omega arith) (λ i m. c (suc i) (omega arith)) (omega arith) (singles_drop 3 xs s) (bounded-drop 2 3 xs b))

counts_of_lem : (cs : List ℕ) (xs : List Float) → tile_counts (colours_of cs xs) ≡ cs
counts_of_lem [] xs = refl
counts_of_lem (c ∷ cs) xs = ap {B = List ℕ} (λ l. c ∷ l) (counts_of_lem cs (drop 3 xs))

nothing : (xs : List Float) → length xs ≡ 0 → [] ≡ xs
nothing [] e = refl
nothing (x ∷ xs) e = absurd (omega arith)

floats_of : (cs : List ℕ) (xs : List Float) → length xs ≡ 3 * length cs → Singles xs → tile_floats (colours_of cs xs) ≡ xs
floats_of [] xs e s = nothing xs (omega arith)
floats_of (c ∷ cs) xs e s =
    ap₂ (λ (a b : List Float). a ++ b) (round_trip (take 3 xs) (singles_take 3 xs s)) (floats_of cs (drop 3 xs) (length-drop 3 xs ∙ omega arith) (singles_drop 3 xs s))
    ∙ take-append-drop 3 xs

-- ---- a job of floats of 32 bits that passed its checks
module _ (E : Edition) (proper : Proper E) (J : Job) (R : Ready J) (sized : J.size ≡ E.size) (F : Singles J.colours) where
  abbrev from : ℕ → ℕ → List (List Colour)
  from i m = tiles_from J.tiles J.colours J.counts i m

  singles_part : (i : ℕ) → Singles (colours_part J.tiles J.colours i)
  singles_part i = singles_take (3 * size_of J.tiles i) (drop (3 * first_of J.tiles i) J.colours) (singles_drop (3 * first_of J.tiles i) J.colours F)

  tiles-good : (m i : ℕ) → i + m ≡ J.T → T ((times m (tile E)).good (from i m))
  tiles-good zero i e = tt
  tiles-good (suc m) i e =
      let cs : List ℕ = counts_part J.tiles J.counts i in
      let xs : List Float = colours_part J.tiles J.colours i in
      let x : List Colour = colours_of cs xs in
      let l : i < J.T = omega arith in
      let few : length cs ≤ E.size = omega (arith, counts-length J R i l, R.short i l, sized) in
      and_in ((tile E).good x) ((times m (tile E)).good (from (suc i) m))
      (subst (λ (j : ℕ). T ((ltb j (2 ^ E.many) && leb j E.size) && (colours E j 0).good x)) (sym (length-colours_of cs xs))
      (and_in (ltb (length cs) (2 ^ E.many) && leb (length cs) E.size) ((colours E (length cs) 0).good x)
      (and_in (ltb (length cs) (2 ^ E.many)) (leb (length cs) E.size) (lt→ltb (length cs) (2 ^ E.many) (omega (arith, proper.many))) (le→leb (length cs) E.size few))
      (colours-good E proper cs xs 0 (tile-three J R i l) (λ k n. R.low i k l n) (omega (arith, R.full i l, sized)) (singles_part i) (tile-bounded J R i l))))
      (tiles-good m (suc i) (omega arith))

  -- ---- counts, colours and table, one tile after another
  next : (i : ℕ) → sum (size_of J.tiles) (suc i) ≡ sum (size_of J.tiles) i + size_of J.tiles i
  unfolding sum
  next i = refl

  none : sum (size_of J.tiles) 0 ≡ 0
  unfolding sum
  none = refl

  all_counts_lem : (m i : ℕ) → i + m ≡ J.T → all_counts (from i m) ≡ drop (sum (size_of J.tiles) i) J.counts
  all_counts_lem zero i e =
      let z : i ≡ J.T = omega arith in
      sym (ap (λ (j : ℕ). drop (sum (size_of J.tiles) j) J.counts) z ∙ ap (λ (j : ℕ). drop j J.counts) R.whole ∙ drop-length J.counts)
  all_counts_lem (suc m) i e =
      let l : i < J.T = omega arith in
      let n : ℕ = size_of J.tiles i in
      let k : ℕ = sum (size_of J.tiles) i in
      ap₂ (λ (a b : List ℕ). a ++ b)
      (counts_of_lem (counts_part J.tiles J.counts i) (colours_part J.tiles J.colours i) ∙ ap (λ (j : ℕ). take n (drop j J.counts)) (R.starts i l))
      (all_counts_lem m (suc i) (omega arith) ∙ ap (λ (j : ℕ). drop j J.counts) (next i) ∙ sym (drop-drop n k J.counts))
      ∙ take-append-drop n (drop k J.counts)

  all_floats_lem : (m i : ℕ) → i + m ≡ J.T → all_floats (from i m) ≡ drop (3 * sum (size_of J.tiles) i) J.colours
  all_floats_lem zero i e =
      let z : i ≡ J.T = omega arith in
      sym (ap (λ (j : ℕ). drop (3 * sum (size_of J.tiles) j) J.colours) z ∙ ap (λ (j : ℕ). drop (3 * j) J.colours) R.whole ∙ ap (λ (j : ℕ). drop j J.colours) (sym R.three) ∙ drop-length J.colours)
  all_floats_lem (suc m) i e =
      let l : i < J.T = omega arith in
      let n : ℕ = size_of J.tiles i in
      let k : ℕ = sum (size_of J.tiles) i in
      let far : 3 * sum (size_of J.tiles) (suc i) ≡ 3 * k + 3 * n = omega (arith, next i) in
      ap₂ (λ (a b : List Float). a ++ b)
      (floats_of (counts_part J.tiles J.counts i) (colours_part J.tiles J.colours i) (tile-three J R i l) (singles_part i) ∙ ap (λ (j : ℕ). take (3 * n) (drop (3 * j) J.colours)) (R.starts i l))
      (all_floats_lem m (suc i) (omega arith) ∙ ap (λ (j : ℕ). drop j J.colours) far ∙ sym (drop-drop (3 * n) (3 * k) J.colours))
      ∙ take-append-drop (3 * n) (drop (3 * k) J.colours)

  all-table : (m i : ℕ) → i + m ≡ J.T → table_of (sum (size_of J.tiles) i) (from i m) ≡ drop (2 * i) J.tiles
  all-table zero i e = let z : 2 * i ≡ length J.tiles = omega (arith, R.table) in sym (ap (λ (j : ℕ). drop j J.tiles) z ∙ drop-length J.tiles)
  all-table (suc m) i e =
      let l : i < J.T = omega arith in
      let n : ℕ = size_of J.tiles i in
      let k : ℕ = sum (size_of J.tiles) i in
      let a : suc (2 * i) ≡ 2 * i + 1 = omega arith in
      let b : suc (2 * i + 1) ≡ 2 * suc i = omega arith in
      let long : length (colours_of (counts_part J.tiles J.counts i) (colours_part J.tiles J.colours i)) ≡ n =
      length-colours_of (counts_part J.tiles J.counts i) (colours_part J.tiles J.colours i) ∙ counts-length J R i l in
      ap (λ (j : ℕ). k ∷ j ∷ table_of (k + j) (from (suc i) m)) long
      ∙ ap₂ {C = List ℕ} (λ j r. j ∷ n ∷ r) (sym (R.starts i l)) (ap (λ (j : ℕ). table_of j (from (suc i) m)) (sym (next i)) ∙ all-table m (suc i) (omega arith))
      ∙ sym (drop-cons J.tiles (2 * i) 0 (omega (arith, R.table))
      ∙ ap (λ (r : List ℕ). first_of J.tiles i ∷ r) (ap (λ (j : ℕ). drop j J.tiles) a ∙ drop-cons J.tiles (2 * i + 1) 0 (omega (arith, R.table)) ∙ ap (λ (j : ℕ). n ∷ drop j J.tiles) b))

  -- ---- the whole
  module _ (F32 : T (fits binary32 J.weight)) (palette : List Float) (L : Lent J.S J.C palette) (P : Singles palette) where
    pub job_back : job_in E (sheet_of J palette) ≡ J
    job_back =
        let tiles : table_of 0 (from 0 J.T) ≡ J.tiles = ap (λ (j : ℕ). table_of j (from 0 J.T)) (sym none) ∙ all-table J.T 0 (zero-add J.T) in
        let colours : all_floats (from 0 J.T) ≡ J.colours = all_floats_lem J.T 0 (zero-add J.T) ∙ ap (λ (j : ℕ). drop (3 * j) J.colours) none in
        let counts : all_counts (from 0 J.T) ≡ J.counts = all_counts_lem J.T 0 (zero-add J.T) ∙ ap (λ (j : ℕ). drop j J.counts) none in
        ap₂ {C = Job} (λ w t. job E.size J.S J.C J.T w t (all_floats (from 0 J.T)) (all_counts (from 0 J.T))) (of_bits-to_bits binary32 J.weight F32) tiles
        ∙ ap₂ {C = Job} (λ f c. job E.size J.S J.C J.T J.weight J.tiles f c) colours counts
        ∙ ap {B = Job} (λ n. job n J.S J.C J.T J.weight J.tiles J.colours J.counts) (sym sized)

    pub palette_back : floats (sheet_of J palette).palette ≡ palette
    palette_back = round_trip palette P

    pub sheet-good : T ((sheet E).good (sheet_of J palette))
    sheet-good =
        let w : ℕ = to_bits binary32 J.weight in
        let N : Bool = (above 10).good J.T in
        let C : Bool = (above 4).good J.C in
        let W : Bool = ltb w (2 ^ 32) && weighs w in
        let p : Bool = (times (3 * (J.S * J.C)) component).good (patterns palette) in
        let v : Bool = (times J.T (tile E)).good (from 0 J.T) in
        and_in (ltb E.number (2 ^ 4) && ((above 4).good J.S && (C && (N && W)))) (p && v)
        (and_in (ltb E.number (2 ^ 4)) ((above 4).good J.S && (C && (N && W))) (lt→ltb E.number (2 ^ 4) proper.numbered)
        (and_in ((above 4).good J.S) (C && (N && W)) (above_good 4 J.S R.sizes.subs R.sizes.few)
        (and_in C (N && W) (above_good 4 J.C R.sizes.some R.sizes.cap)
        (and_in N W (above_good 10 J.T R.sizes.tiled R.sizes.tiles) (weight-good J.weight F32 (above_zero J.weight R.weight R.heavy, R.heavy))))))
        (and_in p v (components_good (3 * (J.S * J.C)) palette L.room P L.bounded) (tiles-good J.T 0 (zero-add J.T)))
