-- The job that an accepted sheet holds passes every rule that the writer, and a fit, holds a job to. Assumes nothing.
use mathlib.Core.Path.{◌≡◌, refl, sym, ap, ◌∙◌, subst}
use Prim.Native.Nat.{ℕ, zero, suc, ◌+◌, ◌*◌, ◌^◌, ◌≤◌, ◌<◌}
use native.Mathlib.Omega.{arith}
use mathlib.Core.Bool.{Bool, true, false, cond, ◌&&◌, true≢false}
use mathlib.Core.List.{List, [], ◌∷◌, ◌++◌}
use lib.Dec.{T, leb, ltb, eqb, leb→le}
use lib.IntN.{pos}
use lib.ListN.{length, get_or, take, drop, length-append, take-append-drop}
use lib.Seq.{take-suc, take-length}
use lib.Ieee.{Float, nan, inf, fin, binary32, of_bits, of_fields, odd, lt, le, neg}
use borrow.Author.Tests.{eq-eqb, le-leb}
use Rattle.lists.specs.Every.{every, sum}
use Rattle.lists.proofs.Tests.{and_i}
use Rattle.lists.proofs.Loops.{every-all}
use Rattle.ieee.proofs.Order.{le_fin←}
use Rattle.ieee.specs.Terms.{zero_f, Within}
use Rattle.color.specs.Color.{Bounded}
use Rattle.format.specs.Format.{above, times}
use Rattle.format.proofs.Tests.{and_l, and_r}
use Rattle.job.specs.Checks.{first_not, tile_sized, among, within, weight_fits, tile_test, tile_fits, tiles_fit, count_test, count_fits, part_fits, tile_counts_fit, counts_fit, component_fits, first_bad, components_fit}
use Rattle.job.specs.Checks.{bound_rules, tables, plain_rules, plain_answer}
use Rattle.answer.specs.Rules.{Passed}
use Rattle.answer.proofs.Passing.{passed-number}
use Rattle.job.specs.Job.{most_tile_colours, first_of, size_of, counts_part, nought, two, sixteen}
use Rattle.format_pattern.proofs.Patterns.{weighs_is}
use Rattle.sheet_format.specs.declared.Edition.{Edition}
use Rattle.sheet_format.specs.Sheet.{component, Colour, entry, colours, tile, Sheet, sheet}
use Rattle.sheet_format.proofs.Headed.{above_says}
use Rattle.sheet_format.specs.Lists.{floats, tile_counts, tile_floats, all_counts, all_floats, table_of, total}
use Rattle.sheet.specs.Sheets.{job_in}
use Rattle.sheet.proofs.Floats.{components_back}
use Rattle.sheet.proofs.Kept.{sum_front}
use Rattle.sheet.proofs.Again.{tile_says, counts_here, table-left, counts-left, colours-left, sized, palette-good, content-good}

of_T : (b : Bool) → T b → b ≡ true
of_T true h = refl
of_T false h = absurd h

-- ---- floats
two_is : two ≡ fin false 1 (pos 1)
unfolding of_bits of_fields odd
two_is = refl

sixteen-is : sixteen ≡ fin false 1 (pos 4)
unfolding of_bits of_fields odd
sixteen-is = refl

nought-is : nought ≡ zero_f
unfolding of_bits of_fields odd
nought-is = refl

under : (j : ℕ) (x : Float) → Within x (2 ^ j) 1 → T (le x (fin false 1 (pos j)))
under j nan w = absurd w
under j (inf s) w = absurd w
under j (fin true m e) w = le_fin← true m e false 1 (pos j) tt
under j (fin false m e) w = le_fin← false m e false 1 (pos j) (omega arith)

over : (j : ℕ) (x : Float) → Within x (2 ^ j) 1 → T (le (fin true 1 (pos j)) x)
over j nan w = absurd w
over j (inf s) w = absurd w
over j (fin false m e) w = le_fin← true 1 (pos j) false m e tt
over j (fin true m e) w = le_fin← true 1 (pos j) true m e (omega arith)

-- where every test passes, the first that fails is none
first-none : (f : ℕ → Bool) (n : ℕ) → every f n ≡ true → n ≡ first_not f n
unfolding first_not every
first-none f zero h = refl
first-none f (suc n) h = by (every f n) (f n) h
  where
    by : (a b : Bool) → a && b ≡ true → suc n ≡ cond a (cond b (suc n) n) (first_not f n)
    by true true h = refl
    by true false h = absurd (true≢false (sym h))
    by false b h = absurd (true≢false (sym h))

in-bound : (xs : List Float) → Bounded xs 2 → components_fit two xs ≡ true
unfolding first_bad component_fits within neg
in-bound xs b =
    eq-eqb (first_not (component_fits two xs) (length xs)) (length xs)
    (sym (first-none (component_fits two xs) (length xs)
    (every-all (component_fits two xs) (length xs) λ i l.
    and_i (le (get_or xs i nan) two) (le (neg two) (get_or xs i nan))
    (subst (λ (y : Float). le (get_or xs i nan) y ≡ true) (sym two_is) (of_T (le (get_or xs i nan) (fin false 1 (pos 1))) (under 1 (get_or xs i nan) (b i l))))
    (subst (λ (y : Float). le (neg y) (get_or xs i nan) ≡ true) (sym two_is) (of_T (le (fin true 1 (pos 1)) (get_or xs i nan)) (over 1 (get_or xs i nan) (b i l)))))))

weighty : (w : Float) → T (lt zero_f w) → Within w 16 1 → weight_fits w ≡ true
unfolding weight_fits
weighty w h b =
    and_i (lt nought w) (le w sixteen)
    (subst (λ (y : Float). lt y w ≡ true) (sym nought-is) (of_T (lt zero_f w) h))
    (subst (λ (y : Float). le w y ≡ true) (sym sixteen-is) (of_T (le w (fin false 1 (pos 4))) (under 4 w b)))

-- ---- the table
total_append : (a b : List (List Colour)) → total (a ++ b) ≡ total a + total b
total_append [] b = omega arith
total_append (x ∷ a) b = omega (arith, total_append a b)

table_at : (v : List (List Colour)) (k i : ℕ) → i < length v → (first_of (table_of k v) i ≡ k + total (take i v)) × (size_of (table_of k v) i ≡ length (get_or v i []))
table_at [] k i l = absurd (omega arith)
table_at (x ∷ v) k zero l = (omega arith, refl)
table_at (x ∷ v) k (suc i) l =
    let a : 2 * suc i ≡ suc (suc (2 * i)) = omega arith in
    let b : 2 * suc i + 1 ≡ suc (suc (2 * i + 1)) = omega arith in
    let r = table_at v (k + length x) i (omega arith) in
    (ap (λ (j : ℕ). get_or (table_of k (x ∷ v)) j 0) a ∙ r.0 ∙ omega arith, ap (λ (j : ℕ). get_or (table_of k (x ∷ v)) j 0) b ∙ r.1)

one_more : (v : List (List Colour)) (i : ℕ) → i < length v → total (take (suc i) v) ≡ total (take i v) + length (get_or v i [])
one_more v i l = ap total (take-suc v i [] l) ∙ total_append (take i v) (get_or v i [] ∷ []) ∙ omega arith

sums : (v : List (List Colour)) (k i : ℕ) → i ≤ length v → sum (size_of (table_of k v)) i ≡ total (take i v)
unfolding sum
sums v k zero l = refl
sums v k (suc i) l = omega (arith, sums v k i (omega arith), one_more v i (omega arith), (table_at v k i (omega arith)).1)

part-total : (v : List (List Colour)) (i : ℕ) → total (take i v) ≤ total v
part-total v i = omega (arith, ap total (take-append-drop i v), total_append (take i v) (drop i v))

length-table_of : (k : ℕ) (v : List (List Colour)) → length (table_of k v) ≡ 2 * length v
length-table_of k [] = refl
length-table_of k (x ∷ v) = omega (arith, length-table_of (k + length x) v)

table_fits : (size : ℕ) (v : List (List Colour)) (n all : ℕ) → length v ≡ n → total v ≡ all → ((i : ℕ) → i < n → length (get_or v i []) ≤ size) → tiles_fit size all (table_of 0 v) n ≡ true
unfolding tiles_fit tile_fits tile_test
table_fits size v n all e t few =
    and_i (every (tile_fits size all (table_of 0 v)) n) (eqb (sum (size_of (table_of 0 v)) n) all)
    (every-all (tile_fits size all (table_of 0 v)) n λ i l.
    let a = table_at v 0 i (omega arith) in
    let s = sums v 0 i (omega arith) in
    and_i (eqb (first_of (table_of 0 v) i) (sum (size_of (table_of 0 v)) i)) (leb (size_of (table_of 0 v) i) size && leb (sum (size_of (table_of 0 v)) i + size_of (table_of 0 v) i) all)
    (eq-eqb (first_of (table_of 0 v) i) (sum (size_of (table_of 0 v)) i) (omega (arith, a.0)))
    (and_i (leb (size_of (table_of 0 v) i) size) (leb (sum (size_of (table_of 0 v)) i + size_of (table_of 0 v) i) all)
    (le-leb (size_of (table_of 0 v) i) size (omega (arith, a.1, few i l)))
    (le-leb (sum (size_of (table_of 0 v)) i + size_of (table_of 0 v) i) all (omega (arith, a.1, one_more v i (omega arith), part-total v (suc i))))))
    (eq-eqb (sum (size_of (table_of 0 v)) n) all (sums v 0 n (omega arith) ∙ ap (λ (i : ℕ). total (take i v)) (sym e) ∙ ap total (take-length v) ∙ t))

-- ---- all tiles
pub record All (m : ℕ) (v : List (List Colour)) : Type 0 where
  pub number : length v ≡ m
  pub counts : total v ≡ length (all_counts v)
  pub thrice : length (all_floats v) ≡ 3 * length (all_counts v)
  pub small : Bounded (all_floats v) 2

bounded_append : (u v : List Float) → Bounded u 2 → Bounded v 2 → Bounded (u ++ v) 2
bounded_append [] v a b k l = b k l
bounded_append (x ∷ u) v a b zero l = a 0 (omega arith)
bounded_append (x ∷ u) v a b (suc k) l = bounded_append u v (λ j m. a (suc j) (omega arith)) b k (omega arith)

within-range : (n most : ℕ) → (0 < n) × (n ≤ most) → among n most ≡ true
unfolding among
within-range n most h = and_i (leb 1 n) (leb n most) (le-leb 1 n h.0) (le-leb n most h.1)

-- ---- counts
module _ (E : Edition) where
  counted : (n done : ℕ) (y : List Colour) → T ((colours E n done).good y) → (k : ℕ) → k < length (tile_counts y)
      → (1 ≤ get_or (tile_counts y) k 0) × (done + (sum (λ i. get_or (tile_counts y) i 0) k + get_or (tile_counts y) k 0) ≤ E.size)
  unfolding sum
  counted zero done [] h k l = absurd (omega arith)
  counted zero done (y ∷ v) h k l = absurd h
  counted (suc n) done [] h k l = absurd h
  counted (suc n) done (y ∷ v) h zero l =
      let c : ℕ = y.0 in
      let G : Bool = (above E.each).good c && leb (done + c) E.size in
      let g = and_l G ((times 3 component).good y.1) (and_l ((entry E done).good y) ((colours E n (done + c)).good v) h) in
      ((above_says E.each c (and_l ((above E.each).good c) (leb (done + c) E.size) g)).0, omega (arith, leb→le (done + c) E.size (and_r ((above E.each).good c) (leb (done + c) E.size) g)))
  counted (suc n) done (y ∷ v) h (suc k) l =
      let c : ℕ = y.0 in
      let r = counted n (done + c) v (and_r ((entry E done).good y) ((colours E n (done + c)).good v) h) k (omega arith) in
      (r.0, omega (arith, r.1, sum_front c (tile_counts v) k))

  part_fits_lem : (y : List Colour) → T ((tile E).good y) → part_fits E.size (tile_counts y) ≡ true
  unfolding part_fits count_fits count_test
  part_fits_lem y h =
      every-all (count_fits E.size (tile_counts y)) (length (tile_counts y)) λ k l.
      let g = counted (length y) 0 y (and_r (ltb (length y) (2 ^ E.many) && leb (length y) E.size) ((colours E (length y) 0).good y) h) k l in
      and_i (leb 1 (get_or (tile_counts y) k 0)) (leb (sum (λ i. get_or (tile_counts y) i 0) k + get_or (tile_counts y) k 0) E.size)
      (le-leb 1 (get_or (tile_counts y) k 0) g.0)
      (le-leb (sum (λ i. get_or (tile_counts y) i 0) k + get_or (tile_counts y) k 0) E.size (omega (arith, g.1)))

  -- ---- tile j of those that the lists still hold
  module _ (tb : List ℕ) (f : List Float) (cs : List ℕ) where
    tile_at_lem : (j m i k : ℕ) (v : List (List Colour)) → T ((times m (tile E)).good v) → drop (2 * i) tb ≡ table_of k v → drop k cs ≡ all_counts v → drop (3 * k) f ≡ all_floats v → j < m
        → (counts_part tb cs (i + j) ≡ tile_counts (get_or v j [])) × T ((tile E).good (get_or v j []))
    tile_at_lem j zero i k v h et ec ef l = absurd (omega arith)
    tile_at_lem j (suc m) i k [] h et ec ef l = absurd h
    tile_at_lem zero (suc m) i k (x ∷ v) h et ec ef l =
        let g = and_l ((tile E).good x) ((times m (tile E)).good v) h in
        let z : i + 0 ≡ i = omega arith in
        (ap (counts_part tb cs) z ∙ counts_here E tb f cs i k x v g et ec ef, g)
    tile_at_lem (suc j) (suc m) i k (x ∷ v) h et ec ef l =
        let g = and_l ((tile E).good x) ((times m (tile E)).good v) h in
        let z : i + suc j ≡ suc i + j = omega arith in
        let r = tile_at_lem j m (suc i) (k + length x) v (and_r ((tile E).good x) ((times m (tile E)).good v) h)
        (table-left E tb f cs i k x v g et ec ef) (counts-left E tb f cs i k x v g et ec ef) (colours-left E tb f cs i k x v g et ec ef) (omega arith) in
        (ap (counts_part tb cs) z ∙ r.0, r.1)

  colours-small : (n done : ℕ) (x : List Colour) → T ((colours E n done).good x) → Bounded (tile_floats x) 2
  colours-small zero done [] h = λ i l. absurd (omega arith)
  colours-small zero done (y ∷ x) h = absurd h
  colours-small (suc n) done [] h = absurd h
  colours-small (suc n) done (y ∷ x) h =
      let first : Bool = (entry E done).good y in
      let G : Bool = (above E.each).good y.0 && leb (done + y.0) E.size in
      bounded_append (floats y.1) (tile_floats x) (components_back 3 y.1 (and_r G ((times 3 component).good y.1) (and_l first ((colours E n (done + y.0)).good x) h))).3
      (colours-small n (done + y.0) x (and_r first ((colours E n (done + y.0)).good x) h))

  tiles_say : (m : ℕ) (v : List (List Colour)) → T ((times m (tile E)).good v) → All m v
  tiles_say zero [] h = record { number = refl; counts = refl; thrice = refl; small = λ i l. absurd (omega arith) }
  tiles_say zero (x ∷ v) h = absurd h
  tiles_say (suc m) [] h = absurd h
  tiles_say (suc m) (x ∷ v) h =
      let g = and_l ((tile E).good x) ((times m (tile E)).good v) h in
      let t = tile_says E x g in
      let r = tiles_say m v (and_r ((tile E).good x) ((times m (tile E)).good v) h) in
      record {
        number = ap suc r.number;
        counts = omega (arith, length-append (tile_counts x) (all_counts v), t.long, r.counts);
        thrice = omega (arith, length-append (tile_counts x) (all_counts v), length-append (tile_floats x) (all_floats v), t.long, t.thrice, r.thrice);
        small = bounded_append (tile_floats x) (all_floats v) (colours-small (length x) 0 x (and_r (ltb (length x) (2 ^ E.many) && leb (length x) E.size) ((colours E (length x) 0).good x) g)) r.small;
      }

  pub content-counts : (x : Sheet) → T ((sheet E).good x) → total x.content ≡ length (all_counts x.content)
  content-counts x h = (tiles_say x.tiles x.content (content-good E x h)).counts

  -- ---- a sheet that can be written, of few enough colours
  pub taken : tile_sized E.size ≡ true → (x : Sheet) → T ((sheet E).good x) → total x.content ≤ most_tile_colours → (plain_answer (job_in E x) (floats x.palette) true).number ≡ 0
  unfolding plain_answer counts_fit tile_counts_fit
  taken there x h fit =
      let H = sized E x h in
      let A = tiles_say x.tiles x.content (content-good E x h) in
      let P = components_back (3 * (x.subs * x.each)) x.palette (palette-good E x h) in
      let W = (weighs_is x.weight H.narrow).0 H.weight in
      let v : List (List Colour) = x.content in
      let at = tile_at_lem (table_of 0 v) (all_floats v) (all_counts v) in
      let few : (i : ℕ) → i < x.tiles → length (get_or v i []) ≤ E.size = λ i l.
      let g = (at i x.tiles 0 0 v (content-good E x h) refl refl refl l).1 in
      let many : ℕ = length (get_or v i []) in
      leb→le many E.size (and_r (ltb many (2 ^ E.many)) (leb many E.size) (and_l (ltb many (2 ^ E.many) && leb many E.size) ((colours E many 0).good (get_or v i [])) g)) in
      let parts_fit : every (tile_counts_fit E.size (table_of 0 v) (all_counts v)) x.tiles ≡ true =
      every-all (tile_counts_fit E.size (table_of 0 v) (all_counts v)) x.tiles λ i l.
      let z : 0 + i ≡ i = omega arith in
      let g = at i x.tiles 0 0 v (content-good E x h) refl refl refl l in
      ap (part_fits E.size) (ap (counts_part (table_of 0 v) (all_counts v)) (sym z) ∙ g.0) ∙ part_fits_lem (get_or v i []) g.1 in
      let near_rules : Passed (bound_rules (x.subs * x.each) (floats x.palette) (all_floats v)) = (in-bound (floats x.palette) P.3, (in-bound (all_floats v) A.small, tt)) in
      let table_rules : Passed (tables (job_in E x) ++ bound_rules (x.subs * x.each) (floats x.palette) (all_floats v)) = (
        weighty (of_bits binary32 x.weight) W.0 W.1,
        (le-leb (length (all_counts v)) most_tile_colours (omega (arith, A.counts)), (table_fits E.size v x.tiles (length (all_counts v)) A.number A.counts few, (parts_fit, near_rules))),
      ) in
      let three = eq-eqb (length (all_floats v)) (3 * length (all_counts v)) A.thrice in
      let sized = eq-eqb (length (floats x.palette)) (3 * (x.subs * x.each)) P.2 in
      let listed = eq-eqb (length (table_of 0 v)) (2 * x.tiles) (length-table_of 0 v ∙ ap (λ (i : ℕ). 2 * i) A.number) in
      passed-number (plain_rules (job_in E x) (floats x.palette) true)
      (there, (within-range x.subs 16 H.subs, (within-range x.each 16 H.each, (within-range x.tiles 1024 H.tiles, (listed, (three, (sized, (refl, table_rules))))))))
