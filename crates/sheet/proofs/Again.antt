-- The sheet of the job that a sheet holds is that sheet: patterns, counts and tiles come back as they stood. Assumes nothing.
use mathlib.Core.Path.{◌≡◌, refl, sym, ap, ap₂, ◌∙◌}
use Prim.Native.Nat.{ℕ, zero, suc, ◌+◌, ◌*◌, ◌^◌}
use native.Mathlib.Omega.{arith}
use mathlib.Core.Bool.{Bool, ◌&&◌}
use mathlib.Core.List.{List, [], ◌∷◌}
use lib.Dec.{T, leb, ltb}
use lib.ListN.{length, get_or, take, drop, length-append}
use lib.Seq.{take_at, drop_at, drop-drop, get_or-drop}
use lib.Ieee.{Float, binary32, of_bits, to_bits}
use Rattle.format.specs.Format.{above, times}
use Rattle.format.proofs.Tests.{and_l, and_r}
use Rattle.format_pattern.proofs.Patterns.{weighs_back}
use Rattle.job.specs.Job.{first_of, size_of, counts_part, colours_part}
use Rattle.sheet_format.specs.declared.Edition.{Edition}
use Rattle.sheet_format.specs.Sheet.{component, Colour, entry, colours, tile, Sheet, whole, parts, header, rest, sheet}
use Rattle.sheet_format.proofs.Headed.{Sized, good_says}
use Rattle.sheet_format.specs.Lists.{floats, patterns, tile_counts, tile_floats, all_counts, all_floats, table_of}
use Rattle.sheet_pack.specs.Packed.{colours_of, tiles_from, sheet_of}
use Rattle.sheet.specs.Sheets.{job_in}
use Rattle.sheet.proofs.Floats.{components_back}

-- ---- a tile that can be written
pub record Tiled (x : List Colour) : Type 0 where
  pub same : colours_of (tile_counts x) (tile_floats x) ≡ x
  pub long : length (tile_counts x) ≡ length x
  pub thrice : length (tile_floats x) ≡ 3 * length x

module _ (E : Edition) where
  colours_say : (n done : ℕ) (x : List Colour) → T ((colours E n done).good x) → Tiled x
  colours_say zero done [] h = record { same = refl; long = refl; thrice = refl }
  colours_say zero done (y ∷ x) h = absurd h
  colours_say (suc n) done [] h = absurd h
  colours_say (suc n) done (y ∷ x) h =
      let c : ℕ = y.0 in
      let u : List ℕ = y.1 in
      let first : Bool = (entry E done).good y in
      let G : Bool = (above E.each).good c && leb (done + c) E.size in
      let U = components_back 3 u (and_r G ((times 3 component).good u) (and_l first ((colours E n (done + c)).good x) h)) in
      let r = colours_say n (done + c) x (and_r first ((colours E n (done + c)).good x) h) in
      record {
        same =
            ap₂ {C = List Colour} (λ a b. (c, a) ∷ b)
            (ap patterns (take_at (floats u) (tile_floats x) 3 U.2) ∙ U.0)
            (ap (colours_of (tile_counts x)) (drop_at (floats u) (tile_floats x) 3 U.2) ∙ r.same);
        long = ap suc r.long;
        thrice = length-append (floats u) (tile_floats x) ∙ omega (arith, U.2, r.thrice);
      }

  pub tile_says : (x : List Colour) → T ((tile E).good x) → Tiled x
  tile_says x h = colours_say (length x) 0 x (and_r (ltb (length x) (2 ^ E.many) && leb (length x) E.size) ((colours E (length x) 0).good x) h)

  -- ---- the tile at the head of what the lists still hold
  module _ (tb : List ℕ) (f : List Float) (cs : List ℕ) (i k : ℕ) (x : List Colour) (v : List (List Colour)) (h : T ((tile E).good x))
      (et : drop (2 * i) tb ≡ table_of k (x ∷ v)) (ec : drop k cs ≡ all_counts (x ∷ v)) (ef : drop (3 * k) f ≡ all_floats (x ∷ v)) where
    pub first_here : first_of tb i ≡ k
    first_here = let z : 2 * i ≡ 2 * i + 0 = omega arith in ap (λ (j : ℕ). get_or tb j 0) z ∙ sym (get_or-drop (2 * i) tb 0 0) ∙ ap (λ (l : List ℕ). get_or l 0 0) et

    pub size_here : size_of tb i ≡ length x
    size_here = sym (get_or-drop (2 * i) tb 1 0) ∙ ap (λ (l : List ℕ). get_or l 1 0) et

    pub counts_here : counts_part tb cs i ≡ tile_counts x
    counts_here =
        ap₂ (λ (n j : ℕ). take n (drop j cs)) size_here first_here ∙ ap (take (length x)) ec ∙ take_at (tile_counts x) (all_counts v) (length x) (tile_says x h).long

    pub colours_here : colours_part tb f i ≡ tile_floats x
    colours_here =
        ap₂ (λ (n j : ℕ). take (3 * n) (drop (3 * j) f)) size_here first_here ∙ ap (take (3 * length x)) ef ∙ take_at (tile_floats x) (all_floats v) (3 * length x) (tile_says x h).thrice

    pub table-left : drop (2 * suc i) tb ≡ table_of (k + length x) v
    table-left =
        let two : 2 * i + 2 ≡ 2 * suc i = omega arith in
        sym (drop-drop 2 (2 * i) tb ∙ ap (λ (j : ℕ). drop j tb) two) ∙ ap (drop 2) et

    pub counts-left : drop (k + length x) cs ≡ all_counts v
    counts-left = sym (drop-drop (length x) k cs) ∙ ap (drop (length x)) ec ∙ drop_at (tile_counts x) (all_counts v) (length x) (tile_says x h).long

    pub colours-left : drop (3 * (k + length x)) f ≡ all_floats v
    colours-left =
        let far : 3 * k + 3 * length x ≡ 3 * (k + length x) = omega arith in
        sym (drop-drop (3 * length x) (3 * k) f ∙ ap (λ (j : ℕ). drop j f) far) ∙ ap (drop (3 * length x)) ef ∙ drop_at (tile_floats x) (all_floats v) (3 * length x) (tile_says x h).thrice

  tiles-same : (tb : List ℕ) (f : List Float) (cs : List ℕ) (m i k : ℕ) (v : List (List Colour)) → T ((times m (tile E)).good v)
      → drop (2 * i) tb ≡ table_of k v → drop k cs ≡ all_counts v → drop (3 * k) f ≡ all_floats v → tiles_from tb f cs i m ≡ v
  tiles-same tb f cs zero i k [] h et ec ef = refl
  tiles-same tb f cs zero i k (x ∷ v) h et ec ef = absurd h
  tiles-same tb f cs (suc m) i k [] h et ec ef = absurd h
  tiles-same tb f cs (suc m) i k (x ∷ v) h et ec ef =
      let g = and_l ((tile E).good x) ((times m (tile E)).good v) h in
      ap₂ {C = List (List Colour)} (λ a b. a ∷ b)
      (ap₂ (λ (a : List ℕ) (b : List Float). colours_of a b) (counts_here tb f cs i k x v g et ec ef) (colours_here tb f cs i k x v g et ec ef) ∙ (tile_says x g).same)
      (tiles-same tb f cs m (suc i) (k + length x) v (and_r ((tile E).good x) ((times m (tile E)).good v) h)
      (table-left tb f cs i k x v g et ec ef) (counts-left tb f cs i k x v g et ec ef) (colours-left tb f cs i k x v g et ec ef))

  -- ---- a sheet that can be written: its header, its palette, its tiles
  module _ (x : Sheet) (h : T ((sheet E).good x)) where
    pub sized : Sized (parts x).0
    sized = good_says E (parts x).0 (and_l ((header E).good (parts x).0) ((rest E (3 * (x.subs * x.each)) x.tiles).good (x.palette, x.content)) h)

    behind : T ((rest E (3 * (x.subs * x.each)) x.tiles).good (x.palette, x.content))
    behind = and_r ((header E).good (parts x).0) ((rest E (3 * (x.subs * x.each)) x.tiles).good (x.palette, x.content)) h

    pub palette-good : T ((times (3 * (x.subs * x.each)) component).good x.palette)
    palette-good = and_l ((times (3 * (x.subs * x.each)) component).good x.palette) ((times x.tiles (tile E)).good x.content) behind

    pub content-good : T ((times x.tiles (tile E)).good x.content)
    content-good = and_r ((times (3 * (x.subs * x.each)) component).good x.palette) ((times x.tiles (tile E)).good x.content) behind

    pub sheet_again : sheet_of (job_in E x) (floats x.palette) ≡ x
    sheet_again =
        let w : to_bits binary32 (of_bits binary32 x.weight) ≡ x.weight = weighs_back x.weight sized.narrow sized.weight in
        let p : patterns (floats x.palette) ≡ x.palette = (components_back (3 * (x.subs * x.each)) x.palette palette-good).0 in
        let v : tiles_from (table_of 0 x.content) (all_floats x.content) (all_counts x.content) 0 x.tiles ≡ x.content =
        tiles-same (table_of 0 x.content) (all_floats x.content) (all_counts x.content) x.tiles 0 0 x.content content-good refl refl refl in
        ap₂ {C = Sheet} (λ i j. whole ((x.subs, (x.each, (x.tiles, i))), (j, tiles_from (table_of 0 x.content) (all_floats x.content) (all_counts x.content) 0 x.tiles))) w p
        ∙ ap {B = Sheet} (λ j. whole ((parts x).0, (x.palette, j))) v
