-- The loop that fills all tiles: what one turn reads, and that what is left to store gives the whole. Assumes nothing.
use mathlib.Core.Path.{◌≡◌, sym, ap, ap₂, ◌∙◌, subst}
use Prim.Native.Nat.{ℕ, suc, ◌+◌, ◌-◌, ◌*◌, ◌≤◌, ◌<◌}
use native.Mathlib.Omega.{arith}
use mathlib.Core.Bool.{Bool, cond}
use mathlib.Core.List.{List, ◌∷◌}
use lib.Dec.{leb, leb→le}
use lib.ListN.{length, drop, set, length-map}
use lib.Seq.{sets}
use lib.Ieee.{Float}
use Rattle.bits.specs.Bits.{bits, field_at}
use Rattle.bits.proofs.Bytes.{length-bits}
use Rattle.bits.proofs.Fields.{sets_append}
use Rattle.format.specs.Format.{Res, fault, got, next, past, Format, field, checked, times}
use Rattle.format.proofs.Lawful.{cond-got, same-value, same_rest, next-got, past-got}
use Rattle.format.proofs.Fixed.{field_says, field_fixed, checked_fixed}
use Rattle.sheet_format.specs.declared.Edition.{Edition}
use Rattle.sheet_format.specs.Sheet.{Colour, colours, tile, entry_size}
use Rattle.sheet_format.specs.Proper.{Proper}
use Rattle.sheet_format.proofs.Editions.{tiles-most}
use Rattle.sheet_format.specs.Lists.{tile_counts, tile_floats, all_counts, all_floats, table_of, total}
use Rattle.sheet_fill.specs.Fill.{Reads, list_of, list_at}
use Rattle.sheet_fill.proofs.Colours.{colours_fixed, colours-long}

module _ (E : Edition) where
  abbrev number : Format ℕ
  number = checked 5 (λ n. leb n E.size) (field E.many)

  number_says : (s : List ℕ) (q n : ℕ) (r : List Bool) → number.parse (drop q (bits s)) ≡ got n r → (E.many ≤ 8 * length s - q) × (n ≡ field_at (bits s) q E.many) × (n ≤ E.size)
  number_says s q n r e =
      let (v, w, i, j) = next-got ((field E.many).parse (drop q (bits s))) (λ n r. cond (leb n E.size) (got n r) (fault 5 0)) n r e in
      let f = field_says E.many (bits s) q v w i in
      let m = cond-got (leb v E.size) (got v w) 5 n r j in
      let z : v ≡ n = same-value v n w r m.1 in
      (omega (arith, f.0, length-bits s), sym z ∙ f.1, omega (arith, leb→le v E.size m.0))

  -- the tile at bit q, and the tiles behind it
  pub record TileTurn (s : List ℕ) (q m n : ℕ) : Type 0 where
    pub room : E.many ≤ 8 * length s - q
    pub few : n ≤ E.size
    pub here : Reads (colours E n 0) s (q + E.many)
    pub left : Reads (times m (tile E)) s (q + (E.many + entry_size E * n))
    pub list : list_at (times (suc m) (tile E)) s q ≡ list_at (colours E n 0) s (q + E.many) ∷ list_at (times m (tile E)) s (q + (E.many + entry_size E * n))
    pub long : length (list_at (colours E n 0) s (q + E.many)) ≡ n
    pub thrice : length (tile_floats (list_at (colours E n 0) s (q + E.many))) ≡ 3 * n

  pub tile-turn : (s : List ℕ) (q m n : ℕ) → n ≡ field_at (bits s) q E.many → Reads (times (suc m) (tile E)) s q → TileTurn s q m n
  tile-turn s q m n en (vs, r, e) =
      let (x, o, u, v) = next-got ((tile E).parse (drop q (bits s))) (λ a r. next (past ((tile E).counts a) ((times m (tile E)).parse r)) (λ s q. got (a ∷ s) q)) vs r e in
      let (t, i, w, y) = past-got ((tile E).counts x) ((times m (tile E)).parse o) (λ s q. got (x ∷ s) q) vs r v in
      let (k, j, a, b) = next-got (number.parse (drop q (bits s))) (λ n r. (colours E n 0).parse r) x o u in
      let c = number_says s q k j a in
      let d : k ≡ n = c.1 ∙ sym en in
      let f : (colours E n 0).parse (drop (q + E.many) (bits s)) ≡ got x o =
      ap₂ (λ (z : ℕ) (l : List Bool). (colours E z 0).parse l) (sym d) (sym (checked_fixed 5 (λ n. leb n E.size) (field E.many) E.many (field_fixed E.many) (bits s) q k j a)) ∙ b in
      let z : q + E.many + entry_size E * n ≡ q + (E.many + entry_size E * n) = omega arith in
      let g : o ≡ drop (q + (E.many + entry_size E * n)) (bits s) = colours_fixed E n 0 (bits s) (q + E.many) x o f ∙ ap (λ (i : ℕ). drop i (bits s)) z in
      let h : (times m (tile E)).parse (drop (q + (E.many + entry_size E * n)) (bits s)) ≡ got t r = ap (times m (tile E)).parse (sym g) ∙ w ∙ ap (got t) (same_rest (x ∷ t) vs i r y) in
      let l = colours-long E n 0 (bits s) (q + E.many) x o f in
      record {
        room = c.0;
        few = omega (arith, c.2);
        here = (x, o, f);
        left = (t, r, h);
        list = ap list_of e ∙ sym (same-value (x ∷ t) vs i r y) ∙ ap₂ {C = List (List Colour)} (λ i j. i ∷ j) (sym (ap list_of f)) (sym (ap list_of h));
        long = ap (λ (o : Res (List Colour)). length (list_of o)) f ∙ l.0;
        thrice = ap (λ (o : Res (List Colour)). length (tile_floats (list_of o))) f ∙ l.1;
      }

  -- a tile takes few bits
  pub tile-most : Proper E → {s : List ℕ} {q m n : ℕ} → TileTurn s q m n → E.many + entry_size E * n ≤ 26633
  tile-most proper {n = n} turn = omega (arith, tiles-most E proper 1 n, turn.few, proper.few)

  -- the loop's invariant: what is left to store gives the whole, and has room
  pub record Tiling (s : List ℕ) (m q k j : ℕ) (t c : List ℕ) (f : List Float) (gt gc : List ℕ) (gf : List Float) (all : ℕ) : Type 0 where
    pub reads : Reads (times m (tile E)) s q
    pub room : k + total (list_at (times m (tile E)) s q) ≡ all
    pub table : sets t j (table_of k (list_at (times m (tile E)) s q)) ≡ gt
    pub counts : sets c k (all_counts (list_at (times m (tile E)) s q)) ≡ gc
    pub parts : sets f (3 * k) (all_floats (list_at (times m (tile E)) s q)) ≡ gf

  module _ {s : List ℕ} (m i : ℕ) {q k : ℕ} {t c : List ℕ} {f : List Float} {gt gc : List ℕ} {gf : List Float} {all : ℕ} (F : Tiling s (m - i) q k (2 * i) t c f gt gc gf all) where
    pub tiling_end : m ≤ i → (t ≡ gt) × (c ≡ gc) × (f ≡ gf)
    tiling_end h =
        let o : m - i ≡ 0 = omega arith in (
          sym (ap (λ (z : ℕ). sets t (2 * i) (table_of k (list_at (times z (tile E)) s q))) o) ∙ F.table,
          sym (ap (λ (z : ℕ). sets c k (all_counts (list_at (times z (tile E)) s q))) o) ∙ F.counts,
          sym (ap (λ (z : ℕ). sets f (3 * k) (all_floats (list_at (times z (tile E)) s q))) o) ∙ F.parts,
        )

    module _ (h : i < m) (n : ℕ) (en : n ≡ field_at (bits s) q E.many) where
      one_more : m - i ≡ suc (m - (i + 1))
      one_more = omega arith

      pub tiling_turn : TileTurn s q (m - (i + 1)) n
      tiling_turn = tile-turn s q (m - (i + 1)) n en (subst (λ (z : ℕ). Reads (times z (tile E)) s q) one_more F.reads)

      this : List Colour
      this = list_at (colours E n 0) s (q + E.many)

      more : List (List Colour)
      more = list_at (times (m - (i + 1)) (tile E)) s (q + (E.many + entry_size E * n))

      split : list_at (times (m - i) (tile E)) s q ≡ this ∷ more
      unfolding this more
      split = ap (λ (z : ℕ). list_at (times z (tile E)) s q) one_more ∙ tiling_turn.list

      this_long : length this ≡ n
      unfolding this
      this_long = tiling_turn.long

      tiling_room : k + n + total more ≡ all
      tiling_room = omega (arith, this_long, ap total split, F.room)

      pub tiling_fits : k + n ≤ all
      tiling_fits = omega (arith, tiling_room)

      pub tiling_again : (d : List ℕ) (g : List Float) → d ≡ sets c k (tile_counts (list_at (colours E n 0) s (q + E.many))) → g ≡ sets f (3 * k) (tile_floats (list_at (colours E n 0) s (q + E.many)))
          → Tiling s (m - (i + 1)) (q + (E.many + entry_size E * n)) (k + n) (2 * (i + 1)) (set (set t (2 * i) k) (2 * i + 1) n) d g gt gc gf all
      unfolding this more
      tiling_again d g ed eg =
          let a : 2 * (i + 1) ≡ suc (suc (2 * i)) = omega arith in
          let b : 2 * i + 1 ≡ suc (2 * i) = omega arith in
          let z : 3 * k + 3 * n ≡ 3 * (k + n) = omega arith in
          record {
            reads = tiling_turn.left;
            room = tiling_room;
            table =
                ap₂ (λ (x y : ℕ). sets (set (set t (2 * i) k) x n) y (table_of (k + n) more)) b a
                ∙ ap (λ (x : ℕ). sets (set (set t (2 * i) k) (suc (2 * i)) x) (suc (suc (2 * i))) (table_of (k + x) more)) (sym this_long)
                ∙ sym (ap (λ (v : List (List Colour)). sets t (2 * i) (table_of k v)) split) ∙ F.table;
            counts =
                ap₂ (λ (x : List ℕ) (y : ℕ). sets x (k + y) (all_counts more)) ed (sym this_long ∙ sym (length-map this (λ x. x.0)))
                ∙ sym (sets_append (tile_counts this) (all_counts more) c k)
                ∙ sym (ap (λ (v : List (List Colour)). sets c k (all_counts v)) split) ∙ F.counts;
            parts =
                ap₂ (λ (x : List Float) (y : ℕ). sets x y (all_floats more)) eg (sym z ∙ ap (λ (y : ℕ). 3 * k + y) (sym tiling_turn.thrice))
                ∙ sym (sets_append (tile_floats this) (all_floats more) f (3 * k))
                ∙ sym (ap (λ (v : List (List Colour)). sets f (3 * k) (all_floats v)) split) ∙ F.parts;
          }
