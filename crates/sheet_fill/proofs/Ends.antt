-- What is read lies within the bytes: where components, colours and tiles end. Assumes nothing.
use mathlib.Core.Path.{◌≡◌, refl, ap}
use Prim.Native.Nat.{ℕ, zero, suc, ◌+◌, ◌*◌, ◌≤◌}
use native.Mathlib.Omega.{arith}
use mathlib.Core.List.{List}
use lib.ListN.{length}
use Rattle.bits.specs.Bits.{bits, field_at}
use Rattle.format.specs.Format.{times}
use Rattle.sheet_format.specs.declared.Edition.{Edition}
use Rattle.sheet_format.specs.Sheet.{component, colours, tile, entry_size, tiles_size}
use Rattle.sheet_format.specs.Lists.{total}
use Rattle.sheet_fill.specs.Fill.{Reads, list_at}
use Rattle.sheet_fill.proofs.Components.{turn}
use Rattle.sheet_fill.proofs.Colours.{colour-turn}
use Rattle.sheet_fill.proofs.Tiles.{tile-turn}

pub components_end : (n : ℕ) (s : List ℕ) (q : ℕ) → q ≤ 8 * length s → Reads (times n component) s q → q + n * 32 ≤ 8 * length s
components_end zero s q h r = omega arith
components_end (suc n) s q h r =
    let t = turn s q n r in
    omega (arith, components_end n s (q + 32) t.room t.left)

module _ (E : Edition) where
  colours_end : (n sum : ℕ) (s : List ℕ) (q : ℕ) → q ≤ 8 * length s → Reads (colours E n sum) s q → q + entry_size E * n ≤ 8 * length s
  colours_end zero sum s q h r = omega arith
  colours_end (suc n) sum s q h r =
      let t = colour-turn E s q n sum r in
      let room = t.room in
      let a = components_end 3 s (q + E.each) (omega arith) t.parts in
      omega (arith, colours_end n (sum + (field_at (bits s) q E.each + 1)) s (q + entry_size E) (omega arith) t.left)

  pub tiles_end : (m : ℕ) (s : List ℕ) (q : ℕ) → q ≤ 8 * length s → Reads (times m (tile E)) s q → q + tiles_size E m (total (list_at (times m (tile E)) s q)) ≤ 8 * length s
  tiles_end zero s q h r = omega arith
  tiles_end (suc m) s q h r =
      let n : ℕ = field_at (bits s) q E.many in
      let t = tile-turn E s q m n refl r in
      let room = t.room in
      let a = colours_end n 0 s (q + E.many) (omega arith) t.here in
      let b = tiles_end m s (q + (E.many + entry_size E * n)) (omega arith) t.left in
      let all : total (list_at (times (suc m) (tile E)) s q) ≡ n + total (list_at (times m (tile E)) s (q + (E.many + entry_size E * n))) = omega (arith, ap total t.list, t.long) in
      rw all (omega arith)
