-- The editions and the tile sizes of jobs name each other; what a sheet is to the other edition's reader; which tile size it asks for. Assumes nothing.
use Prim.Native.Nat.{ℕ}
use mathlib.Core.Path.{◌≡◌, refl, sym, ap, ap₂, ◌∙◌}
use mathlib.Core.Bool.{Bool, true, false, cond, ◌&&◌}
use mathlib.Core.Logic.{◌⊎◌, inl, inr}
use mathlib.Core.List.{List}
use lib.Dec.{eqb, leb}
use lib.ListN.{length, take, drop}
use Rattle.answer.specs.Refusals.{refusal}
use Rattle.bits.specs.Bits.{bits, num}
use borrow.Author.Tests.{le-leb}
use Rattle.format.specs.Format.{got, refused, accepted, ended, read_of}
use Rattle.format.proofs.Files.{ended-accepted}
use Rattle.job.specs.Job.{small_tile, large_tile}
use Rattle.job.specs.Checks.{tile_sized}
use Rattle.job.proofs.Ready.{tile-sizes}
use Rattle.sheet_format.specs.declared.Edition.{Edition}
use Rattle.sheet_format.specs.Sheet.{edition1, edition2, edition_of, fault_of, Sheet, sheet, read_sheet}
use Rattle.sheet_format.specs.Proper.{Proper}
use Rattle.sheet_format.proofs.Editions.{proper}
use Rattle.sheet_format.proofs.Opened.{fails_with_12, its_size}
use Rattle.sheet.proofs.Accepted.{within_limit}
use Rattle.sheet_format.specs.Opened.{size_in}

-- a tile size that there is is its edition's
pub edition-size : (size : ℕ) → tile_sized size ≡ true → (edition_of size).size ≡ size
unfolding edition_of
edition-size size h = by (tile-sizes size h)
  where
    by : (size ≡ small_tile) ⊎ (size ≡ large_tile) → (edition_of size).size ≡ size
    by (inl e) = ap (λ (n : ℕ). (edition_of n).size) e ∙ sym e
    by (inr e) = ap (λ (n : ℕ). (edition_of n).size) e ∙ sym e

-- whatever the number, the edition has a tile size that there is, and is that size's edition
pub edition-sized : (size : ℕ) → tile_sized (edition_of size).size ≡ true
unfolding edition_of tile_sized
edition-sized size = by (eqb size edition2.size)
  where
    by : (b : Bool) → tile_sized (cond b edition2 edition1).size ≡ true
    by true = refl
    by false = refl

pub edition_again : (size : ℕ) → edition_of (edition_of size).size ≡ edition_of size
unfolding edition_of
edition_again size = by (eqb size edition2.size)
  where
    by : (b : Bool) → edition_of (cond b edition2 edition1).size ≡ cond b edition2 edition1
    by true = refl
    by false = refl

-- a file asks for a tile size that there is
pub asked_sized : (s : List ℕ) → tile_sized (size_in s) ≡ true
unfolding size_in tile_sized
asked_sized s = by (leb 36 (length (bits s)) && eqb (num (take 4 (drop 32 (bits s)))) edition2.number)
  where
    by : (b : Bool) → tile_sized (cond b edition2.size edition1.size) ≡ true
    by true = refl
    by false = refl

-- the editions of different sizes have different numbers
pub numbers_differ : (size other : ℕ) → tile_sized size ≡ true → tile_sized other ≡ true → (size ≡ other → ⊥) → eqb (edition_of other).number (edition_of size).number ≡ false
unfolding edition_of
numbers_differ size other h g d = by (tile-sizes size h) (tile-sizes other g)
  where
    by : (size ≡ small_tile) ⊎ (size ≡ large_tile) → (other ≡ small_tile) ⊎ (other ≡ large_tile) → eqb (edition_of other).number (edition_of size).number ≡ false
    by (inl e) (inl f) = absurd (d (e ∙ sym f))
    by (inl e) (inr f) = ap₂ (λ (m n : ℕ). eqb (edition_of m).number (edition_of n).number) f e
    by (inr e) (inl f) = ap₂ (λ (m n : ℕ). eqb (edition_of m).number (edition_of n).number) f e
    by (inr e) (inr f) = absurd (d (e ∙ sym f))

-- ---- bytes that are read as a sheet
module _ (E : Edition) (proper : Proper E) (s : List ℕ) (x : Sheet) (e : read_sheet E s ≡ accepted x) where
  parsed : (r : List Bool) × ((sheet E).parse (bits s) ≡ got x r)
  parsed = let (r, f, short, zeros) = ended-accepted fault_of ((sheet E).parse (bits s)) x (within_limit E s x e).1 in (r, f)

  -- to another edition's reader they are 12
  pub other-edition : (F : Edition) → eqb E.number F.number ≡ false → read_sheet F s ≡ refused (refusal 12 0)
  other-edition F differ =
      let (i, f) = fails_with_12 E proper (bits s) x parsed.0 parsed.1 F differ in
      ap (λ (b : Bool). cond b (read_of fault_of (sheet F) s) (refused (refusal 13 0))) (le-leb (length s) 65536 (within_limit E s x e).0)
      ∙ ap (ended fault_of) f

  -- and they ask for their own edition's tile size
  asks : size_in s ≡ cond (eqb E.number edition2.number) edition2.size edition1.size
  asks = its_size E proper s x parsed.0 parsed.1

pub asks_for_its_size : (size : ℕ) → tile_sized size ≡ true → (s : List ℕ) (x : Sheet) → read_sheet (edition_of size) s ≡ accepted x → size_in s ≡ size
asks_for_its_size size h s x e = asks (edition_of size) (proper size) s x e ∙ by (tile-sizes size h)
  where
    by : (size ≡ small_tile) ⊎ (size ≡ large_tile) → cond (eqb (edition_of size).number edition2.number) edition2.size edition1.size ≡ size
    by (inl f) = unfold edition_of in ap (λ (n : ℕ). cond (eqb (edition_of n).number edition2.number) edition2.size edition1.size) f ∙ sym f
    by (inr f) = unfold edition_of in ap (λ (n : ℕ). cond (eqb (edition_of n).number edition2.number) edition2.size edition1.size) f ∙ sym f
