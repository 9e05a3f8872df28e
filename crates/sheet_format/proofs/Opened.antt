-- What stands at the front of bits that are read as a sheet, its opening and its edition's number: so another edition's reader fails with 12, and a program knows
-- which edition it has. Assumes nothing.
use Prim.Native.Nat.{ℕ, ◌+◌, ◌*◌, ◌≤◌}
use native.Mathlib.Omega.{arith}
use mathlib.Core.Path.{◌≡◌, refl, sym, ap, ◌∙◌}
use mathlib.Core.Bool.{Bool, true, false, not, cond, ◌&&◌, ◌||◌, true≢false}
use mathlib.Core.List.{List, ◌++◌, append_assoc}
use lib.Dec.{leb, eqb, lit<}
use lib.ListN.{length, take, drop, length-append, length-drop}
use lib.Seq.{take_at, drop_at}
use borrow.Author.Tests.{eqb-true, eq-eqb, le-leb}
use Rattle.bits.specs.Bits.{bits_of, num, bits}
use Rattle.bits.proofs.Numbers.{num-bits_of, length-bits_of}
use Rattle.format.specs.Format.{Res, fault, got}
use Rattle.sheet_format.specs.declared.Edition.{Edition}
use Rattle.sheet_format.specs.Sheet.{edition1, edition2, opening, Sheet, parts, sized, rest, sheet}
use Rattle.sheet_format.specs.Opened.{misopened, size_in}
use Rattle.sheet_format.specs.Proper.{Proper}
use Rattle.sheet_format.proofs.Exact.{sheet_lawful}
use Rattle.sheet_format.proofs.Faults.{failed, sheet-misopened}

module _ (E : Edition) (proper : Proper E) (l : List Bool) (x : Sheet) (r : List Bool) (e : (sheet E).parse l ≡ got x r) where
  abbrev first : List Bool
  first = bits_of 32 opening

  abbrev second : List Bool
  second = bits_of 4 E.number

  abbrev sizes : List Bool
  sizes = sized.print (parts x).0

  abbrev content : List Bool
  content = (rest E (3 * (x.subs * x.each)) x.tiles).print (x.palette, x.content)

  abbrev behind : List Bool
  behind = sizes ++ (content ++ r)

  front : l ≡ first ++ (second ++ behind)
  front =
      ((sheet_lawful E).back l x r e).0
      ∙ append_assoc (first ++ (second ++ sizes)) content r
      ∙ append_assoc first (second ++ sizes) (content ++ r)
      ∙ ap (λ (k : List Bool). first ++ k) (append_assoc second sizes (content ++ r))

  pub there : 36 ≤ length l
  there = omega (arith, ap length front, length-append first (second ++ behind), length-append second behind, length-bits_of 32 opening, length-bits_of 4 E.number)

  pub its_opening : num (take 32 l) ≡ opening
  its_opening = ap (λ (k : List Bool). num (take 32 k)) front ∙ ap num (take_at first (second ++ behind) 32 (length-bits_of 32 opening)) ∙ num-bits_of 32 opening (lit< tt)

  pub its_number : num (take 4 (drop 32 l)) ≡ E.number
  its_number =
      ap (λ (k : List Bool). num (take 4 (drop 32 k))) front
      ∙ ap (λ (k : List Bool). num (take 4 k)) (drop_at first (second ++ behind) 32 (length-bits_of 32 opening))
      ∙ ap num (take_at second behind 4 (length-bits_of 4 E.number)) ∙ num-bits_of 4 E.number proper.numbered

  -- another edition's reader fails with 12
  module _ (F : Edition) (differ : eqb E.number F.number ≡ false) where
    misopened-there : misopened F l ≡ true
    misopened-there =
        let long : 4 ≤ length (drop 32 l) = omega (arith, length-drop 32 l, there) in
        rw (
          le-leb 32 (length l) (omega (arith, there)),
          eq-eqb (num (take 32 l)) opening its_opening,
          le-leb 4 (length (drop 32 l)) long,
          ap (λ (n : ℕ). eqb n F.number) its_number ∙ differ,
        )

    pub fails_with_12 : (i : ℕ) × ((sheet F).parse l ≡ fault 12 i)
    fails_with_12 = by ((sheet F).parse l) refl (sheet-misopened F l ∙ misopened-there)
      where
        by : (y : Res Sheet) → (sheet F).parse l ≡ y → failed 12 y ≡ true → (i : ℕ) × ((sheet F).parse l ≡ fault 12 i)
        by (fault n i) f g = (i, f ∙ ap (λ (k : ℕ). fault k i) (eqb-true n 12 g))
        by (got y q) f g = absurd (true≢false (sym g))

-- the tile size that it asks for
pub its_size : (E : Edition) (proper : Proper E) (s : List ℕ) (x : Sheet) (r : List Bool) → (sheet E).parse (bits s) ≡ got x r
    → size_in s ≡ cond (eqb E.number edition2.number) edition2.size edition1.size
unfolding size_in
its_size E proper s x r e =
    rw (le-leb 36 (length (bits s)) (there E proper (bits s) x r e), ap (λ (n : ℕ). eqb n edition2.number) (its_number E proper (bits s) x r e)) refl
