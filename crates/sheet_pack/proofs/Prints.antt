-- The bits of a job's sheet are those that the format prints, and how many they are. Assumes nothing.
use mathlib.Core.Path.{◌≡◌, refl, sym, ap, ap₂, ◌∙◌}
use Prim.Native.Nat.{ℕ, zero, suc, pred, ◌+◌, ◌*◌, ◌≤◌}
use native.Mathlib.Omega.{arith}
use native.Mathlib.Nat.{mul-zero}
use mathlib.Core.Bool.{Bool}
use mathlib.Core.List.{List, [], ◌∷◌, ◌++◌, append_assoc}
use lib.ListN.{length, take, drop, length-append, length-map, length-drop}
use lib.Seq.{length-take-le}
use lib.Ieee.{Float, binary32, to_bits}
use Rattle.bits.specs.Bits.{bits_of}
use Rattle.bits.proofs.Numbers.{length-bits_of}
use Rattle.lists.specs.Every.{sum}
use Rattle.format.specs.Format.{times}
use Rattle.job.specs.Job.{Job, size_of, counts_part, colours_part}
use Rattle.job.specs.Gives.{Ready, Lent}
use Rattle.job.proofs.Tiles.{counts-length, tile-three}
use Rattle.sheet_format.specs.declared.Edition.{Edition}
use Rattle.sheet_format.specs.Sheet.{component, Colour, colours, tile, sheet, entry_size, tiles_size}
use Rattle.sheet_format.specs.Sheet as form
use Rattle.sheet_format.specs.Lists.{patterns}
use Rattle.sheet_pack.specs.Packed.{colours_of, tiles_from, sheet_of, words, colours_bits, tile_bits, tiles_bits, head_bits, sheet_bits}

-- ---- lengths
pub length-words : (v : List ℕ) → length (words v) ≡ 32 * length v
length-words [] = refl
length-words (x ∷ v) = length-append (bits_of 32 x) (words v) ∙ omega (arith, length-bits_of 32 x, length-words v)

pub length-colours_of : (cs : List ℕ) (xs : List Float) → length (colours_of cs xs) ≡ length cs
length-colours_of [] xs = refl
length-colours_of (c ∷ cs) xs = ap suc (length-colours_of cs (drop 3 xs))

pub three : (xs : List Float) → 3 ≤ length xs → length (patterns (take 3 xs)) ≡ 3
three xs h = length-map (take 3 xs) (to_bits binary32) ∙ length-take-le 3 xs h

pub length-colours_bits : (E : Edition) (cs : List ℕ) (xs : List Float) → length xs ≡ 3 * length cs → length (colours_bits E (colours_of cs xs)) ≡ entry_size E * length cs
length-colours_bits E [] xs e = sym (mul-zero (entry_size E))
length-colours_bits E (c ∷ cs) xs e =
    let w : List Bool = words (patterns (take 3 xs)) in
    let r : List Bool = colours_bits E (colours_of cs (drop 3 xs)) in
    length-append (bits_of E.each (pred c)) (w ++ r)
    ∙ omega (
      arith,
      length-bits_of E.each (pred c),
      length-append w r,
      length-words (patterns (take 3 xs)),
      three xs (omega arith),
      length-colours_bits E cs (drop 3 xs) (length-drop 3 xs ∙ omega arith),
    )

-- ---- what the format prints
words-print : (n : ℕ) (v : List ℕ) → length v ≡ n → (times n component).print v ≡ words v
words-print zero [] e = refl
words-print zero (x ∷ v) e = absurd (omega arith)
words-print (suc n) [] e = absurd (omega arith)
words-print (suc n) (x ∷ v) e = ap (λ (l : List Bool). bits_of 32 x ++ l) (words-print n v (omega arith))

module _ (E : Edition) where
  colours-print : (cs : List ℕ) (xs : List Float) (n done : ℕ) → length cs ≡ n → length xs ≡ 3 * n → (colours E n done).print (colours_of cs xs) ≡ colours_bits E (colours_of cs xs)
  colours-print [] xs zero done e f = refl
  colours-print [] xs (suc n) done e f = absurd (omega arith)
  colours-print (c ∷ cs) xs zero done e f = absurd (omega arith)
  colours-print (c ∷ cs) xs (suc n) done e f =
      ap₂ (λ (x y : List Bool). bits_of E.each (pred c) ++ x ++ y)
      (words-print 3 (patterns (take 3 xs)) (three xs (omega arith)))
      (colours-print cs (drop 3 xs) n (done + c) (omega arith) (length-drop 3 xs ∙ omega arith))
      ∙ append_assoc (bits_of E.each (pred c)) (words (patterns (take 3 xs))) (colours_bits E (colours_of cs (drop 3 xs)))

  tile-print : (cs : List ℕ) (xs : List Float) → length xs ≡ 3 * length cs → (tile E).print (colours_of cs xs) ≡ tile_bits E (colours_of cs xs)
  tile-print cs xs e =
      ap (λ (l : List Bool). bits_of E.many (length (colours_of cs xs)) ++ l)
      (colours-print cs xs (length (colours_of cs xs)) 0 (sym (length-colours_of cs xs)) (e ∙ ap (λ (n : ℕ). 3 * n) (sym (length-colours_of cs xs))))

-- ---- a job that passed its checks
module _ (J : Job) (R : Ready J) where
  tiles-print : (E : Edition) (m i : ℕ) → i + m ≡ J.T
      → (times m (tile E)).print (tiles_from J.tiles J.colours J.counts i m) ≡ tiles_bits E (tiles_from J.tiles J.colours J.counts i m)
  tiles-print E zero i e = refl
  tiles-print E (suc m) i e =
      ap₂ (λ (x y : List Bool). x ++ y)
      (tile-print E (counts_part J.tiles J.counts i) (colours_part J.tiles J.colours i) (tile-three J R i (omega arith)))
      (tiles-print E m (suc i) (omega arith))

  -- those from tile i on, with the bits of the colours before it
  tiles_size_lem : (E : Edition) (m i : ℕ) → i + m ≡ J.T
      → length (tiles_bits E (tiles_from J.tiles J.colours J.counts i m)) + entry_size E * sum (size_of J.tiles) i ≡ tiles_size E m (length J.counts)
  unfolding sum
  tiles_size_lem E zero i e =
      let z : i ≡ J.T = omega arith in
      let all : sum (size_of J.tiles) i ≡ length J.counts = ap (sum (size_of J.tiles)) z ∙ R.whole in
      rw all (omega arith)
  tiles_size_lem E (suc m) i e =
      let cs : List ℕ = counts_part J.tiles J.counts i in
      let xs : List Float = colours_part J.tiles J.colours i in
      let x : List Colour = colours_of cs xs in
      let whole : sum (size_of J.tiles) (suc i) ≡ sum (size_of J.tiles) i + length cs = omega (arith, counts-length J R i (omega arith)) in
      let more : entry_size E * sum (size_of J.tiles) (suc i) ≡ entry_size E * (sum (size_of J.tiles) i + length cs) = ap (λ (n : ℕ). entry_size E * n) whole in
      let r : List Bool = tiles_bits E (tiles_from J.tiles J.colours J.counts (suc i) m) in
      omega (
        arith,
        length-append (bits_of E.many (length x) ++ colours_bits E x) r,
        length-append (bits_of E.many (length x)) (colours_bits E x),
        length-bits_of E.many (length x),
        length-colours_bits E cs xs (tile-three J R i (omega arith)),
        more,
        tiles_size_lem E m (suc i) (omega arith),
      )

  pub content-size : (E : Edition) → length (tiles_bits E (tiles_from J.tiles J.colours J.counts 0 J.T)) ≡ tiles_size E J.T (length J.counts)
  unfolding sum
  content-size E = omega (arith, tiles_size_lem E J.T 0 (omega arith))

  module _ (palette : List Float) (L : Lent J.S J.C palette) where
    pub palette-size : length (words (patterns palette)) ≡ 96 * (J.S * J.C)
    palette-size = length-words (patterns palette) ∙ omega (arith, length-map palette (to_bits binary32), L.room)

    pub head_long : (E : Edition) → length (head_bits E J.S J.C J.T (to_bits binary32 J.weight)) ≡ 86
    unfolding head_bits
    head_long E = refl

    pub sheet-size : (E : Edition) → length (sheet_bits E (sheet_of J palette)) ≡ form.size_of E J.S J.C J.T (length J.counts)
    sheet-size E =
        length-append (head_bits E J.S J.C J.T (to_bits binary32 J.weight)) (words (patterns palette) ++ tiles_bits E (tiles_from J.tiles J.colours J.counts 0 J.T))
        ∙ omega (arith, head_long E, length-append (words (patterns palette)) (tiles_bits E (tiles_from J.tiles J.colours J.counts 0 J.T)), palette-size, content-size E)

    pub sheet-print : (E : Edition) → (sheet E).print (sheet_of J palette) ≡ sheet_bits E (sheet_of J palette)
    unfolding head_bits
    sheet-print E =
        ap₂ (λ (x y : List Bool). head_bits E J.S J.C J.T (to_bits binary32 J.weight) ++ (x ++ y))
        (words-print (3 * (J.S * J.C)) (patterns palette) (length-map palette (to_bits binary32) ∙ L.room))
        (tiles-print E J.T 0 (omega arith))
