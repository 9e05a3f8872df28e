-- A sheet whose opening or edition is there and another's; and the tile size that a file asks for by its edition. Definitions only. Assumes nothing.
use Rattle.std.specs.Prelude.{ℕ, Bool, cond, not, ◌&&◌, ◌||◌, List, leb, eqb, length, take, drop}
use Rattle.bits.specs.Bits.{bits, num}
use Rattle.sheet_format.specs.declared.Edition.{Edition}
use Rattle.sheet_format.specs.Sheet.{edition1, edition2, opening}

abbrev pub misopened : Edition → List Bool → Bool
misopened E l = leb 32 (length l) && (not (eqb (num (take 32 l)) opening) || (leb 4 (length (drop 32 l)) && not (eqb (num (take 4 (drop 32 l))) E.number)))

-- that of edition 2 where its number stands behind the opening's bits, else that of edition 1
unfoldable pub size_in : List ℕ → ℕ
size_in s = cond (leb 36 (length (bits s)) && eqb (num (take 4 (drop 32 (bits s)))) edition2.number) edition2.size edition1.size
