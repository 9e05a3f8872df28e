-- Bits of a number and of a list of bytes, most significant first, and fields of them. Definitions only. Assumes nothing.
use Rattle.std.specs.Prelude.{ℕ, zero, suc, ◌+◌, ◌*◌, ◌/◌, ◌%◌, ◌^◌, Bool, true, false, List, [], ◌∷◌, ◌++◌, eqb, take, drop}

abbrev pub odd : ℕ → Bool
odd n = eqb (n % 2) 1

abbrev pub val : Bool → ℕ
val true = 1
val false = 0

-- the k low bits of v, the highest first
abbrev pub bits_of : ℕ → ℕ → List Bool
bits_of zero v = []
bits_of (suc k) v = odd (v / 2 ^ k) ∷ bits_of k v

-- the number that bits spell behind those of acc
abbrev pub num_from : ℕ → List Bool → ℕ
num_from acc [] = acc
num_from acc (b ∷ l) = num_from (acc * 2 + val b) l

abbrev pub num : List Bool → ℕ
num l = num_from 0 l

-- the bits of bytes
abbrev pub bits : List ℕ → List Bool
bits [] = []
bits (x ∷ s) = bits_of 8 x ++ bits s

-- bits with those of v in the k places from p
abbrev pub written : List Bool → ℕ → ℕ → ℕ → List Bool
written l p k v = take p l ++ (bits_of k v ++ drop (p + k) l)

-- what k bits from p spell
abbrev pub field_at : List Bool → ℕ → ℕ → ℕ
field_at l p k = num (take k (drop p l))
