-- How long the lines are, at most. Assumes nothing.
use mathlib.Core.Path.{◌≡◌, refl, ◌∙◌}
use Prim.Native.Nat.{ℕ, zero, suc, ◌+◌, ◌/◌, ◌%◌, ◌≤◌}
use native.Mathlib.Omega.{arith}
use mathlib.Core.Bool.{Bool, true, false, cond}
use mathlib.Core.List.{List, [], ◌∷◌, ◌++◌}
use lib.Dec.{ltb}
use lib.ListN.{length, length-append}
use Rattle.io.specs.Digits.{last_digits, hex_digit_ascii}
use Rattle.fit_lines.specs.declared.Found.{Found}
use Rattle.fit_lines.specs.Lines.{width_of, decimal, field, last, pair, head_line, tile_line, load_line, blank_line, refused_line, line_end, tiles_word, subpalettes_word, tile_word, sub_word, dist_word, next_word, load_word, space, blank_word, refused_word}

pub length_digits : (b k n : ℕ) → length (last_digits b k n) ≡ k
length_digits b zero n = refl
length_digits b (suc k) n = length-append (last_digits b k (n / b)) (hex_digit_ascii (n % b) ∷ []) ∙ omega (arith, length_digits b k (n / b))

pub width_most : (n : ℕ) → width_of n ≤ 4
unfolding width_of
width_most n = by (ltb n 10) (ltb n 100) (ltb n 1000)
  where
    by : (a b c : Bool) → cond a 1 (cond b 2 (cond c 3 4)) ≤ 4
    by true b c = omega arith
    by false true c = omega arith
    by false false true = omega arith
    by false false false = omega arith

pub length-decimal : (n : ℕ) → length (decimal n) ≡ width_of n
unfolding decimal
length-decimal n = length_digits 10 (width_of n) n

decimal-most : (n : ℕ) → length (decimal n) ≤ 4
decimal-most n = omega (arith, length-decimal n, width_most n)

pub field-most : (w : List ℕ) (n : ℕ) → length (field w n) ≤ length w + 4
field-most w n = omega (arith, length-append w (decimal n), decimal-most n)

last-most : (w : List ℕ) (n : ℕ) → length (last w n) ≤ length w + 5
last-most w n = omega (arith, length-append (field w n) line_end, field-most w n)

pair-most : (w : List ℕ) (n : ℕ) (v : List ℕ) (m : ℕ) → length (pair w n v m) ≤ length w + length v + 9
unfolding pair
pair-most w n v m = omega (arith, length-append (field w n) (last v m), field-most w n, last-most v m)

-- ---- each line
pub head_most : (tiles subs : ℕ) → length (head_line tiles subs) ≤ 28
head_most tiles subs = pair-most tiles_word tiles subpalettes_word subs

pub load_most : (sub n : ℕ) → length (load_line sub n) ≤ 15
load_most sub n = pair-most load_word sub space n

pub blank-most : (n : ℕ) → length (blank_line n) ≤ 11
blank-most n = last-most blank_word n

pub refused-most : (n : ℕ) → length (refused_line n) ≤ 13
refused-most n = last-most refused_word n

pub tile-most : (tile : ℕ) (f : Found) → length (tile_line tile f) ≤ 43
unfolding tile_line
tile-most tile f =
    let a : List ℕ = field tile_word tile in let b : List ℕ = field sub_word f.sub in
    let d : List ℕ = last_digits 16 8 f.dist in let e : List ℕ = last next_word f.next in
    omega (
      arith,
      length-append (a ++ b ++ dist_word ++ d) e,
      length-append (a ++ b ++ dist_word) d,
      length-append (a ++ b) dist_word,
      length-append a b,
      field-most tile_word tile,
      field-most sub_word f.sub,
      length_digits 16 8 f.dist,
      last-most next_word f.next,
    )
