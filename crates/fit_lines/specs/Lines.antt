-- The lines that `fit` prints, as bytes. Definitions only. Assumes nothing.
use Rattle.std.specs.Prelude.{ℕ, ◌+◌, ◌≡◌, cond, List, [], ◌∷◌, ◌++◌, ltb, length}
use Rattle.std.proofs.lemmas.List.Edits.{sets}
use Rattle.io.specs.Digits.{last_digits}
use Rattle.fit_lines.specs.declared.Found.{Found}

-- x stands in the places from `at` up to `next`, and all else as before
pub record Stored (before after : List ℕ) (at next : ℕ) (x : List ℕ) : Type 0 where
  pub text : after ≡ sets before at x
  pub place : next ≡ at + length x

-- the decimal digits of a number below 10,000
unfoldable pub width_of : ℕ → ℕ
width_of n = cond (ltb n 10) 1 (cond (ltb n 100) 2 (cond (ltb n 1000) 3 4))

unfoldable pub decimal : ℕ → List ℕ
decimal n = last_digits 10 (width_of n) n

-- ---- words, in ASCII
-- "tiles "
abbrev pub tiles_word : List ℕ
tiles_word = 116 ∷ 105 ∷ 108 ∷ 101 ∷ 115 ∷ 32 ∷ []

-- " subpalettes "
abbrev pub subpalettes_word : List ℕ
subpalettes_word = 32 ∷ 115 ∷ 117 ∷ 98 ∷ 112 ∷ 97 ∷ 108 ∷ 101 ∷ 116 ∷ 116 ∷ 101 ∷ 115 ∷ 32 ∷ []

-- "tile "
abbrev pub tile_word : List ℕ
tile_word = 116 ∷ 105 ∷ 108 ∷ 101 ∷ 32 ∷ []

-- " sub "
abbrev pub sub_word : List ℕ
sub_word = 32 ∷ 115 ∷ 117 ∷ 98 ∷ 32 ∷ []

-- " dist "
abbrev pub dist_word : List ℕ
dist_word = 32 ∷ 100 ∷ 105 ∷ 115 ∷ 116 ∷ 32 ∷ []

-- " next "
abbrev pub next_word : List ℕ
next_word = 32 ∷ 110 ∷ 101 ∷ 120 ∷ 116 ∷ 32 ∷ []

-- "load "
abbrev pub load_word : List ℕ
load_word = 108 ∷ 111 ∷ 97 ∷ 100 ∷ 32 ∷ []

-- "blank "
abbrev pub blank_word : List ℕ
blank_word = 98 ∷ 108 ∷ 97 ∷ 110 ∷ 107 ∷ 32 ∷ []

-- " "
abbrev pub space : List ℕ
space = 32 ∷ []

-- "refused "
abbrev pub refused_word : List ℕ
refused_word = 114 ∷ 101 ∷ 102 ∷ 117 ∷ 115 ∷ 101 ∷ 100 ∷ 32 ∷ []

-- a line's end
abbrev pub line_end : List ℕ
line_end = 10 ∷ []

-- ---- fields and lines
-- a word, then a number
abbrev pub field : List ℕ → ℕ → List ℕ
field word n = word ++ decimal n

-- the last field of a line
abbrev pub last : List ℕ → ℕ → List ℕ
last word n = field word n ++ line_end

-- a line of two fields
unfoldable pub pair : List ℕ → ℕ → List ℕ → ℕ → List ℕ
pair word n more m = field word n ++ last more m

-- "tiles T subpalettes S"
abbrev pub head_line : ℕ → ℕ → List ℕ
head_line tiles subs = pair tiles_word tiles subpalettes_word subs

-- "tile T sub S dist D next K", the distance's pattern in eight hexadecimal digits
unfoldable pub tile_line : ℕ → Found → List ℕ
tile_line tile found = field tile_word tile ++ field sub_word found.sub ++ dist_word ++ last_digits 16 8 found.dist ++ last next_word found.next

-- "load S N"
abbrev pub load_line : ℕ → ℕ → List ℕ
load_line sub n = pair load_word sub space n

-- "blank N"
abbrev pub blank_line : ℕ → List ℕ
blank_line n = last blank_word n

-- "refused N"
abbrev pub refused_line : ℕ → List ℕ
refused_line n = last refused_word n
