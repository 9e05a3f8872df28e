-- What grouping refuses, for tiles of at most `size` pixels: 2 for another size than there is or more pixels, 3, then pixel by pixel 7, with the pixel's index, before 14.
-- Definitions only. Assumes nothing.
use Rattle.std.specs.Prelude.{Option, ℕ, ◌*◌, ◌<◌, ◌≡◌, Bool, true, false, ◌&&◌, cond, List, [], ◌∷◌, eqb, leb, length, Float}
use Rattle.answer.specs.Refusals.{Answered, refusal}
use Rattle.answer.specs.Names.{Table}
use Rattle.color.specs.Color.{colour_at}
use Rattle.job.specs.Checks.{tile_sized}
use Rattle.group_pixels.specs.declared.Rgb.{Rgb}
use Rattle.group_pixels.specs.declared.Pixels as declared
use Rattle.group_pixels.specs.Pixel.{rgba_at, kept, in_gamut}
unfoldable pub use Rattle.group_refusal.specs.Faults.{some, first_of, fault}

-- what a call is given to read: p pixels, each four bytes and an Oklab colour, and colour zero where there is one
pub record Pixels : Type 0 where
  pub p : ℕ
  pub bytes : List ℕ
  pub oklab : List Float
  pub zero : Option Rgb

abbrev pub given : ℕ → List ℕ → List Float → Option Rgb → Pixels
given p bytes oklab cz = record { p = p; bytes = bytes; oklab = oklab; zero = cz }

abbrev pub given_in : declared.Pixels → Pixels
given_in q = given q.p q.bytes.now q.oklab.now q.zero

-- the memory that it is lent to write
pub record EntryRoom : Type 0 where
  pub bytes : List ℕ
  pub oklab : List Float
  pub counts : List ℕ
  pub index : List ℕ

abbrev pub entry_room : List ℕ → List Float → List ℕ → List ℕ → EntryRoom
entry_room bytes oklab counts index = record { bytes = bytes; oklab = oklab; counts = counts; index = index }

-- ---- the refusal
-- the lengths that p implies: of the bytes and Oklab given, of the bytes, Oklab, counts and indexes lent
unfoldable pub lengths_fit : ℕ → ℕ → ℕ → ℕ → ℕ → ℕ → ℕ → Bool
lengths_fit p bytes oklab entry_bytes entry_oklab counts index =
    eqb bytes (4 * p) && (eqb oklab (3 * p) && (eqb entry_bytes (4 * p) && (eqb entry_oklab (3 * p) && (eqb counts p && eqb index p))))

-- every slice has the length that p implies
abbrev pub sized : Pixels → EntryRoom → Bool
sized q m = lengths_fit q.p (length q.bytes) (length q.oklab) (length m.bytes) (length m.oklab) (length m.counts) (length m.index)

-- p pixels are no more than the tile size allows, which is one of those that there are
unfoldable pub pixels_fit : ℕ → ℕ → Bool
pixels_fit size p = tile_sized size && leb p size

-- nothing, or the refusal: 2, 3, then pixel by pixel
unfoldable pub refusal_where : ℕ → Pixels → Bool → Answered
refusal_where size q fits = cond (pixels_fit size q.p) (cond fits (first_of (fault q.bytes q.oklab q.zero) 0 q.p) (refusal 3 0)) (refusal 2 0)

abbrev pub group_answer : ℕ → Pixels → EntryRoom → Answered
group_answer size q m = refusal_where size q (sized q m)

-- ---- the index
-- pixel k is kept and out of range, and nothing is wrong with those before it
pub record FirstOut (q : Pixels) (k : ℕ) : Type 0 where
  pub there : k < q.p
  pub is_kept : kept q.zero (rgba_at q.bytes k) ≡ true
  pub out : in_gamut (colour_at q.oklab k) ≡ false
  pub none_before : (i : ℕ) → i < k → (fault q.bytes q.oklab q.zero i).number ≡ 0

-- 7 names such a pixel, and any other number none
abbrev pub pixel_names : Pixels → Table
pixel_names q = (7, FirstOut q) ∷ []
