-- The entries that the kept pixels of a tile make, and what they leave in lent memory. Definitions only. Assumes nothing.
use Rattle.std.specs.Prelude.{Bool, cond, List, [], ◌∷◌, ◌++◌, ℕ, zero, suc, ◌+◌, length, drop, set, Float}
use Rattle.lists.specs.Every.{sum}
use Rattle.color.specs.declared.Oklab.{Oklab}
use Rattle.color.specs.Color.{colour_at}
use Rattle.group_pixels.specs.declared.Rgba.{Rgba}
use Rattle.group_pixels.specs.Pixel.{rgba_at, kept, same_bytes}
use Rattle.group_refusal.specs.Refusal.{Pixels, EntryRoom, entry_room}
use Rattle.group.specs.Turn.{Filled, filled}

-- ---- a pixel
abbrev pub bytes_at : Pixels → ℕ → Rgba
bytes_at q k = rgba_at q.bytes k

abbrev pub keeps : Pixels → ℕ → Bool
keeps q k = kept q.zero (bytes_at q k)

-- ---- the entries, in order of first sight
pub record Entry : Type 0 where
  pub colour : Rgba
  pub oklab : Oklab
  pub count : ℕ

-- an entry is begun with a count of 1
abbrev pub seen_once : Rgba → Oklab → Entry
seen_once x o = record { colour = x; oklab = o; count = 1 }

-- and counts each further pixel
abbrev pub seen_again : Entry → Entry
seen_again e = record { colour = e.colour; oklab = e.oklab; count = e.count + 1 }

-- a kept pixel joins the entry with its four bytes, or becomes a new one at the end
unfoldable pub join : List Entry → Rgba → Oklab → List Entry
join [] x o = seen_once x o ∷ []
join (e ∷ es) x o = cond (same_bytes e.colour x) (seen_again e ∷ es) (e ∷ join es x o)

-- the index of the entry that it joins
unfoldable pub place : List Entry → Rgba → ℕ
place [] x = 0
place (e ∷ es) x = cond (same_bytes e.colour x) 0 (suc (place es x))

-- the entries of the first k pixels
unfoldable pub entries : Pixels → ℕ → List Entry
entries q zero = []
entries q (suc k) = cond (keeps q k) (join (entries q k) (bytes_at q k) (colour_at q.oklab k)) (entries q k)

-- the indexes after the first k pixels: a pixel that is not kept leaves its place as found
unfoldable pub indexes : Pixels → ℕ → List ℕ → List ℕ
indexes q zero found = found
indexes q (suc k) found = cond (keeps q k) (set (indexes q k found) k (place (entries q k) (bytes_at q k))) (indexes q k found)

-- ---- how many: the pixels that entries count, and the kept pixels among the first k (`counts-add-up` in Totals)
unfoldable pub total : List Entry → ℕ
total [] = 0
total (e ∷ es) = e.count + total es

abbrev pub kept_pixels : Pixels → ℕ → ℕ
kept_pixels q k = sum (λ i. cond (keeps q i) 1 0) k

-- ---- entries in lent memory
unfoldable pub bytes_of : List Entry → List ℕ
bytes_of [] = []
bytes_of (e ∷ es) = e.colour.r ∷ e.colour.g ∷ e.colour.b ∷ e.colour.a ∷ bytes_of es

unfoldable pub oklab_of : List Entry → List Float
oklab_of [] = []
oklab_of (e ∷ es) = e.oklab.l ∷ e.oklab.a ∷ e.oklab.b ∷ oklab_of es

unfoldable pub counts_of : List Entry → List ℕ
counts_of [] = []
counts_of (e ∷ es) = e.count ∷ counts_of es

-- what is written stands in front, and the rest stays as found
abbrev pub over : {A : Type 0} → List A → List A → List A
over written found = written ++ drop (length written) found

-- the memory after the first k pixels
unfoldable pub left : Pixels → ℕ → EntryRoom → EntryRoom
left q k m =
    entry_room (over (bytes_of (entries q k)) m.bytes) (over (oklab_of (entries q k)) m.oklab) (over (counts_of (entries q k)) m.counts)
    (indexes q k m.index)

-- the number of entries and the memory after the first k pixels
unfoldable pub fill_to : Pixels → ℕ → EntryRoom → Filled
fill_to q k m = filled (length (entries q k)) (left q k m)
