-- Grouping as the code goes, one pixel a turn, on flat lists; the crate group ties it to entries. Definitions only. Assumes nothing.
use Rattle.std.specs.Prelude.{Option, cond, List, ℕ, zero, suc, ◌+◌, ◌*◌, ◌<◌, ◌≤◌, ltb, length, get_or, drop, set, Float}
use Rattle.color.specs.declared.Oklab.{Oklab}
use Rattle.color.specs.Color.{colour_at, put_at}
use Rattle.group_pixels.specs.declared.Rgba.{Rgba}
use Rattle.group_pixels.specs.declared.Rgb.{Rgb}
use Rattle.group_pixels.specs.Pixel.{rgba_at, put_rgba, kept, same_bytes, There}
use Rattle.group_refusal.specs.Refusal.{EntryRoom, entry_room}

-- there is room for pixel k after n entries, and no count is above k, so that one more fits a u32
pub record PixelRoom (k n : ℕ) (bytes : List ℕ) (oklab : List Float) (m : EntryRoom) : Type 0 where
  pub fits : k + 1 < 4294967296
  pub few : n ≤ k
  pub there : There bytes oklab k
  pub bytes_room : 4 * k + 3 < length m.bytes
  pub oklab_room : 3 * k + 2 < length m.oklab
  pub counts_room : k < length m.counts
  pub index_room : k < length m.index
  pub counted : (e : ℕ) → e < n → get_or m.counts e 0 ≤ k

-- the first of n entries with the bytes x, or n
unfoldable pub seek : ℕ → List ℕ → Rgba → ℕ
seek zero s x = 0
seek (suc n) s x = cond (same_bytes (rgba_at s 0) x) 0 (suc (seek n (drop 4 s) x))

-- the number of entries so far, and the memory that holds them
pub record Filled : Type 0 where
  pub entries : ℕ
  pub memory : EntryRoom

abbrev pub filled : ℕ → EntryRoom → Filled
filled n m = record { entries = n; memory = m }

-- pixel k joins entry e
abbrev pub joined : ℕ → ℕ → Filled → Filled
joined k e f =
    filled f.entries
    (entry_room f.memory.bytes f.memory.oklab (set f.memory.counts e (get_or f.memory.counts e 0 + 1)) (set f.memory.index k e))

-- pixel k begins an entry, the next one
abbrev pub begun : ℕ → ℕ → Rgba → Oklab → Filled → Filled
begun k e x o f =
    filled (f.entries + 1)
    (entry_room (put_rgba f.memory.bytes f.entries x) (put_at f.memory.oklab f.entries o) (set f.memory.counts f.entries 1)
    (set f.memory.index k e))

-- it joins entry e if there is one
abbrev pub settled : ℕ → ℕ → Rgba → Oklab → Filled → Filled
settled k e x o f = cond (ltb e f.entries) (joined k e f) (begun k e x o f)

-- the turn of pixel k
unfoldable pub turn : List ℕ → List Float → Option Rgb → ℕ → Filled → Filled
turn bytes oklab cz k f =
    cond (kept cz (rgba_at bytes k))
    (settled k (seek f.entries f.memory.bytes (rgba_at bytes k)) (rgba_at bytes k) (colour_at oklab k) f)
    f
