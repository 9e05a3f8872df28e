-- The fit sheet as a format, over its edition: what is read and written, in field order. Definitions only. Assumes nothing.
use Rattle.std.specs.Prelude.{ℕ, zero, suc, ◌+◌, ◌*◌, ◌/◌, true, cond, List, leb, eqb, length}
use Rattle.answer.specs.Refusals.{Answered, refusal}
use Rattle.job.specs.Job.{small_tile, large_tile}
use Rattle.format.specs.Format.{Format, indexed, field, checked, mapped, above, both, literal, none, cons, times, counted, Answer, refused, read_of}
use Rattle.format_pattern.specs.Pattern.{small, weighs}
use Rattle.sheet_format.specs.declared.Edition.{Edition}

-- what differs between editions: its number, the pixels of a tile, the bits of a tile's number of colours and of a count less one
abbrev pub edition1 : Edition
edition1 = record { number = 1; size = small_tile; many = 7; each = 6 }

abbrev pub edition2 : Edition
edition2 = record { number = 2; size = large_tile; many = 9; each = 8 }

-- the edition of a tile size that there is
unfoldable pub edition_of : ℕ → Edition
edition_of size = cond (eqb size edition2.size) edition2 edition1

-- the first field, 54 46 49 54; and the bits of opening, edition, sizes and weight
abbrev pub opening : ℕ
opening = 0x5446_4954

abbrev pub head_size : ℕ
head_size = 86

-- one of a colour's three; the indexed values of a sheet
abbrev pub component : Format ℕ
component = indexed (checked 7 small (field 32))

-- a bad component names the colour that it belongs to: the palette's, then those of the tiles; no other fault names an entry
abbrev pub fault_of : ℕ → ℕ → Answered
fault_of number passed = refusal number (cond (eqb number 7) (passed / 3) 0)

-- a colour of a tile: its count, and three components
abbrev pub Colour : Type 0
Colour = ℕ × List ℕ

-- S, C, T and the weight's pattern
abbrev pub Header : Type 0
Header = ℕ × (ℕ × (ℕ × ℕ))

-- from the back: the weight; T before it; C before those; S before those
abbrev pub weight : Format ℕ
weight = checked 4 weighs (field 32)

abbrev pub tiled : Format (ℕ × ℕ)
tiled = both (above 10) (λ t. weight)

abbrev pub coloured : Format (ℕ × (ℕ × ℕ))
coloured = both (above 4) (λ c. tiled)

abbrev pub sized : Format Header
sized = both (above 4) (λ s. coloured)

pub record Sheet : Type 0 where
  pub subs : ℕ
  pub each : ℕ
  pub tiles : ℕ
  pub weight : ℕ
  pub palette : List ℕ
  pub content : List (List Colour)

abbrev pub Parts : Type 0
Parts = Header × (List ℕ × List (List Colour))

abbrev pub whole : Parts → Sheet
whole p = record {
  subs = p.0.0;
  each = p.0.1.0;
  tiles = p.0.1.1.0;
  weight = p.0.1.1.1;
  palette = p.1.0;
  content = p.1.1;
}

abbrev pub parts : Sheet → Parts
parts x = ((x.subs, (x.each, (x.tiles, x.weight))), (x.palette, x.content))

module _ (E : Edition) where
  -- the next colour of a tile whose counts before it add up to sum
  abbrev pub entry : ℕ → Format Colour
  entry sum = both (checked 6 (λ c. leb (sum + c) E.size) (above E.each)) (λ c. times 3 component)

  abbrev pub colours : ℕ → ℕ → Format (List Colour)
  colours zero sum = none
  colours (suc n) sum = cons (entry sum) (λ x. colours n (sum + x.0))

  abbrev pub tile : Format (List Colour)
  tile = counted (checked 5 (λ n. leb n E.size) (field E.many)) (λ n. colours n 0)

  -- the edition, then the sizes; and the opening before them
  abbrev pub dated : Format Header
  dated = literal 4 E.number 12 sized

  abbrev pub header : Format Header
  header = literal 32 opening 12 dated

  -- the palette's n components, then t tiles
  abbrev pub rest : ℕ → ℕ → Format (List ℕ × List (List Colour))
  rest n t = both (times n component) (λ p. times t tile)

  abbrev pub sheet : Format Sheet
  sheet = mapped whole parts (λ x. true) (both header λ h. rest (3 * (h.0 * h.1.0)) h.1.1.0)

  -- the bytes of a sheet, read
  abbrev pub read_sheet : List ℕ → Answer Sheet
  read_sheet s = cond (leb (length s) 65536) (read_of fault_of sheet s) (refused (refusal 13 0))

  -- how many bits: a tile's colour with its count, t tiles of n colours in all, a sheet of s subpalettes of c colours and those tiles
  abbrev pub entry_size : ℕ
  entry_size = E.each + 96

  abbrev pub tiles_size : ℕ → ℕ → ℕ
  tiles_size t n = E.many * t + entry_size * n

  abbrev pub size_of : ℕ → ℕ → ℕ → ℕ → ℕ
  size_of s c t n = head_size + 96 * (s * c) + tiles_size t n
