-- The rules that a job is held to, in their order. Definitions only. Assumes nothing.
use Rattle.std.specs.Prelude.{ℕ, zero, suc, ◌+◌, ◌*◌, ◌/◌, Bool, cond, ◌&&◌, ◌||◌, List, [], ◌∷◌, ◌++◌, eqb, ltb, leb, length, get_or, Float, Option, Some, None}
use Rattle.std.specs.Float.{nan}
use Rattle.std.specs.Float.Ieee.{lt, le, neg}
use Rattle.lists.specs.Every.{every, sum}
use Rattle.answer.specs.Refusals.{Answered}
use Rattle.answer.specs.Rules.{Rule, rule_at, rule, answer}
use Rattle.job.specs.Job.{Job, small_tile, large_tile, first_of, size_of, counts_part, most_subpalettes, most_colours, most_tiles, most_tile_colours, most_samples, nought, two, sixteen}

-- ---- numbers
-- the tile sizes that there are
unfoldable pub tile_sized : ℕ → Bool
tile_sized size = eqb size small_tile || eqb size large_tile

unfoldable pub among : ℕ → ℕ → Bool
among x most = leb 1 x && leb x most

-- |x| ≤ m, false for a NaN
unfoldable pub within : Float → Float → Bool
within m x = le x m && le (neg m) x

unfoldable pub weight_fits : Float → Bool
weight_fits w = lt nought w && le w sixteen

-- ---- the tile table
-- a tile of n colours from f on begins where those before it end, and ends among the colours lent
unfoldable pub tile_test : ℕ → ℕ → ℕ → ℕ → ℕ → Bool
tile_test size total at f n = eqb f at && (leb n size && leb (at + n) total)

unfoldable pub tile_fits : ℕ → ℕ → List ℕ → ℕ → Bool
tile_fits size total tiles t = tile_test size total (sum (size_of tiles) t) (first_of tiles t) (size_of tiles t)

unfoldable pub tiles_fit : ℕ → ℕ → List ℕ → ℕ → Bool
tiles_fit size total tiles t = every (tile_fits size total tiles) t && eqb (sum (size_of tiles) t) total

-- ---- counts
-- a count is at least 1, and with those before it the tile's size at most
unfoldable pub count_test : ℕ → ℕ → ℕ → Bool
count_test size before n = leb 1 n && leb (before + n) size

unfoldable pub count_fits : ℕ → List ℕ → ℕ → Bool
count_fits size cs k = count_test size (sum (λ i. get_or cs i 0) k) (get_or cs k 0)

-- the counts of one tile
unfoldable pub part_fits : ℕ → List ℕ → Bool
part_fits size cs = every (count_fits size cs) (length cs)

unfoldable pub tile_counts_fit : ℕ → List ℕ → List ℕ → ℕ → Bool
tile_counts_fit size tiles counts t = part_fits size (counts_part tiles counts t)

unfoldable pub counts_fit : ℕ → List ℕ → List ℕ → ℕ → Bool
counts_fit size tiles counts t = every (tile_counts_fit size tiles counts) t

-- ---- components of magnitude m at most: the first that is not, and whether there is none
-- the first index below n at which f is false; n where there is none
unfoldable pub first_not : (ℕ → Bool) → ℕ → ℕ
first_not f zero = 0
first_not f (suc n) = cond (every f n) (cond (f n) (suc n) n) (first_not f n)

unfoldable pub component_fits : Float → List Float → ℕ → Bool
component_fits m xs i = within m (get_or xs i nan)

unfoldable pub first_bad : Float → List Float → ℕ
first_bad m xs = first_not (component_fits m xs) (length xs)

abbrev pub components_fit : Float → List Float → Bool
components_fit m xs = eqb (first_bad m xs) (length xs)

-- colours of three components each, none of which may pass the limit: the first colour that has one is named, counted from `base`
abbrev pub colour_rule : ℕ → ℕ → Float → List Float → Rule
colour_rule number base m xs = rule_at number (base + first_bad m xs / 3) (components_fit m xs)

-- that colour, or none
abbrev pub bad_colour_from : ℕ → Float → List Float → Option ℕ
bad_colour_from base m xs = cond (components_fit m xs) None (Some (base + first_bad m xs / 3))

-- ---- samples: a tile, and a colour by its place in that tile
unfoldable pub sample_test : List ℕ → ℕ → ℕ → ℕ → Bool
sample_test tiles t tile place = ltb tile t && ltb place (size_of tiles tile)

unfoldable pub sample_fits : List ℕ → ℕ → List ℕ → ℕ → Bool
sample_fits tiles t samples i = sample_test tiles t (get_or samples (2 * i) 0) (get_or samples (2 * i + 1) 0)

unfoldable pub samples_fit : List ℕ → ℕ → List ℕ → ℕ → Bool
samples_fit tiles t samples n = every (sample_fits tiles t samples) n

-- ---- the rules in their order. A number has a line for each of its tests
abbrev pub size_rules : ℕ → ℕ → ℕ → ℕ → List Rule
size_rules size s c t = rule 2 (tile_sized size) ∷ rule 2 (among s most_subpalettes) ∷ rule 2 (among c most_colours) ∷ rule 2 (among t most_tiles) ∷ []

abbrev pub shape_rules : ℕ → List ℕ → List Float → List ℕ → List Rule
shape_rules t tiles colours counts = rule 3 (eqb (length tiles) (2 * t)) ∷ rule 3 (eqb (length colours) (3 * length counts)) ∷ []

abbrev pub table_rules : ℕ → ℕ → Float → List ℕ → List ℕ → List Rule
table_rules size t weight tiles counts =
    rule 4 (weight_fits weight)
    ∷ rule 5 (leb (length counts) most_tile_colours)
    ∷ rule 5 (tiles_fit size (length counts) tiles t)
    ∷ rule 6 (counts_fit size tiles counts t) ∷ []

-- 2 and 3 of a call without samples, whose palette has `palette` numbers; `room` says that the call's own lent slices have their lengths
abbrev pub form_rules : ℕ → ℕ → ℕ → ℕ → List ℕ → List Float → List ℕ → ℕ → Bool → List Rule
form_rules size s c t tiles colours counts palette room =
    size_rules size s c t ++ (shape_rules t tiles colours counts ++ (rule 3 (eqb palette (3 * (s * c))) ∷ rule 3 room ∷ []))

-- 2, 3 and 1 of a call with n samples, for which `samples` numbers are lent
abbrev pub sampled_form_rules : ℕ → ℕ → ℕ → ℕ → ℕ → List ℕ → List Float → List ℕ → ℕ → Bool → List Rule
sampled_form_rules size s c t n tiles colours counts samples room =
    size_rules size s c t
    ++ (rule 2 (leb n most_samples)
    ∷ (shape_rules t tiles colours counts ++ (rule 3 (eqb samples (2 * n)) ∷ rule 3 room ∷ rule 1 (leb 1 n) ∷ [])))

-- 7 of a call without samples: the palette's `cells` colours are among the job's, and come before those of the tiles
abbrev pub bound_rules : ℕ → List Float → List Float → List Rule
bound_rules cells palette colours = colour_rule 7 0 two palette ∷ colour_rule 7 cells two colours ∷ []

-- 7 and 8 of a call with samples
abbrev pub place_rules : ℕ → List ℕ → List Float → ℕ → List ℕ → List Rule
place_rules t tiles colours n samples = colour_rule 7 0 two colours ∷ rule 8 (samples_fit tiles t samples n) ∷ []

-- ---- the rules of a call
abbrev pub tables : Job → List Rule
tables J = table_rules J.size J.T J.weight J.tiles J.counts

abbrev pub plain_rules : Job → List Float → Bool → List Rule
plain_rules J palette room =
    form_rules J.size J.S J.C J.T J.tiles J.colours J.counts (length palette) room
    ++ (tables J ++ bound_rules (J.S * J.C) palette J.colours)

abbrev pub sampled_rules : Job → ℕ → List ℕ → Bool → List Rule
sampled_rules J n samples room =
    sampled_form_rules J.size J.S J.C J.T n J.tiles J.colours J.counts (length samples) room
    ++ (tables J ++ place_rules J.T J.tiles J.colours n samples)

-- what a call without samples, and one with n samples, is answered before its own rules
unfoldable pub plain_answer : Job → List Float → Bool → Answered
plain_answer J palette room = answer (plain_rules J palette room)

unfoldable pub sampled_answer : Job → ℕ → List ℕ → Bool → Answered
sampled_answer J n samples room = answer (sampled_rules J n samples room)
