-- What a reading into room for any sheet says: the refusal, or a job that then stands in the first places. Assumes nothing.
use mathlib.Core.Path.{◌≡◌, refl, sym, ap, ap₂, ◌∙◌, subst, subst₂}
use Prim.Native.Nat.{ℕ, ◌*◌, ◌≤◌}
use native.Mathlib.Omega.{arith}
use mathlib.Core.Bool.{Bool, true, cond, ◌&&◌}
use mathlib.Core.List.{List}
use lib.Dec.{T}
use lib.Pow.{are_bytes}
use lib.ListN.{length, take}
use lib.Seq.{length-sets}
use lib.Ieee.{Float}
use borrow.Author.Tests.{le-leb}
use Rattle.answer.specs.Refusals.{Answered, refusal}
use Rattle.answer.specs.Outcome.{Outcome, outcome}
use Rattle.format.specs.Format.{Answer, refused, accepted}
use Rattle.job.specs.declared.Sizes.{Sizes}
use Rattle.job.specs.Job.{Job, job_of}
use Rattle.job.specs.Checks.{tile_sized}
use Rattle.job.specs.Gives.{Plain}
use Rattle.job.proofs.Ready.{plain_ready}
use Rattle.palette_tile.specs.Tiles.{Shown}
use Rattle.fits.proofs.Shown.{shown}
use Rattle.sheet_format.specs.declared.Edition.{Edition}
use Rattle.sheet_format.specs.Sheet.{Sheet, edition_of, read_sheet}
use Rattle.sheet_format.specs.Lists.{floats}
use Rattle.std.specs.Prelude.{Ok, Err}
use Rattle.sheet.specs.Sheets.{Reading, sizes_in, job_in, Room, room, roomy, enough, filled, read_into, read_def}
use Rattle.sheet.proofs.Inverse.{accepted-few, accepted-job, file_again}
use Rattle.sheet.proofs.Accepted.{within_limit}
use Rattle.sheet_parts.specs.Front.{Writable, colours_to, front_job, front_palette, Front}
use Rattle.sheet_parts.proofs.Parts.{written_front, number}

-- ---- room for any sheet
pub record Lengths (h : Room) : Type 0 where
  pub tiles : 2048 ≡ length h.tiles
  pub colours : 15420 ≡ length h.colours
  pub counts : 5140 ≡ length h.counts
  pub palette : 768 ≡ length h.palette

pub lengths : {tiles : List ℕ} {colours : List Float} {counts : List ℕ} {palette : List Float}
    → 2048 ≡ length tiles → 15420 ≡ length colours → 5140 ≡ length counts → 768 ≡ length palette → Lengths (room tiles colours counts palette)
lengths t c n p = record { tiles = t; colours = c; counts = n; palette = p }

-- read as the tile size says
module _ (size : ℕ) where
  abbrev E : Edition
  E = edition_of size

  -- the job that a sheet holds can be written
  pub writable : (b : List ℕ) (x : Sheet) → T (are_bytes b) → read_sheet E b ≡ accepted x → Writable (job_in E x) (floats x.palette)
  writable b x h e = record { passed = accepted-job size b x h e; small = subst (λ (l : List ℕ). length l ≤ 65536) (sym (file_again size b x h e)) (within_limit E b x e).0 }

  -- the sheet that was read, by the numbers answered: its job and its palette stand in the first places
  pub record Given (b : List ℕ) (after : Room) (z : Sizes) : Type 0 where
    pub found : Sheet
    pub is : read_sheet E b ≡ accepted found
    pub job : front_job z after.tiles after.colours after.counts ≡ job_in E found
    pub palette : front_palette z after.palette ≡ floats found.palette
    pub front : Front z after.tiles after.colours after.counts after.palette

  module _ (b : List ℕ) (h : Room) (L : Lengths h) where
    -- a sheet that was accepted, in the room that it fills
    module _ (bytes : T (are_bytes b)) (x : Sheet) (e : read_sheet E b ≡ accepted x) where
      abbrev J : Job
      J = job_in E x

      abbrev p : List Float
      p = floats x.palette

      P : Plain J p true
      P = plain_ready J p true (accepted-job size b x bytes e)

      abbrev n : ℕ
      n = colours_to (filled x h).tiles J.T

      table_fits : length J.tiles ≤ length h.tiles
      table_fits = omega (arith, L.tiles, P.ready.table, P.ready.sizes.tiles)

      tiles-is : take (2 * J.T) (filled x h).tiles ≡ J.tiles
      tiles-is = written_front (2 * J.T) J.tiles h.tiles P.ready.table table_fits

      number_is : n ≡ length J.counts
      number_is = number J P.ready (filled x h).tiles tiles-is

      colours-fit : length J.colours ≤ length h.colours
      colours-fit = omega (arith, L.colours, P.ready.three, accepted-few size b x bytes e)

      colours-is : take (3 * n) (filled x h).colours ≡ J.colours
      colours-is = written_front (3 * n) J.colours h.colours (P.ready.three ∙ ap (λ (k : ℕ). 3 * k) (sym number_is)) colours-fit

      counts_fit_lem : length J.counts ≤ length h.counts
      counts_fit_lem = omega (arith, L.counts, accepted-few size b x bytes e)

      counts-is : take n (filled x h).counts ≡ J.counts
      counts-is = written_front n J.counts h.counts (sym number_is) counts_fit_lem

      palette-fits : length p ≤ length h.palette
      palette-fits = omega (arith, L.palette, P.lent.room, P.ready.sizes.cells)

      palette-is : front_palette (sizes_in E x) (filled x h).palette ≡ p
      palette-is = written_front (3 * (J.S * J.C)) p h.palette P.lent.room palette-fits

      job_is : front_job (sizes_in E x) (filled x h).tiles (filled x h).colours (filled x h).counts ≡ J
      job_is =
          ap₂ {C = Job} (λ i j. job_of (sizes_in E x) i j (take n (filled x h).counts)) tiles-is colours-is
          ∙ ap {B = Job} (λ i. job_of (sizes_in E x) J.tiles J.colours i) counts-is

      in-front : Front (sizes_in E x) (filled x h).tiles (filled x h).colours (filled x h).counts (filled x h).palette
      in-front = record {
        writable = subst₂ Writable (sym job_is) (sym palette-is) (writable b x bytes e);
        shown = subst₂ (λ (K : Job) (q : List Float). Shown K q J.S J.C) (sym job_is) (sym palette-is) (shown J p true P);
        few = omega (arith, number_is, P.ready.total);
        tiled = omega (arith, length-sets h.tiles 0 J.tiles, table_fits, P.ready.table);
        coloured = omega (arith, length-sets h.colours 0 J.colours, colours-fit, P.ready.three, number_is);
        counted = omega (arith, length-sets h.counts 0 J.counts, counts_fit_lem, number_is);
        given = omega (arith, length-sets h.palette 0 p, palette-fits, P.lent.room);
      }

      filled_says : Given b (filled x h) (sizes_in E x)
      filled_says = record { found = x; is = e; job = job_is; palette = palette-is; front = in-front }

    -- ---- by what the reader answered
    module _ (there : tile_sized size ≡ true) (r : Reading) (after : Room) (e : outcome r after ≡ read_def size b h) where
      roomed : enough h ≡ true
      unfolding roomy
      roomed =
          ap₂ (λ (x y : Bool). x && y) (le-leb 768 (length h.palette) (omega (arith, L.palette)))
          (ap₂ (λ (x y : Bool). x && y) (le-leb 2048 (length h.tiles) (omega (arith, L.tiles)))
          (ap₂ (λ (x y : Bool). x && y) (le-leb 5140 (length h.counts) (omega (arith, L.counts))) (le-leb 15420 (length h.colours) (omega (arith, L.colours)))))

      by_sheet : outcome r after ≡ read_into E (read_sheet E b) h
      unfolding read_def
      by_sheet = e ∙ ap₂ (λ (s t : Bool). read_into E (cond s (cond t (read_sheet E b) (refused (refusal 3 0))) (refused (refusal 2 0))) h) there roomed

      apart : (y : Answered) (z : Sizes) → ◌≡◌ {A = Reading} (Err y) (Ok z) → ⊥
      apart y z k = let f : ◌≡◌ {A = ℕ} 0 1 = cc in omega arith

      pub refused_says : (y : Answered) → r ≡ Err y → read_sheet E b ≡ refused y
      refused_says y f = by (read_sheet E b) refl by_sheet
        where
          same : (y z : Answered) → ◌≡◌ {A = Reading} (Err y) (Err z) → y ≡ z
          same y z k = cc

          by : (x : Answer Sheet) → read_sheet E b ≡ x → outcome r after ≡ read_into E x h → read_sheet E b ≡ refused y
          by (refused z) k g = k ∙ ap refused (sym (same y z (sym f ∙ ap (λ (o : Outcome Reading Room). o.answer) g)))
          by (accepted x) k g = absurd (apart y (sizes_in E x) (sym f ∙ ap (λ (o : Outcome Reading Room). o.answer) g))

      pub sheet_says : T (are_bytes b) → (z : Sizes) → r ≡ Ok z → Given b after z
      sheet_says bytes z f = by (read_sheet E b) refl by_sheet
        where
          same : (z y : Sizes) → ◌≡◌ {A = Reading} (Ok z) (Ok y) → z ≡ y
          same z y k = cc

          by : (x : Answer Sheet) → read_sheet E b ≡ x → outcome r after ≡ read_into E x h → Given b after z
          by (refused y) k g = absurd (apart y z (sym (ap (λ (o : Outcome Reading Room). o.answer) g) ∙ f))
          by (accepted x) k g =
              subst₂ (Given b) (sym (ap (λ (o : Outcome Reading Room). o.after) g)) (sym (same z (sizes_in E x) (sym f ∙ ap (λ (o : Outcome Reading Room). o.answer) g)))
              (filled_says bytes x k)
