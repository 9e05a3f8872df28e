-- What each return of the reader answers. Assumes nothing.
use mathlib.Core.Path.{◌≡◌, refl, sym, ap, ap₂, ◌∙◌}
use Prim.Native.Nat.{ℕ, ◌+◌, ◌*◌, ◌≤◌}
use mathlib.Core.Bool.{Bool, true, false, not, ◌&&◌}
use mathlib.Core.List.{List}
use lib.Dec.{leb}
use lib.Seq.{sets}
use lib.Ieee.{Float, binary32, of_bits}
use borrow.Author.Tests.{leb-true, not-true, not-false}
use Rattle.lists.proofs.Tests.{and_l, and_r}
use Rattle.answer.specs.Refusals.{Answered, refusal}
use Rattle.answer.specs.Outcome.{Outcome, outcome}
use Rattle.format.specs.Format.{times, Answer, refused, accepted}
use Rattle.job.specs.declared.Sizes.{Sizes}
use Rattle.job.specs.Job.{sizes_of}
use Rattle.job.specs.Checks.{tile_sized}
use Rattle.sheet_format.specs.declared.Edition.{Edition}
use Rattle.sheet_format.specs.Sheet.{edition_of, component, Colour, Sheet, tile, read_sheet}
use Rattle.sheet_format.specs.Lists.{floats, all_counts, all_floats, table_of}
use Rattle.std.specs.Prelude.{Ok, Err}
use Rattle.sheet_check.specs.Steps.{Checked, checked_of}
use Rattle.sheet_check.proofs.Whole.{sound-not}
use Rattle.sheet_fill.specs.Fill.{list_at}
use Rattle.sheet.specs.Sheets.{Reading, Room, room, roomy, enough, found, read_into, read_def}
use Rattle.sheet.proofs.Editions.{edition-size}
use Rattle.sheet.proofs.Accepted.{Accepted}

-- what room there is
pub record SheetRoom (t f c p : ℕ) : Type 0 where
  pub tiles : 2048 ≤ t
  pub colours : 15420 ≤ f
  pub counts : 5140 ≤ c
  pub palette : 768 ≤ p

pub roomy_says : (tiles colours counts palette : ℕ) (r : Bool) → r ≡ roomy tiles colours counts palette → not r ≡ false → SheetRoom tiles colours counts palette
unfolding roomy
roomy_says tiles colours counts palette r e h =
    let a : roomy tiles colours counts palette ≡ true = sym e ∙ not-false r h in
    let b = and_r (leb 768 palette) (leb 2048 tiles && (leb 5140 counts && leb 15420 colours)) a in
    let c = and_r (leb 2048 tiles) (leb 5140 counts && leb 15420 colours) b in
    record {
      tiles = leb-true 2048 tiles (and_l (leb 2048 tiles) (leb 5140 counts && leb 15420 colours) b);
      colours = leb-true 15420 colours (and_r (leb 5140 counts) (leb 15420 colours) c);
      counts = leb-true 5140 counts (and_l (leb 5140 counts) (leb 15420 colours) c);
      palette = leb-true 768 palette (and_l (leb 768 palette) (leb 2048 tiles && (leb 5140 counts && leb 15420 colours)) a);
    }

module _ (size : ℕ) (s : List ℕ) (h : Room) where
  by_found : (x : Answer Sheet) → found size s h ≡ x → read_into (edition_of size) x h ≡ read_def size s h
  unfolding read_def
  by_found x f = sym (ap (λ (y : Answer Sheet). read_into (edition_of size) y h) f)

  pub no_size : (b : Bool) → b ≡ tile_sized size → not b ≡ true → outcome (Err (refusal 2 0)) h ≡ read_def size s h
  no_size b e g = by_found (refused (refusal 2 0)) (rw (sym e ∙ not-true b g))

  module _ (b : Bool) (sized : b ≡ tile_sized size) (is-size : not b ≡ false) (r : Bool) (e : r ≡ enough h) where
    there : tile_sized size ≡ true
    there = sym sized ∙ not-false b is-size

    pub no_room : not r ≡ true → outcome (Err (refusal 3 0)) h ≡ read_def size s h
    no_room g = by_found (refused (refusal 3 0)) (rw (there, sym e ∙ not-true r g))

    -- the edition as the code has it
    module _ (g : not r ≡ false) (E : Edition) (named : E ≡ edition_of size) where
      by_sheet : (x : Answer Sheet) → read_sheet E s ≡ x → read_into (edition_of size) x h ≡ read_def size s h
      by_sheet x f = by_found x (rw (there, sym e ∙ not-false r g) (sym (ap (λ (y : Edition). read_sheet y s) named) ∙ f))

      pub refused-out : (y : Answered) → Err y ≡ checked_of (read_sheet E s) → outcome (Err y) h ≡ read_def size s h
      refused-out y f = by (read_sheet E s) refl f
        where
          same : (y z : Answered) → ◌≡◌ {A = Checked} (Err y) (Err z) → y ≡ z
          same y z e = cc

          by : (x : Answer Sheet) → read_sheet E s ≡ x → Err y ≡ checked_of x → outcome (Err y) h ≡ read_def size s h
          by (refused z) k f = ap (λ (i : Answered). outcome (Err i) h) (same y z f) ∙ by_sheet (refused z) k
          by (accepted x) k f = absurd (sound-not y x.subs x.each x.tiles x.weight f)

      pub accepted-out : (a b t w : ℕ) (z : Sizes) (tb : List ℕ) (cs : List ℕ) (f : List Float) (p : List Float) → Accepted E s a b t w → z ≡ sizes_of size a b t 0 (of_bits binary32 w)
          → p ≡ sets h.palette 0 (floats (list_at (times (3 * (a * b)) component) s 86))
          → tb ≡ sets h.tiles 0 (table_of 0 (list_at (times t (tile E)) s (86 + 3 * (a * b) * 32)))
          → cs ≡ sets h.counts 0 (all_counts (list_at (times t (tile E)) s (86 + 3 * (a * b) * 32)))
          → f ≡ sets h.colours 0 (all_floats (list_at (times t (tile E)) s (86 + 3 * (a * b) * 32)))
          → outcome (Ok z) (room tb f cs p) ≡ read_def size s h
      accepted-out a b t w z tb cs f p A ew ep et ec ef =
          let L : List (List Colour) = list_at (times t (tile E)) s (86 + 3 * (a * b) * 32) in
          let told : z ≡ sizes_of (edition_of size).size a b t 0 (of_bits binary32 w) =
          ew ∙ ap (λ (i : ℕ). sizes_of i a b t 0 (of_bits binary32 w)) (sym (edition-size size there)) in
          ap₂ {C = Outcome Reading Room} (λ i j. outcome (Ok i) j) told
          (ap₂ {C = Room} (λ i j. room i j cs p) et ef ∙ ap₂ {C = Room} (λ i j. room (sets h.tiles 0 (table_of 0 L)) (sets h.colours 0 (all_floats L)) i j) ec ep)
          ∙ by_sheet _ A.is
