-- What a program prints by what the reader says, and how that stands in the bytes lent. Assumes nothing.
use mathlib.Core.Path.{◌≡◌, sym, ap, ap₂, ◌∙◌, subst, subst₂}
use Prim.Native.Nat.{ℕ, ◌+◌, ◌≤◌, ◌<◌}
use native.Mathlib.Omega.{arith}
use mathlib.Core.Bool.{Bool, true, cond}
use mathlib.Core.List.{List}
use lib.Dec.{T}
use lib.Pow.{are_bytes}
use lib.ListN.{length}
use lib.Seq.{sets, length-take-le}
use lib.Ieee.{Float}
use borrow.Author.Tests.{le-leb, lt-leb}
use Rattle.io.specs.Counts.{IsPrefixLen}
use Rattle.answer.specs.Refusals.{Answered}
use Rattle.answer.specs.Outcome.{Outcome, outcome}
use Rattle.format.specs.Format.{Answer}
use Rattle.job.specs.declared.Sizes.{Sizes}
use Rattle.job.specs.Job.{Job}
use Rattle.job.specs.Checks.{tile_sized}
use Rattle.fit_lines.specs.Lines.{Stored, refused_line}
use Rattle.sheet_format.specs.Sheet.{Sheet, edition_of, read_sheet}
use Rattle.sheet_format.specs.Opened.{size_in}
use Rattle.sheet.proofs.Editions.{asked_sized}
use Rattle.std.specs.Prelude.{Ok, Err}
use Rattle.sheet.specs.Sheets.{Reading, Room, read_def}
use Rattle.sheet_parts.specs.Front.{front_job, front_palette, Front}
use Rattle.sheet_parts.specs.Texts.{sheet_text, text_at, text_for, printed_in}
use Rattle.sheet_parts.proofs.Readings.{Lengths, refused_says, sheet_says}

-- ---- by what the reader says: the refusal's line, or what is printed for the job in the first places
module _ (b : List ℕ) (size : ℕ) (asked : size ≡ size_in b) (h : Room) (L : Lengths h) (r : Reading) (after : Room) (e : outcome r after ≡ read_def size b h) where
  there : tile_sized size ≡ true
  there = ap tile_sized asked ∙ asked_sized b

  module _ (f : Job → List Float → List ℕ) (found out : List ℕ) (m : ℕ) where
    by_reading : (a : Answer Sheet) → read_sheet (edition_of size) b ≡ a → Stored found out 0 m (sheet_text f (edition_of size) a) → Stored found out 0 m (text_for f b)
    by_reading a k s =
        subst (λ (n : ℕ). Stored found out 0 m (text_at f n b)) asked (subst (λ (x : Answer Sheet). Stored found out 0 m (sheet_text f (edition_of size) x)) (sym k) s)

    pub refused-text : (y : Answered) → r ≡ Err y → Stored found out 0 m (refused_line y.number) → Stored found out 0 m (text_for f b)
    refused-text y g s = by_reading _ (refused_says size b h L there r after e y g) s

    pub front_text : T (are_bytes b) → (z : Sizes) → r ≡ Ok z
        → Stored found out 0 m (f (front_job z after.tiles after.colours after.counts) (front_palette z after.palette))
        → Stored found out 0 m (text_for f b)
    front_text bytes z g s =
        let G = sheet_says size b h L there r after e bytes z g in
        by_reading _ G.is (subst₂ (λ (J : Job) (p : List Float). Stored found out 0 m (f J p)) G.job G.palette s)

  pub held : T (are_bytes b) → (z : Sizes) → r ≡ Ok z → Front z after.tiles after.colours after.counts after.palette
  held bytes z g = (sheet_says size b h L there r after e bytes z g).front

-- ---- the outcome
module _ (most : ℕ) (text found : List ℕ) where
  pub no_place : length found < most → outcome 0 found ≡ printed_in most text found
  unfolding printed_in
  no_place h = sym (ap (λ (t : Bool). cond t (outcome (length text) (sets found 0 text)) (outcome 0 found)) (lt-leb most (length found) h))

  pub in_place : (out : List ℕ) (n : ℕ) → most ≤ length found → Stored found out 0 n text → outcome n out ≡ printed_in most text found
  unfolding printed_in
  in_place out n h s =
      ap₂ {C = Outcome ℕ (List ℕ)} (λ i l. outcome i l) (s.place ∙ none (length text)) s.text
      ∙ sym (ap (λ (t : Bool). cond t (outcome (length text) (sets found 0 text)) (outcome 0 found)) (le-leb most (length found) h))
    where
      none : (n : ℕ) → 0 + n ≡ n
      none n = omega arith

  counts : (n : ℕ) (l : List ℕ) → n ≤ length l → IsPrefixLen n l
  counts n l h = (h, sym (length-take-le n l h))

  -- with the room that the program lends
  pub nothing-told : length found < most → (outcome 0 found ≡ printed_in most text found) × IsPrefixLen 0 found
  nothing-told h = (no_place h, counts 0 found (omega arith))

  pub told : (out : List ℕ) (n : ℕ) → most ≤ length found → Stored found out 0 n text → n ≤ most → length out ≡ length found
      → (outcome n out ≡ printed_in most text found) × IsPrefixLen n out
  told out n h s l k = (in_place out n h s, counts n out (omega (arith, k)))
