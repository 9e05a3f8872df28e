-- A sheet that was read, with another palette that passes: it is a sheet that the reader accepts, the same but for its palette. Assumes nothing.
use Prim.Native.Nat.{ℕ, zero, suc, ◌≤◌}
use mathlib.Core.Path.{◌≡◌, refl, ap, subst, subst⁻¹, ◌∙◌}
use mathlib.Core.Bool.{true}
use mathlib.Core.List.{List, [], ◌∷◌}
use lib.Dec.{T}
use lib.Pow.{are_bytes}
use lib.ListN.{length}
use lib.Ieee.{Float, binary32, fits}
use lib.Ieee.Fits.{nan-fits}
use lib.Ieee.Bits.{of_bits-fits}
use Rattle.format.specs.Format.{accepted, encode}
use Rattle.job.specs.Checks.{plain_answer}
use Rattle.job.specs.Gives.{Plain}
use Rattle.job.proofs.Ready.{plain_ready}
use Rattle.color.specs.Color.{Bounded}
use Rattle.sheet_format.specs.declared.Edition.{Edition}
use Rattle.sheet_format.specs.Sheet.{Colour, Sheet, edition_of, sheet, read_sheet}
use Rattle.sheet_format.proofs.Editions.{proper}
use Rattle.sheet_format.specs.Lists.{floats, tile_floats, all_floats}
use Rattle.sheet_pack.specs.Packed.{sheet_of}
use Rattle.sheet.specs.Sheets.{Singles, job_in, file_of}
use Rattle.sheet.proofs.Floats.{singles_append}
use Rattle.sheet.proofs.Kept.{job_back, palette_back, sheet-good}
use Rattle.sheet.proofs.Again.{sheet_again}
use Rattle.sheet.proofs.Inverse.{read-written, written_read, file_again}
use Rattle.sheet.proofs.Editions.{edition_again}
use Rattle.sheet_parts.proofs.Files.{same-long, still_writable}
use Rattle.sheet_parts.proofs.Readings.{writable}

-- ---- the floats that a sheet holds are of 32 bits
singles_floats : (v : List ℕ) → Singles (floats v)
singles_floats [] i = nan-fits binary32
singles_floats (b ∷ v) zero = of_bits-fits binary32 b
singles_floats (b ∷ v) (suc i) = singles_floats v i

singles_tile : (x : List Colour) → Singles (tile_floats x)
singles_tile [] = singles_floats []
singles_tile (y ∷ x) = singles_append (floats y.1) (tile_floats x) (singles_floats y.1) (singles_tile x)

singles_all : (v : List (List Colour)) → Singles (all_floats v)
singles_all [] = singles_floats []
singles_all (x ∷ v) = singles_append (tile_floats x) (all_floats v) (singles_tile x) (singles_all v)

-- ---- the sheet repainted
module _ (size : ℕ) (b : List ℕ) (x : Sheet) (h : T (are_bytes b)) (e : read_sheet (edition_of size) b ≡ accepted x) (q : List Float) (Q : Singles q) (ok : (plain_answer (job_in (edition_of size) x) q true).number ≡ 0) where
  passed : Plain (job_in (edition_of size) x) q true
  passed = plain_ready (job_in (edition_of size) x) q true ok

  weighed : T (fits binary32 (job_in (edition_of size) x).weight)
  weighed = of_bits-fits binary32 x.weight

  pub read_repainted : read_sheet (edition_of size) (file_of (job_in (edition_of size) x) q) ≡ accepted (sheet_of (job_in (edition_of size) x) q)
  read_repainted =
      ap (λ (E : Edition). read_sheet (edition_of size) (encode (sheet E) (sheet_of (job_in (edition_of size) x) q))) (edition_again size)
      ∙ read-written (edition_of size) (sheet_of (job_in (edition_of size) x) q) (sheet-good (edition_of size) (proper size) (job_in (edition_of size) x) passed.ready refl (singles_all x.content) weighed q passed.lent Q)
      (subst (λ (E : Edition). length (encode (sheet E) (sheet_of (job_in (edition_of size) x) q)) ≤ 65536) (edition_again size)
      (still_writable (job_in (edition_of size) x) (floats x.palette) q (writable size b x h e) ok).small)

  -- patterns and tiles are those that were read, the job is the same, and the palette the other
  pub same-weight : (sheet_of (job_in (edition_of size) x) q).weight ≡ x.weight
  same-weight = ap (λ (y : Sheet). y.weight) (sheet_again (edition_of size) x (written_read (edition_of size) b x h e).1)

  pub same-content : (sheet_of (job_in (edition_of size) x) q).content ≡ x.content
  same-content = ap (λ (y : Sheet). y.content) (sheet_again (edition_of size) x (written_read (edition_of size) b x h e).1)

  pub same-job : job_in (edition_of size) (sheet_of (job_in (edition_of size) x) q) ≡ job_in (edition_of size) x
  same-job = job_back (edition_of size) (proper size) (job_in (edition_of size) x) passed.ready refl (singles_all x.content) weighed q passed.lent Q

  pub its_palette : floats (sheet_of (job_in (edition_of size) x) q).palette ≡ q
  its_palette = palette_back (edition_of size) (proper size) (job_in (edition_of size) x) passed.ready refl (singles_all x.content) weighed q passed.lent Q

  pub its_bound : Bounded (floats (sheet_of (job_in (edition_of size) x) q).palette) 2
  its_bound = subst⁻¹ (λ (v : List Float). Bounded v 2) its_palette passed.lent.bounded

  -- in as many bytes
  pub repainted_long : length (file_of (job_in (edition_of size) x) q) ≡ length b
  repainted_long = same-long (job_in (edition_of size) x) (floats x.palette) q (writable size b x h e).passed ok ∙ ap length (file_again size b x h e)
