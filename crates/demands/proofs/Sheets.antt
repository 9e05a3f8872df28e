-- The sheet's numbers, exactly when the table says: 0 for the bytes of a sheet that can be written, 2, 3, 12 and 13. Reader and writer undo each other; a sheet of
-- one edition to the other's reader. Assumes nothing.
use Rattle.std.specs.Prelude.{Err}
use Prim.Native.Nat.{ℕ, ◌≤◌}
use mathlib.Core.Path.{◌≡◌, refl, sym, ap, ap₂, subst, ◌∙◌}
use mathlib.Core.Bool.{Bool, true, false, not, cond, ◌&&◌, ◌||◌, true≢false}
use mathlib.Core.List.{List}
use lib.Dec.{T, leb, ltb, eqb}
use lib.Pow.{are_bytes}
use lib.ListN.{length}
use lib.Ieee.{Float}
use borrow.Author.Tests.{eq-eqb, leb-true}
use Rattle.answer.specs.Refusals.{Answered, refusal}
use Rattle.answer.specs.Outcome.{outcome}
use Rattle.bits.specs.Bits.{bits}
use Rattle.format.specs.Format.{Res, fault, got, Answer, refused, accepted, clear, ended}
use Rattle.job.specs.Job.{Job}
use Rattle.job.specs.Checks.{tile_sized}
use Rattle.sheet_format.specs.declared.Edition.{Edition}
use Rattle.sheet_format.specs.Sheet.{Sheet, edition_of, fault_of, sheet, read_sheet}
use Rattle.sheet_format.specs.Opened.{misopened}
use Rattle.sheet_format.proofs.Editions.{proper}
use Rattle.sheet_format.proofs.Faults.{failed, sheet-never, sheet-misopened}
use Rattle.sheet.specs.Sheets.{Room, enough, read_into, read_def}
use Rattle.sheet.proofs.Files.{encoded_bytes}
use Rattle.sheet.proofs.Editions.{numbers_differ, other-edition, asks_for_its_size}
use Rattle.sheet.proofs.Inverse.{read-written, written_read, read_back, write_back}
use Rattle.fit_lines.specs.Lines.{refused_line}
use Rattle.sheet_parts.specs.Texts.{sheet_text, text_at}
use Rattle.demands.specs.First.{refusal_in}
use Rattle.demands.proofs.First.{first_demand}
use Rattle.demands.specs.Sheets.{WellFormed, unended, number, fields, readable, Numbers, Inverse, Differ, Editions}

-- ---- a number by what the fields gave
abbrev stopped : ℕ → Res Sheet → Bool
stopped k (fault n i) = eqb n k
stopped k (got x r) = cond (ltb (length r) 8 && clear r) (eqb 0 k) (eqb 13 k)

by_fields : (k : ℕ) (t r s : Bool) (x : Res Sheet)
    → eqb (refusal_in (cond t (cond r (cond s (ended fault_of x) (refused (refusal 13 0))) (refused (refusal 3 0))) (refused (refusal 2 0)))).number k
    ≡ cond t (cond r (cond s (stopped k x) (eqb 13 k)) (eqb 3 k)) (eqb 2 k)
by_fields k true true true (fault n i) = refl
by_fields k true true true (got x r) = last (ltb (length r) 8 && clear r)
  where
    last : (t : Bool) → eqb (refusal_in (cond t (accepted x) (refused (refusal 13 0)))).number k ≡ cond t (eqb 0 k) (eqb 13 k)
    last true = refl
    last false = refl
by_fields k true true false x = refl
by_fields k true false s x = refl
by_fields k false r s x = refl

-- the bytes of a well-formed sheet are bytes, and its reader accepts them
module _ (E : Edition) (bytes : List ℕ) (W : WellFormed E bytes) where
  well_read : read_sheet E bytes ≡ accepted W.is
  well_read =
      subst (λ (l : List ℕ). read_sheet E l ≡ accepted W.is) W.same (read-written E W.is W.good (subst (λ (l : List ℕ). length l ≤ 65536) (sym W.same) W.small))

  well_bytes : T (are_bytes bytes)
  well_bytes = subst (λ (l : List ℕ). T (are_bytes l)) W.same (encoded_bytes (sheet E) W.is)

-- what holds whether the last bits are clear or not
either_end : {b : Bool} (t : Bool) → cond t b b ≡ b
either_end true = refl
either_end false = refl

module _ (size : ℕ) (bytes : List ℕ) (h : Room) where
  abbrev E : Edition
  E = edition_of size

  abbrev few : Bool
  few = leb (length bytes) 65536

  numbered : (k : ℕ) → eqb (number size bytes h) k ≡ cond (tile_sized size) (cond (enough h) (cond few (stopped k (fields size bytes)) (eqb 13 k)) (eqb 3 k)) (eqb 2 k)
  numbered k = ap (λ (e : Answered). eqb e.number k) (first_demand.read_sheet size bytes h).numbers ∙ by_fields k (tile_sized size) (enough h) few (fields size bytes)

  -- a number that the fields never give
  unstopped : (k : ℕ) (x : Res Sheet) → eqb 0 k ≡ false → eqb 13 k ≡ false → failed k x ≡ false → stopped k x ≡ false
  unstopped k (fault n i) a b e = e
  unstopped k (got x r) a b e = last (ltb (length r) 8 && clear r)
    where
      last : (t : Bool) → cond t (eqb 0 k) (eqb 13 k) ≡ false
      last true = a
      last false = b

  -- ---- 2
  number_2 : eqb (number size bytes h) 2 ≡ not (tile_sized size)
  number_2 = numbered 2 ∙ by (tile_sized size) (enough h) few (unstopped 2 (fields size bytes) refl refl (sheet-never 2 refl E refl refl refl refl refl (bits bytes)))
    where
      by : (t r s : Bool) {b : Bool} → b ≡ false → cond t (cond r (cond s b false) false) true ≡ not t
      by true true true e = e
      by true true false e = refl
      by true false s e = refl
      by false r s e = refl

  -- ---- 3
  number_3 : eqb (number size bytes h) 3 ≡ tile_sized size && not (enough h)
  number_3 = numbered 3 ∙ by (tile_sized size) (enough h) few (unstopped 3 (fields size bytes) refl refl (sheet-never 3 refl E refl refl refl refl refl (bits bytes)))
    where
      by : (t r s : Bool) {b : Bool} → b ≡ false → cond t (cond r (cond s b false) true) false ≡ t && not r
      by true true true e = e
      by true true false e = refl
      by true false s e = refl
      by false r s e = refl

  -- ---- 12
  number_12 : eqb (number size bytes h) 12 ≡ readable size bytes h && misopened E (bits bytes)
  number_12 =
      numbered 12 ∙ by (tile_sized size) (enough h) few (fields size bytes)
      ∙ ap (λ (b : Bool). readable size bytes h && b) (sheet-misopened E (bits bytes))
    where
      by : (t r s : Bool) (x : Res Sheet) → cond t (cond r (cond s (stopped 12 x) false) false) false ≡ (t && (r && s)) && failed 12 x
      by true true true (fault n i) = refl
      by true true true (got x r) = either_end (ltb (length r) 8 && clear r)
      by true true false x = refl
      by true false s x = refl
      by false r s x = refl

  -- ---- 13
  number_13 : eqb (number size bytes h) 13 ≡ tile_sized size && (enough h && (not few || unended (fields size bytes)))
  number_13 = numbered 13 ∙ by (tile_sized size) (enough h) few (fields size bytes)
    where
      by : (t r s : Bool) (x : Res Sheet) → cond t (cond r (cond s (stopped 13 x) true) false) false ≡ t && (r && (not s || unended x))
      by true true true (fault n i) = refl
      by true true true (got x r) = last (ltb (length r) 8 && clear r)
        where
          last : (t : Bool) → cond t false true ≡ not t
          last true = refl
          last false = refl
      by true true false x = refl
      by true false s x = refl
      by false r s x = refl

  -- ---- 0
  number_0 : T (are_bytes bytes) → number size bytes h ≡ 0 → (tile_sized size ≡ true) × (enough h ≡ true) × WellFormed E bytes
  number_0 b e =
      by (tile_sized size) (enough h) few (fields size bytes) refl refl refl refl (sheet-never 0 refl E refl refl refl refl refl (bits bytes))
      (sym (numbered 0) ∙ eq-eqb (number size bytes h) 0 e)
    where
      sheet_of_lem : (x : Sheet) → few ≡ true → ended fault_of (fields size bytes) ≡ accepted x → WellFormed E bytes
      sheet_of_lem x s d =
          let w = written_read E bytes x b (ap (λ (t : Bool). cond t (ended fault_of (fields size bytes)) (refused (refusal 13 0))) s ∙ d) in
          record { is = x; good = w.1; same = w.0; small = leb-true (length bytes) 65536 s }

      by : (t r s : Bool) (x : Res Sheet) → tile_sized size ≡ t → enough h ≡ r → few ≡ s → fields size bytes ≡ x → failed 0 x ≡ false
          → cond t (cond r (cond s (stopped 0 x) false) false) false ≡ true → (tile_sized size ≡ true) × (enough h ≡ true) × WellFormed E bytes
      by true true true (fault n i) et er es ex f g = absurd (true≢false (sym g ∙ f))
      by true true true (got x r) et er es ex f g = last (ltb (length r) 8 && clear r) refl g
        where
          last : (t : Bool) → ltb (length r) 8 && clear r ≡ t → cond t true false ≡ true → (tile_sized size ≡ true) × (enough h ≡ true) × WellFormed E bytes
          last true q u = (et, er, sheet_of_lem x es (ap (ended fault_of) ex ∙ ap (λ (v : Bool). cond v (accepted x) (refused (refusal 13 0))) q))
          last false q u = absurd (true≢false (sym u))
      by true true false x et er es ex f g = absurd (true≢false (sym g))
      by true false s x et er es ex f g = absurd (true≢false (sym g))
      by false r s x et er es ex f g = absurd (true≢false (sym g))

  number_0_of : tile_sized size ≡ true → enough h ≡ true → WellFormed E bytes → number size bytes h ≡ 0
  number_0_of t r W =
      ap (λ (e : Answered). e.number) (first_demand.read_sheet size bytes h).numbers
      ∙ ap₂ (λ (a b : Bool). (refusal_in (cond a (cond b (read_sheet E bytes) (refused (refusal 3 0))) (refused (refusal 2 0)))).number) t r
      ∙ ap (λ (a : Answer Sheet). (refusal_in a).number) (well_read E bytes W)

  pub numbers : Numbers size bytes h
  numbers = record { nought = number_0; nought_of = number_0_of; two = number_2; three = number_3; twelve = number_12; thirteen = number_13 }

-- ---- reader and writer
pub inverse : Inverse
inverse = record {
  read_back = λ J palette old n new w Fw Fc Fp h r. read_back J palette old n new w Fw Fc Fp h r;
  write_back = λ size bytes W old room. write_back size bytes W.is (well_bytes (edition_of size) bytes W) (well_read (edition_of size) bytes W) old room;
}

-- ---- editions
module _ (size other : ℕ) (differ : Differ size other) (bytes : List ℕ) (W : WellFormed (edition_of other) bytes) where
  turned_away : read_sheet (edition_of size) bytes ≡ refused (refusal 12 0)
  turned_away = other-edition (edition_of other) (proper other) bytes W.is (well_read (edition_of other) bytes W) (edition_of size) (numbers_differ size other differ.0 differ.1 differ.2)

  told-other : (h : Room) → enough h ≡ true → read_def size bytes h ≡ outcome (Err (refusal 12 0)) h
  unfolding read_def
  told-other h r =
      ap₂ (λ (a b : Bool). read_into (edition_of size) (cond a (cond b (read_sheet (edition_of size) bytes) (refused (refusal 3 0))) (refused (refusal 2 0))) h) differ.0 r
      ∙ ap (λ (a : Answer Sheet). read_into (edition_of size) a h) turned_away

  no_tile : (f : Job → List Float → List ℕ) → text_at f size bytes ≡ refused_line 12
  no_tile f = ap (sheet_text f (edition_of size)) turned_away

pub editions : Editions
editions = record {
  other = told-other;
  no_tile = no_tile;
  either = λ size there bytes W f.
      ap (λ (n : ℕ). text_at f n bytes) (asks_for_its_size size there bytes W.is (well_read (edition_of size) bytes W))
      ∙ ap (sheet_text f (edition_of size)) (well_read (edition_of size) bytes W);
}
