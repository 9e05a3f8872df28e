-- Reader and writer are exact inverses on what they accept: of sheets as bits, and of the public calls' outcomes. Assumes nothing.
use mathlib.Core.Path.{◌≡◌, refl, sym, ap, ap₂, ◌∙◌, subst}
use Prim.Native.Nat.{ℕ, ◌+◌, ◌≤◌}
use native.Mathlib.Omega.{arith}
use mathlib.Core.Bool.{Bool, true, false, cond}
use mathlib.Core.List.{List}
use lib.Dec.{T, leb, eqb}
use lib.Pow.{are_bytes}
use lib.ListN.{length, take, drop}
use lib.Seq.{sets, sets-eq, take_at}
use lib.Ieee.{Float, binary32, fits}
use borrow.Author.Tests.{le-leb, eqb-true, leb-true}
use Rattle.answer.specs.Refusals.{Answered, refusal}
use Rattle.answer.specs.Rules.{numbered}
use Rattle.answer.specs.Outcome.{Outcome, outcome, decided}
use Rattle.answer.proofs.Passing.{all_pass}
use Rattle.answer.proofs.Outcomes.{decided-done}
use Rattle.format.specs.Format.{Answer, refused, accepted, read_of, encode}
use Rattle.job.specs.Job.{Job, sizes_of}
use Rattle.job.specs.Checks.{tile_sized, plain_rules, plain_answer}
use Rattle.job.proofs.Ready.{plain_ready}
use Rattle.sheet_format.specs.declared.Edition.{Edition}
use Rattle.sheet_format.specs.Sheet.{edition_of, Sheet, fault_of, sheet, read_sheet}
use Rattle.sheet_format.proofs.Editions.{proper}
use Rattle.sheet_format.proofs.Exact.{sheet-there, sheet_back}
use Rattle.sheet_format.specs.Lists.{floats, total}
use Rattle.sheet_check.specs.Steps.{checked_of}
use Rattle.sheet_pack.specs.Packed.{sheet_of}
use Rattle.std.specs.Prelude.{Ok, Err}
use Rattle.sheet.specs.Sheets.{Reading, Writing, Singles, job_in, Room, room, enough, read_into, read_def, file_of, stored_in, write_def}
use Rattle.sheet.proofs.Editions.{edition-size, edition-sized, edition_again}
use Rattle.sheet.proofs.Kept.{job_back, palette_back, sheet-good}
use Rattle.sheet.proofs.Again.{sheet_again}
use Rattle.sheet.proofs.Files.{stored_in-place}
use Rattle.sheet.proofs.Accepted.{within_limit, accepted_says}
use Rattle.sheet.proofs.Taken.{content-counts, taken}

-- what was stored in the first places stands there
pub sets_front : {A : Type 0} (v l : List A) → length v ≤ length l → take (length v) (sets l 0 v) ≡ v
sets_front v l h = ap (take (length v)) (sets-eq v l 0 (omega arith)) ∙ take_at v (drop (0 + length v) l) (length v) refl

-- ---- sheets as bits
module _ (E : Edition) where
  pub read-written : (x : Sheet) → T ((sheet E).good x) → length (encode (sheet E) x) ≤ 65536 → read_sheet E (encode (sheet E) x) ≡ accepted x
  read-written x g h =
      ap (λ (b : Bool). cond b (read_of fault_of (sheet E) (encode (sheet E) x)) (refused (refusal 13 0))) (le-leb (length (encode (sheet E) x)) 65536 h) ∙ sheet-there E x g

  pub written_read : (b : List ℕ) (x : Sheet) → T (are_bytes b) → read_sheet E b ≡ accepted x → (encode (sheet E) x ≡ b) × T ((sheet E).good x)
  written_read b x h e = sheet_back E b x h (within_limit E b x e).1

same-sheet : (x y : Sheet) → ◌≡◌ {A = Answer Sheet} (accepted x) (accepted y) → x ≡ y
same-sheet x y e = cc

-- an accepted sheet has few colours, and its job passes the checks of every call without samples
module _ (size : ℕ) (b : List ℕ) (x : Sheet) where
  accepted-total : read_sheet (edition_of size) b ≡ accepted x → total x.content ≤ 5140
  accepted-total e =
      let A = accepted_says (edition_of size) (proper size) b x.subs x.each x.tiles x.weight (sym (ap checked_of e)) in
      subst (λ (y : Sheet). total y.content ≤ 5140) (sym (same-sheet x _ (sym e ∙ A.is))) A.fit

  pub accepted-few : T (are_bytes b) → read_sheet (edition_of size) b ≡ accepted x → length (job_in (edition_of size) x).counts ≤ 5140
  accepted-few h e = omega (arith, accepted-total e, content-counts (edition_of size) x (written_read (edition_of size) b x h e).1)

  pub accepted-job : T (are_bytes b) → read_sheet (edition_of size) b ≡ accepted x → (plain_answer (job_in (edition_of size) x) (floats x.palette) true).number ≡ 0
  accepted-job h e = let few = accepted-total e in taken (edition_of size) (edition-sized size) x (written_read (edition_of size) b x h e).1 (omega arith)

-- its file is the bytes that were read
pub file_again : (size : ℕ) (b : List ℕ) (x : Sheet) → T (are_bytes b) → read_sheet (edition_of size) b ≡ accepted x → file_of (job_in (edition_of size) x) (floats x.palette) ≡ b
file_again size b x h e =
    let r = written_read (edition_of size) b x h e in
    ap (λ (E : Edition). encode (sheet E) (sheet_of (job_in (edition_of size) x) (floats x.palette))) (edition_again size)
    ∙ ap (encode (sheet (edition_of size))) (sheet_again (edition_of size) x r.1) ∙ r.0

-- a job that passes has one of the tile sizes
plain-sized : (J : Job) (palette : List Float) (room : Bool) → (plain_answer J palette room).number ≡ 0 → tile_sized J.size ≡ true
unfolding plain_answer numbered
plain-sized J palette room e = (all_pass (plain_rules J palette room) refl e).0

-- ---- written, then read
module _ (J : Job) (palette : List Float) (old : List ℕ) (n : ℕ) (new : List ℕ) (w : outcome (Ok n) new ≡ write_def J palette old) where
  abbrev file : List ℕ
  file = file_of J palette

  -- what an answer of n bytes says
  record Wrote : Type 0 where
    pub passed : (plain_answer J palette true).number ≡ 0
    pub number : n ≡ length file
    pub stored : new ≡ sets old 0 file
    pub small : length file ≤ 65536
    pub room : length file ≤ length old

  refused-not : (y : Answered) (l : List ℕ) → ◌≡◌ {A = Outcome Writing (List ℕ)} (outcome (Ok n) new) (outcome (Err y) l) → ⊥
  refused-not y l e =
      let a : Ok n ≡ Err y = ap (λ (o : Outcome Writing (List ℕ)). o.answer) e in
      let z : ◌≡◌ {A = ℕ} 0 1 = cc in omega arith

  bytes-is : (m : ℕ) (l : List ℕ) → ◌≡◌ {A = Outcome Writing (List ℕ)} (outcome (Ok n) new) (outcome (Ok m) l) → (n ≡ m) × (new ≡ l)
  bytes-is m l e =
      let a : Ok n ≡ Ok m = ap (λ (o : Outcome Writing (List ℕ)). o.answer) e in
      (cc, ap (λ (o : Outcome Writing (List ℕ)). o.after) e)

  wrote : Wrote
  unfolding write_def stored_in decided
  wrote = job (eqb (plain_answer J palette true).number 0) refl w
    where
      fit : (b : Bool) → leb (length file) (length old) ≡ b → (plain_answer J palette true).number ≡ 0 → length file ≤ 65536
          → outcome (Ok n) new ≡ cond b (outcome (Ok (length file)) (sets old 0 file)) (outcome (Err (refusal 3 0)) old) → Wrote
      fit true e p s k =
          let m = bytes-is (length file) (sets old 0 file) k in
          record { passed = p; number = m.0; stored = m.1; small = s; room = leb-true (length file) (length old) e }
      fit false e p s k = absurd (refused-not (refusal 3 0) old k)

      limit : (b : Bool) → leb (length file) 65536 ≡ b → (plain_answer J palette true).number ≡ 0
          → outcome (Ok n) new ≡ cond b (cond (leb (length file) (length old)) (outcome (Ok (length file)) (sets old 0 file)) (outcome (Err (refusal 3 0)) old)) (outcome (Err (refusal 13 0)) old) → Wrote
      limit true e p k = fit (leb (length file) (length old)) refl p (leb-true (length file) 65536 e) k
      limit false e p k = absurd (refused-not (refusal 13 0) old k)

      job : (b : Bool) → eqb (plain_answer J palette true).number 0 ≡ b
          → outcome (Ok n) new ≡ cond b (stored_in file old) (outcome (Err (plain_answer J palette true)) old) → Wrote
      job true e k = limit (leb (length file) 65536) refl (eqb-true (plain_answer J palette true).number 0 e) k
      job false e k = absurd (refused-not (plain_answer J palette true) old k)

  -- the bytes that were written
  front : take n new ≡ file
  front =
      let W = wrote in
      ap₂ (λ (i : ℕ) (l : List ℕ). take i l) W.number W.stored ∙ sets_front file old W.room

  -- are read as the same job, in floats of 32 bits, by a reader that is told its tile size; what isn't filled stays
  pub read_back : T (fits binary32 J.weight) → Singles J.colours → Singles palette → (h : Room) → enough h ≡ true
      → read_def J.size (take n new) h
      ≡ outcome (Ok (sizes_of J.size J.S J.C J.T 0 J.weight)) (room (sets h.tiles 0 J.tiles) (sets h.colours 0 J.colours) (sets h.counts 0 J.counts) (sets h.palette 0 palette))
  unfolding read_def
  read_back Fw Fc Fp h r =
      let E : Edition = edition_of J.size in
      let W = wrote in
      let P = plain_ready J palette true W.passed in
      let there = plain-sized J palette true W.passed in
      let sized = sym (edition-size J.size there) in
      let g = sheet-good E (proper J.size) J P.ready sized Fc Fw palette P.lent Fp in
      ap₂ (λ (a b : Bool). read_into E (cond a (cond b (read_sheet E (take n new)) (refused (refusal 3 0))) (refused (refusal 2 0))) h) there r
      ∙ ap (λ (b : List ℕ). read_into E (read_sheet E b) h) front
      ∙ ap (λ (a : Answer Sheet). read_into E a h) (read-written E (sheet_of J palette) g W.small)
      ∙ ap₂ {C = Outcome Reading Room} (λ K p. outcome (Ok (sizes_of K.size K.S K.C K.T 0 K.weight))
      (room (sets h.tiles 0 K.tiles) (sets h.colours 0 K.colours) (sets h.counts 0 K.counts) (sets h.palette 0 p)))
      (job_back E (proper J.size) J P.ready sized Fc Fw palette P.lent Fp) (palette_back E (proper J.size) J P.ready sized Fc Fw palette P.lent Fp)

-- ---- read, then written
-- the sheet whose job a reading fills in has the bytes that were read, whatever the room
pub write_back : (size : ℕ) (b : List ℕ) (x : Sheet) → T (are_bytes b) → read_sheet (edition_of size) b ≡ accepted x → (old : List ℕ) → length b ≤ length old
    → write_def (job_in (edition_of size) x) (floats x.palette) old ≡ outcome (Ok (length b)) (sets old 0 b)
unfolding write_def
write_back size b x h e old room =
    let E : Edition = edition_of size in
    decided-done (plain_answer (job_in E x) (floats x.palette) true) _ _ old (accepted-job size b x h e)
    ∙ ap (λ (l : List ℕ). stored_in l old) (file_again size b x h e)
    ∙ stored_in-place b old (within_limit E b x e).0 room
