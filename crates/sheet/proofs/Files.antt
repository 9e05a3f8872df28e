-- A sheet's bits stored in bytes are its file stored in them; and what each return of the writer answers. Assumes nothing.
use mathlib.Core.Path.{◌≡◌, refl, sym, ap, ap₂, ◌∙◌, subst}
use Prim.Native.Nat.{ℕ, zero, suc, ◌+◌, ◌-◌, ◌*◌, ◌≤◌, ◌<◌}
use native.Mathlib.Omega.{arith}
use mathlib.Core.Bool.{Bool, true, false, cond}
use mathlib.Core.List.{List, [], ◌∷◌, ◌++◌}
use lib.Dec.{T, leb, ltb, lt→ltb}
use lib.Pow.{are_bytes}
use lib.ListN.{length, get_or, take, drop, set, replicate, length-append, length-drop, length-replicate, length-set}
use lib.Seq.{sets, length-sets, length-take-le}
use lib.Ieee.{Float}
use borrow.Author.Tests.{le-leb, lt-leb}
use Rattle.answer.specs.Refusals.{Answered, refusal}
use Rattle.answer.specs.Outcome.{Outcome, outcome}
use Rattle.answer.proofs.Outcomes.{was_refused, was_done}
use Rattle.bits.specs.Bits.{bits_of, bits}
use Rattle.bits.proofs.Numbers.{num-lt}
use Rattle.bits.proofs.Bytes.{bits-set}
use Rattle.bits.proofs.Fields.{sets_append}
use Rattle.format.specs.Format.{Format, bytes_of, bytes_for, encode}
use Rattle.format.proofs.Tests.{and_in}
use Rattle.format.proofs.Files.{bits-bytes_of, bytes_of_bits}
use Rattle.job.specs.Job.{Job}
use Rattle.job.specs.Checks.{plain_answer}
use Rattle.job.specs.Gives.{Ready, Lent, Plain}
use Rattle.job.proofs.Ready.{plain_ready}
use Rattle.sheet_format.specs.declared.Edition.{Edition}
use Rattle.sheet_format.specs.Sheet.{edition_of, sheet, size_of}
use Rattle.sheet_pack.specs.Packed.{sheet_of, sheet_bits}
use Rattle.sheet_pack.proofs.Prints.{sheet-size, sheet-print}
use Rattle.sheet_room.specs.Room.{place_for}
use Rattle.sheet_room.proofs.Places.{unplaced}
use Rattle.std.specs.Prelude.{Ok, Err}
use Rattle.sheet.specs.Sheets.{Writing, file_of, stored_in, write_def}

-- each element is a byte, as a slice of bytes has it
abbrev pub Bytewise : List ℕ → Type 0
Bytewise s = (i : ℕ) → get_or s i 0 < 256

pub are_bytes_lem : (s : List ℕ) → Bytewise s → T (are_bytes s)
are_bytes_lem [] b = tt
are_bytes_lem (x ∷ s) b = and_in (ltb x 256) (are_bytes s) (lt→ltb x 256 (b 0)) (are_bytes_lem s (λ i. b (suc i)))

-- bytes are known by their bits
same_bytes_lem : (a b : List ℕ) → length a ≡ length b → Bytewise a → Bytewise b → bits a ≡ bits b → a ≡ b
same_bytes_lem a b l ha hb e =
    sym (bytes_of_bits (length b) a (are_bytes_lem a ha) l) ∙ ap (bytes_of (length b)) e ∙ bytes_of_bits (length b) b (are_bytes_lem b hb) refl

-- ---- bytes stored are their bits stored
bits-sets : (vs s : List ℕ) (j : ℕ) → j + length vs ≤ length s → bits (sets s j vs) ≡ sets (bits s) (8 * j) (bits vs)
bits-sets [] s j h = refl
bits-sets (v ∷ vs) s j h =
    let next : 8 * suc j ≡ 8 * j + 8 = omega arith in
    bits-sets vs (set s j v) (suc j) (rw length-set (omega arith))
    ∙ ap₂ (λ (x : List Bool) (i : ℕ). sets x i (bits vs)) (bits-set s j v (omega arith)) next
    ∙ sym (sets_append (bits_of 8 v) (bits vs) (bits s) (8 * j))

bytewise_set : (s : List ℕ) (j v : ℕ) → v < 256 → Bytewise s → Bytewise (set s j v)
bytewise_set [] j v h b i = b i
bytewise_set (x ∷ s) zero v h b zero = h
bytewise_set (x ∷ s) zero v h b (suc i) = b (suc i)
bytewise_set (x ∷ s) (suc j) v h b zero = b 0
bytewise_set (x ∷ s) (suc j) v h b (suc i) = bytewise_set s j v h (λ k. b (suc k)) i

bytewise_sets : (vs s : List ℕ) (j : ℕ) → Bytewise vs → Bytewise s → Bytewise (sets s j vs)
bytewise_sets [] s j v b = b
bytewise_sets (x ∷ vs) s j v b = bytewise_sets vs (set s j x) (suc j) (λ i. v (suc i)) (bytewise_set s j x (v 0) b)

bytewise_of : (n : ℕ) (l : List Bool) → length l ≡ 8 * n → Bytewise (bytes_of n l)
bytewise_of zero l e i = omega arith
bytewise_of (suc n) l e zero = num-lt 8 (take 8 l) (length-take-le 8 l (omega arith))
bytewise_of (suc n) l e (suc i) = bytewise_of n (drop 8 l) (length-drop 8 l ∙ omega arith) i

length-bytes_of : (n : ℕ) (l : List Bool) → length (bytes_of n l) ≡ n
length-bytes_of zero l = refl
length-bytes_of (suc n) l = ap suc (length-bytes_of n (drop 8 l))

-- the file of a format is bytes
pub encoded_bytes : {A : Type 0} (F : Format A) (a : A) → T (are_bytes (encode F a))
encoded_bytes F a =
    let p : List Bool = F.print a in
    let n : ℕ = bytes_for (length p) in
    let k : ℕ = 8 * n - length p in
    let whole : length (p ++ replicate k false) ≡ 8 * n = length-append p (replicate k false) ∙ omega (arith, length-replicate k false) in
    are_bytes_lem (encode F a) (bytewise_of n (p ++ replicate k false) whole)

-- whole bytes of bits, stored at the front
stored_front : (old new : List ℕ) (n : ℕ) (q : List Bool) → Bytewise old → Bytewise new → length new ≡ length old → length q ≡ 8 * n → n ≤ length old
    → bits new ≡ sets (bits old) 0 q → new ≡ sets old 0 (bytes_of n q)
stored_front old new n q ho hn ln lq room e =
    same_bytes_lem new (sets old 0 (bytes_of n q)) (ln ∙ sym (length-sets old 0 (bytes_of n q))) hn (bytewise_sets (bytes_of n q) old 0 (bytewise_of n q lq) ho)
    (e ∙ ap (sets (bits old) 0) (sym (bits-bytes_of n q lq)) ∙ sym (bits-sets (bytes_of n q) old 0 (omega (arith, length-bytes_of n q))))

-- ---- the file of a job's sheet
module _ (E : Edition) (J : Job) (R : Ready J) (palette : List Float) (L : Lent J.S J.C palette) where
  abbrev wide : ℕ
  wide = size_of E J.S J.C J.T (length J.counts)

  printed_long : length ((sheet E).print (sheet_of J palette)) ≡ wide
  printed_long = ap length (sheet-print J R palette L E) ∙ sheet-size J R palette L E

  pub file_long : length (encode (sheet E) (sheet_of J palette)) ≡ bytes_for wide
  file_long = for_any ((sheet E).print (sheet_of J palette)) printed_long
    where
      for_any : (p : List Bool) → length p ≡ wide → length (bytes_of (bytes_for (length p)) (p ++ replicate (8 * bytes_for (length p) - length p) false)) ≡ bytes_for wide
      for_any p e = length-bytes_of (bytes_for (length p)) (p ++ replicate (8 * bytes_for (length p) - length p) false) ∙ ap bytes_for e

  pub file_stored : (old new : List ℕ) (n : ℕ) → n ≡ wide → Bytewise old → Bytewise new → length new ≡ length old → bytes_for n ≤ length old
      → bits new ≡ sets (bits old) 0 (sheet_bits E (sheet_of J palette) ++ replicate (8 * bytes_for n - n) false)
      → new ≡ sets old 0 (encode (sheet E) (sheet_of J palette))
  file_stored old new n en ho hn ln room e =
      for_any ((sheet E).print (sheet_of J palette)) (printed_long ∙ sym en) (sym (sheet-print J R palette L E))
    where
      for_any : (p : List Bool) → length p ≡ n → sheet_bits E (sheet_of J palette) ≡ p
          → new ≡ sets old 0 (bytes_of (bytes_for (length p)) (p ++ replicate (8 * bytes_for (length p) - length p) false))
      for_any p lp ep =
          let q : List Bool = p ++ replicate (8 * bytes_for n - n) false in
          let lq : length q ≡ 8 * bytes_for n = length-append p (replicate (8 * bytes_for n - n) false) ∙ omega (arith, length-replicate (8 * bytes_for n - n) false) in
          stored_front old new (bytes_for n) q ho hn ln lq room (e ∙ ap (λ (x : List Bool). sets (bits old) 0 (x ++ replicate (8 * bytes_for n - n) false)) ep)
          ∙ ap (λ (i : ℕ). sets old 0 (bytes_of (bytes_for i) (p ++ replicate (8 * bytes_for i - i) false))) (sym lp)

-- ---- the answer
module _ (file old : List ℕ) where
  abbrev in_place : Outcome Writing (List ℕ)
  in_place = outcome (Ok (length file)) (sets old 0 file)

  abbrev no_room : Outcome Writing (List ℕ)
  no_room = outcome (Err (refusal 3 0)) old

  abbrev too_long : Outcome Writing (List ℕ)
  too_long = outcome (Err (refusal 13 0)) old

  large : 65536 < length file → too_long ≡ stored_in file old
  unfolding stored_in
  large h = sym (ap (λ (b : Bool). cond b (cond (leb (length file) (length old)) in_place no_room) too_long) (lt-leb (length file) 65536 h))

  within : length file ≤ 65536 → stored_in file old ≡ cond (leb (length file) (length old)) in_place no_room
  unfolding stored_in
  within h = ap (λ (b : Bool). cond b (cond (leb (length file) (length old)) in_place no_room) too_long) (le-leb (length file) 65536 h)

  roomless : length file ≤ 65536 → length old < length file → no_room ≡ stored_in file old
  roomless h l = sym (within h ∙ ap (λ (b : Bool). cond b in_place no_room) (lt-leb (length file) (length old) l))

  -- a file that has its place is stored
  pub stored_in-place : length file ≤ 65536 → length file ≤ length old → stored_in file old ≡ in_place
  stored_in-place h l = within h ∙ ap (λ (b : Bool). cond b in_place no_room) (le-leb (length file) (length old) l)

  stored : (n : ℕ) (new : List ℕ) → length file ≤ 65536 → length file ≤ length old → n ≡ length file → new ≡ sets old 0 file → outcome (Ok n) new ≡ stored_in file old
  stored n new h l en e = ap₂ {C = Outcome Writing (List ℕ)} (λ i v. outcome (Ok i) v) en e ∙ sym (stored_in-place h l)

module _ (J : Job) (palette : List Float) (old : List ℕ) (r : Answered) (e : r ≡ plain_answer J palette true) where
  -- the job's own refusals come first
  pub job-refused : (r.number ≡ 0 → ⊥) → outcome (Err r) old ≡ write_def J palette old
  unfolding write_def
  job-refused z = was_refused r (plain_answer J palette true) e (stored_in (file_of J palette) old) (λ x. Err x) old z

  module _ (z : r.number ≡ 0) where
    pub passed : Plain J palette true
    passed = plain_ready J palette true (subst (λ (x : Answered). x.number ≡ 0) e z)

    by_file : (x : Outcome Writing (List ℕ)) → x ≡ stored_in (file_of J palette) old → x ≡ write_def J palette old
    unfolding write_def
    by_file x f = was_done r (plain_answer J palette true) e (stored_in (file_of J palette) old) (λ x. Err x) old z x f

    module _ (E : Edition) (named : E ≡ edition_of J.size) (n k : ℕ) (en : n ≡ size_of E J.S J.C J.T (length J.counts)) (ek : k ≡ bytes_for n) where
      file_is : k ≡ length (file_of J palette)
      file_is =
          ek ∙ ap bytes_for en ∙ sym (file_long E J passed.ready palette passed.lent)
          ∙ ap (λ (x : Edition). length (encode (sheet x) (sheet_of J palette))) named

      too_large : 65536 < k → outcome (Err (refusal 13 0)) old ≡ write_def J palette old
      too_large h = by_file _ (large (file_of J palette) old (subst (λ (i : ℕ). 65536 < i) file_is h))

      roomless_place : k ≤ 65536 → length old < k → outcome (Err (refusal 3 0)) old ≡ write_def J palette old
      roomless_place h l = by_file _ (roomless (file_of J palette) old (subst (λ (i : ℕ). i ≤ 65536) file_is h) (subst (λ (i : ℕ). length old < i) file_is l))

      pub no_place : (y : Answered) → y ≡ place_for k (length old) → (y.number ≡ 0 → ⊥) → outcome (Err y) old ≡ write_def J palette old
      no_place y ey h = unplaced k (length old) y ey (λ x. outcome (Err x) old ≡ write_def J palette old) h too_large roomless_place

      pub file_written : (new : List ℕ) → k ≤ 65536 → k ≤ length old → Bytewise old → Bytewise new → length new ≡ length old
          → bits new ≡ sets (bits old) 0 (sheet_bits E (sheet_of J palette) ++ replicate (8 * bytes_for n - n) false)
          → outcome (Ok k) new ≡ write_def J palette old
      file_written new h l ho hn ln f =
          by_file _
          (stored (file_of J palette) old k new (subst (λ (i : ℕ). i ≤ 65536) file_is h) (subst (λ (i : ℕ). i ≤ length old) file_is l) file_is
          (file_stored E J passed.ready palette passed.lent old new n en ho hn ln (omega arith) f
          ∙ ap (λ (x : Edition). sets old 0 (encode (sheet x) (sheet_of J palette))) named))
