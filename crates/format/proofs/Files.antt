-- A lawful format as a file: reading and writing bytes are exact inverses on what is accepted. Assumes nothing.
use mathlib.Core.Path.{◌≡◌, refl, sym, ap, ap₂, ◌∙◌}
use Prim.Native.Nat.{ℕ, zero, suc, ◌+◌, ◌-◌, ◌*◌, ◌<◌}
use native.Mathlib.Omega.{arith}
use mathlib.Core.Bool.{Bool, true, false, ◌&&◌, cond}
use mathlib.Core.List.{List, [], ◌∷◌, ◌++◌}
use lib.Dec.{T, ltb, lt→ltb, ltb→lt}
use lib.Pow.{are_bytes}
use lib.ListN.{length, take, drop, replicate, length-append, length-drop, length-replicate, take-append-drop}
use lib.Seq.{take_at, drop_at, length-take-le}
use Rattle.bits.specs.Bits.{bits_of, num, bits}
use Rattle.bits.proofs.Numbers.{length-bits_of, num-bits_of, bits_of-num}
use Rattle.bits.proofs.Bytes.{length-bits}
use Rattle.answer.specs.Refusals.{Answered, refusal}
use Rattle.format.specs.Format.{Res, fault, got, Format, Answer, refused, accepted, clear, ended, read_of, bytes_of, bytes_for, encode}
use Rattle.format.proofs.Tests.{and_l, and_r, and_in}
use Rattle.format.proofs.Lawful.{Lawful}

no_bits : (l : List Bool) → length l ≡ 0 → [] ≡ l
no_bits [] e = refl
no_bits (b ∷ l) e = absurd (omega arith)

pub bits-bytes_of : (n : ℕ) (l : List Bool) → length l ≡ 8 * n → bits (bytes_of n l) ≡ l
bits-bytes_of zero l e = no_bits l (omega arith)
bits-bytes_of (suc n) l e =
    ap₂ (λ (a b : List Bool). a ++ b)
    (bits_of-num 8 (take 8 l) (length-take-le 8 l (omega arith)))
    (bits-bytes_of n (drop 8 l) (omega (arith, length-drop 8 l)))
    ∙ take-append-drop 8 l

pub bytes_of_bits : (n : ℕ) (s : List ℕ) → T (are_bytes s) → length s ≡ n → bytes_of n (bits s) ≡ s
bytes_of_bits zero [] h e = refl
bytes_of_bits zero (x ∷ s) h e = absurd (omega arith)
bytes_of_bits (suc n) [] h e = absurd (omega arith)
bytes_of_bits (suc n) (x ∷ s) h e =
    ap₂ {C = List ℕ} (λ a b. a ∷ b)
    (ap num (take_at (bits_of 8 x) (bits s) 8 (length-bits_of 8 x)) ∙ num-bits_of 8 x (ltb→lt x 256 (and_l (ltb x 256) (are_bytes s) h)))
    (ap (bytes_of n) (drop_at (bits_of 8 x) (bits s) 8 (length-bits_of 8 x)) ∙ bytes_of_bits n s (and_r (ltb x 256) (are_bytes s) h) (omega arith))

clear-is : (r : List Bool) → T (clear r) → replicate (length r) false ≡ r
clear-is [] h = refl
clear-is (true ∷ r) h = absurd h
clear-is (false ∷ r) h = ap {B = List Bool} (λ l. false ∷ l) (clear-is r h)

clear-zeros : (n : ℕ) → T (clear (replicate n false))
clear-zeros zero = tt
clear-zeros (suc n) = clear-zeros n

module _ {A : Type 0} where
  cond_accepts : (t : Bool) (a : A) → T t → cond t (accepted a) (refused (refusal 13 0)) ≡ accepted a
  cond_accepts true a h = refl
  cond_accepts false a h = absurd h

  never : (n : Answered) (a : A) → ◌≡◌ {A = Answer A} (refused n) (accepted a) → ⊥
  never n a e = let z : ◌≡◌ {A = ℕ} 0 1 = cc in omega arith

  accepted-same : (a b : A) → ◌≡◌ {A = Answer A} (accepted a) (accepted b) → a ≡ b
  accepted-same a b e = cc

  cond-accepted : (t : Bool) (a b : A) → cond t (accepted a) (refused (refusal 13 0)) ≡ accepted b → T t × (a ≡ b)
  cond-accepted true a b e = (tt, accepted-same a b e)
  cond-accepted false a b e = absurd (never (refusal 13 0) b e)

  pub ended-accepted : (blame : ℕ → ℕ → Answered) (x : Res A) (b : A) → ended blame x ≡ accepted b → (r : List Bool) × (x ≡ got b r) × (length r < 8) × T (clear r)
  ended-accepted blame (fault n i) b e = absurd (never (blame n i) b e)
  ended-accepted blame (got a r) b e =
      let c = cond-accepted (ltb (length r) 8 && clear r) a b e in
      (r, ap (λ (o : A). got o r) c.1, ltb→lt (length r) 8 (and_l (ltb (length r) 8) (clear r) c.0), and_r (ltb (length r) 8) (clear r) c.0)

module _ {A : Type 0} (blame : ℕ → ℕ → Answered) (F : Format A) (L : Lawful F) where
  -- what is written is read back
  pub decode_encode : (a : A) → T (F.good a) → read_of blame F (encode F a) ≡ accepted a
  decode_encode a h =
      let p : List Bool = F.print a in
      let n : ℕ = bytes_for (length p) in
      let k : ℕ = 8 * n - length p in
      let e : length (p ++ replicate k false) ≡ 8 * n = length-append p (replicate k false) ∙ omega (arith, length-replicate k false) in
      ap (λ (l : List Bool). ended blame (F.parse l)) (bits-bytes_of n (p ++ replicate k false) e)
      ∙ ap (ended blame) (L.there a h (replicate k false))
      ∙ cond_accepts (ltb (length (replicate k false)) 8 && clear (replicate k false)) a
      (and_in (ltb (length (replicate k false)) 8) (clear (replicate k false))
      (lt→ltb (length (replicate k false)) 8 (omega (arith, length-replicate k false)))
      (clear-zeros k))

  -- and what is read was written so
  pub encode_decode : (s : List ℕ) (a : A) → T (are_bytes s) → read_of blame F s ≡ accepted a → (encode F a ≡ s) × T (F.good a)
  encode_decode s a h e =
      let (r, x, short, zeros) = ended-accepted blame (F.parse (bits s)) a e in
      let m = L.back (bits s) a r x in
      let len : length (F.print a) + length r ≡ 8 * length s = sym (length-append (F.print a) r) ∙ sym (ap length m.0) ∙ length-bits s in
      let n : bytes_for (length (F.print a)) ≡ length s = omega arith in
      let k : 8 * length s - length (F.print a) ≡ length r = omega arith in (
        ap (λ (i : ℕ). bytes_of i (F.print a ++ replicate (8 * i - length (F.print a)) false)) n
            ∙ ap (λ (i : ℕ). bytes_of (length s) (F.print a ++ replicate i false)) k
            ∙ ap (λ (l : List Bool). bytes_of (length s) (F.print a ++ l)) (clear-is r zeros)
            ∙ ap (bytes_of (length s)) (sym m.0)
            ∙ bytes_of_bits (length s) s h refl,
        m.1,
      )
