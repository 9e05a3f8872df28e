-- A format: how values are read from bits, how they are written, which values have a writing, and how many indexed values one holds, so that
-- a fault says how many it stands behind; and a format's bits as a file.
-- Definitions only. Assumes nothing.
use Rattle.std.specs.Prelude.{ℕ, zero, suc, pred, ◌+◌, ◌-◌, ◌*◌, ◌/◌, ◌^◌, Bool, true, false, ◌&&◌, cond, List, [], ◌∷◌, ◌++◌, leb, ltb, eqb, length, take, drop, replicate}
use Rattle.answer.specs.Refusals.{Answered, refusal}
use Rattle.bits.specs.Bits.{bits_of, num, bits}

-- what reading finds: a fault's number and how many indexed values stand before it, or a value and the bits behind it
pub data Res (A : Type 0) : Type 0 where
  fault : ℕ → ℕ → Res A
  got : A → List Bool → Res A

abbrev pub next : {A B : Type 0} → Res A → (A → List Bool → Res B) → Res B
next (fault n i) f = fault n i
next (got a r) f = f a r

-- what is read behind k indexed values
abbrev pub past : {A : Type 0} → ℕ → Res A → Res A
past k (fault n i) = fault n (k + i)
past k (got a r) = got a r

pub record Format (A : Type 0) : Type 0 where
  pub parse : List Bool → Res A
  pub print : A → List Bool
  pub good : A → Bool
  pub counts : A → ℕ

-- each value is an indexed one
abbrev pub indexed : {A : Type 0} → Format A → Format A
indexed F = record { parse = F.parse; print = F.print; good = F.good; counts = λ a. 1 }

-- k bits, as a number
abbrev pub field : ℕ → Format ℕ
field k = record {
  parse = λ l. cond (leb k (length l)) (got (num (take k l)) (drop k l)) (fault 13 0);
  print = λ v. bits_of k v;
  good = λ v. ltb v (2 ^ k);
  counts = λ v. 0;
}

-- fault n where the test fails
abbrev pub checked : {A : Type 0} → ℕ → (A → Bool) → Format A → Format A
checked n t F = record {
  parse = λ l. next (F.parse l) (λ a r. cond (t a) (got a r) (fault n 0));
  print = F.print;
  good = λ a. F.good a && t a;
  counts = F.counts;
}

-- another type for the same values
abbrev pub mapped : {A B : Type 0} → (A → B) → (B → A) → (B → Bool) → Format A → Format B
mapped f g t F = record {
  parse = λ l. next (F.parse l) (λ a r. got (f a) r);
  print = λ b. F.print (g b);
  good = λ b. t b && F.good (g b);
  counts = λ b. F.counts (g b);
}

-- a number stored as one less, in k bits
abbrev pub above : ℕ → Format ℕ
above k = mapped suc pred (λ n. ltb 0 n) (field k)

-- one value, then another whose format goes by the first
abbrev pub both : {A B : Type 0} → Format A → (A → Format B) → Format (A × B)
both F G = record {
  parse = λ l. next (F.parse l) (λ a r. next (past (F.counts a) ((G a).parse r)) (λ b q. got (a, b) q));
  print = λ x. F.print x.0 ++ (G x.0).print x.1;
  good = λ x. F.good x.0 && (G x.0).good x.1;
  counts = λ x. F.counts x.0 + (G x.0).counts x.1;
}

-- the k bits of v, or fault n; then F
abbrev pub literal : {A : Type 0} → ℕ → ℕ → ℕ → Format A → Format A
literal k v n F = record {
  parse = λ l. next ((field k).parse l) (λ w r. cond (eqb w v) (F.parse r) (fault n 0));
  print = λ a. bits_of k v ++ F.print a;
  good = λ a. ltb v (2 ^ k) && F.good a;
  counts = F.counts;
}

-- lists: none, one more
abbrev pub is_nil : {A : Type 0} → List A → Bool
is_nil [] = true
is_nil (a ∷ s) = false

abbrev pub none : {A : Type 0} → Format (List A)
none = record { parse = λ l. got [] l; print = λ s. []; good = is_nil; counts = λ s. 0 }

abbrev pub print_cons : {A : Type 0} → Format A → (A → Format (List A)) → List A → List Bool
print_cons F G [] = []
print_cons F G (a ∷ s) = F.print a ++ (G a).print s

abbrev pub good_cons : {A : Type 0} → Format A → (A → Format (List A)) → List A → Bool
good_cons F G [] = false
good_cons F G (a ∷ s) = F.good a && (G a).good s

abbrev pub counts_cons : {A : Type 0} → Format A → (A → Format (List A)) → List A → ℕ
counts_cons F G [] = 0
counts_cons F G (a ∷ s) = F.counts a + (G a).counts s

abbrev pub cons : {A : Type 0} → Format A → (A → Format (List A)) → Format (List A)
cons F G = record {
  parse = λ l. next (F.parse l) (λ a r. next (past (F.counts a) ((G a).parse r)) (λ s q. got (a ∷ s) q));
  print = print_cons F G;
  good = good_cons F G;
  counts = counts_cons F G;
}

abbrev pub times : {A : Type 0} → ℕ → Format A → Format (List A)
times zero F = none
times (suc n) F = cons F (λ a. times n F)

-- a list's length, by N, which is no indexed value, then the list, by G at that length
abbrev pub counted : {A : Type 0} → Format ℕ → (ℕ → Format (List A)) → Format (List A)
counted N G = record {
  parse = λ l. next (N.parse l) (λ n r. (G n).parse r);
  print = λ s. N.print (length s) ++ (G (length s)).print s;
  good = λ s. N.good (length s) && (G (length s)).good s;
  counts = λ s. (G (length s)).counts s;
}

-- ---- a file: a format's bits, then zeros to the byte's end
abbrev pub clear : List Bool → Bool
clear [] = true
clear (true ∷ l) = false
clear (false ∷ l) = clear l

pub data Answer (A : Type 0) : Type 0 where
  refused : Answered → Answer A
  accepted : A → Answer A

-- `blame` makes a refusal of a fault's number and what it stands behind; bits behind the last field name no entry
abbrev pub ended : {A : Type 0} → (ℕ → ℕ → Answered) → Res A → Answer A
ended blame (fault n i) = refused (blame n i)
ended blame (got a r) = cond (ltb (length r) 8 && clear r) (accepted a) (refused (refusal 13 0))

abbrev pub read_of : {A : Type 0} → (ℕ → ℕ → Answered) → Format A → List ℕ → Answer A
read_of blame F s = ended blame (F.parse (bits s))

-- n bytes of bits
abbrev pub bytes_of : ℕ → List Bool → List ℕ
bytes_of zero l = []
bytes_of (suc n) l = num (take 8 l) ∷ bytes_of n (drop 8 l)

abbrev pub bytes_for : ℕ → ℕ
bytes_for n = (n + 7) / 8

abbrev pub encode : {A : Type 0} → Format A → A → List ℕ
encode F a = bytes_of (bytes_for (length (F.print a))) (F.print a ++ replicate (8 * bytes_for (length (F.print a)) - length (F.print a)) false)
