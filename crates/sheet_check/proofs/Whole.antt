-- What the test of a whole sheet finds, from its head, its parts and the bits behind them. Assumes nothing.
use mathlib.Core.Path.{◌≡◌, refl, sym, ap, ap₂, ◌∙◌}
use Prim.Native.Nat.{ℕ, ◌*◌, ◌≤◌, ◌<◌}
use native.Mathlib.Omega.{arith}
use mathlib.Core.Bool.{Bool, cond, ◌&&◌}
use mathlib.Core.List.{List}
use lib.Dec.{ltb}
use lib.ListN.{length, drop}
use borrow.Author.Tests.{le-leb, lt-leb}
use Rattle.bits.specs.Bits.{bits}
use Rattle.bits.proofs.Bytes.{length-bits}
use Rattle.answer.specs.Refusals.{Answered, refusal}
use Rattle.format.specs.Format.{Res, fault, got, next, Format, both, clear, refused, accepted, ended, read_of}
use Rattle.format.proofs.Reading.{both-fault, both-plain}
use Rattle.sheet_format.proofs.Exact.{rest_lawful}
use Rattle.sheet_format.proofs.Light.{rest_light}
use Rattle.sheet_format.proofs.Headed.{header-rest, header-sized, header-long}
use Rattle.sheet_format.specs.declared.Edition.{Edition}
use Rattle.sheet_format.specs.Sheet.{Header, Colour, Parts, fault_of, whole, header, rest, sheet, read_sheet}
use Rattle.std.specs.Prelude.{Ok, Err}
use Rattle.sheet_colours.specs.declared.At.{At}
use Rattle.sheet_check.specs.declared.Numbers.{Numbers}
use Rattle.sheet_colours.specs.Steps.{step_at}
use Rattle.sheet_check.specs.Steps.{Checked, sound, head_of, checked_of}
use Rattle.sheet_colours.proofs.Turns.{read_at}

-- ---- the head's answer, taken apart
refused-is : (x y : Answered) → ◌≡◌ {A = Checked} (Err x) (Err y) → x ≡ y
refused-is x y e = cc

pub sound-not : (x : Answered) (a b t w : ℕ) → ◌≡◌ {A = Checked} (Err x) (sound a b t w) → ⊥
sound-not x a b t w e = let z : ◌≡◌ {A = ℕ} 0 1 = cc in omega arith

unfoldable numbers : Checked → Numbers
numbers (Ok h) = h
numbers (Err e) = record { subs = 0; each = 0; tiles = 0; weight = 0 }

pub sound-is : (a b t w c d u v : ℕ) → ◌≡◌ {A = Checked} (sound a b t w) (sound c d u v) → (a ≡ c) × (b ≡ d) × (t ≡ u) × (w ≡ v)
unfolding numbers
sound-is a b t w c d u v e =
    (ap (λ (x : Checked). (numbers x).subs) e, ap (λ (x : Checked). (numbers x).each) e, ap (λ (x : Checked). (numbers x).tiles) e, ap (λ (x : Checked). (numbers x).weight) e)

head_fault : (x : Res Header) (z : Answered) → Err z ≡ head_of x → (n : ℕ) × (i : ℕ) × (x ≡ fault n i) × (z ≡ fault_of n i)
head_fault (fault n i) z e = (n, i, refl, refused-is z (fault_of n i) e)
head_fault (got h r) z e = absurd (sound-not z h.0 h.1.0 h.1.1.0 h.1.1.1 e)

pub head_got : (x : Res Header) (a b t w : ℕ) → sound a b t w ≡ head_of x → (r : List Bool) × (x ≡ got (a, (b, (t, w))) r)
head_got (fault n i) a b t w e = absurd (sound-not (fault_of n i) a b t w (sym e))
head_got (got h r) a b t w e =
    let k = sound-is a b t w h.0 h.1.0 h.1.1.0 h.1.1.1 e in
    (r, ap (λ (y : Header). got y r) (sym (ap₂ {C = Header} (λ i j. (i, j)) k.0 (ap₂ {C = ℕ × (ℕ × ℕ)} (λ i j. (i, j)) k.1 (ap₂ {C = ℕ × ℕ} (λ i j. (i, j)) k.2 k.3)))))

module _ (E : Edition) where
  -- a head that was read: its fields, where it ends, its sizes
  pub record Headed (s : List ℕ) (a b t w : ℕ) : Type 0 where
    pub reads : (header E).parse (bits s) ≡ got (a, (b, (t, w))) (drop 86 (bits s))
    pub long : 86 ≤ 8 * length s
    pub cells : a * b ≤ 256

  pub headed_of : (s : List ℕ) (a b t w : ℕ) → sound a b t w ≡ head_of ((header E).parse (bits s)) → Headed s a b t w
  headed_of s a b t w e =
      let (r, x) = head_got ((header E).parse (bits s)) a b t w e in
      record {
        reads = x ∙ ap (got (a, (b, (t, w)))) (header-rest E (bits s) (a, (b, (t, w))) r x);
        long = omega (arith, header-long E (bits s) (a, (b, (t, w))) r x, length-bits s);
        cells = (header-sized E (bits s) (a, (b, (t, w))) r x).cells;
      }

  -- the palette and the tiles that were read behind it, up to bit z
  pub record Parted (s : List ℕ) (n t z : ℕ) : Type 0 where
    pub parts : List ℕ × List (List Colour)
    pub reads : (rest E n t).parse (drop 86 (bits s)) ≡ got parts (drop z (bits s))
    pub reach : z ≤ 8 * length s

  pub parted_of : (s : List ℕ) (n t : ℕ) (a : At) → 86 ≤ 8 * length s → Ok a ≡ step_at (rest E n t) s 86 → Parted s n t a.bit
  parted_of s n t a h e =
      let x = read_at (rest E n t) (rest_lawful E n t) (rest_light E n t) s 86 h (Ok a) e in
      record { parts = x.value; reads = x.reads; reach = omega (arith, x.inside, length-bits s) }

-- ---- the whole
module _ (E : Edition) (s : List ℕ) where
  pub read-long : 65536 < length s → Err (refusal 13 0) ≡ checked_of (read_sheet E s)
  read-long h = sym (ap (λ (b : Bool). checked_of (cond b (read_of fault_of (sheet E) s) (refused (refusal 13 0)))) (lt-leb (length s) 65536 h))

  module _ (fits : length s ≤ 65536) where
    abbrev behind : Header → Format (List ℕ × List (List Colour))
    behind h = rest E (3 * (h.0 * h.1.0)) h.1.1.0

    read_is : (x : Res Parts) → (both (header E) behind).parse (bits s) ≡ x → checked_of (read_sheet E s) ≡ checked_of (ended fault_of (next x (λ y r. got (whole y) r)))
    read_is x e =
        ap (λ (b : Bool). checked_of (cond b (read_of fault_of (sheet E) s) (refused (refusal 13 0)))) (le-leb (length s) 65536 fits)
        ∙ ap (λ (o : Res Parts). checked_of (ended fault_of (next o (λ y r. got (whole y) r)))) e

    pub read_head : (z : Answered) → Err z ≡ head_of ((header E).parse (bits s)) → Err z ≡ checked_of (read_sheet E s)
    read_head z e =
        let (n, i, x, y) = head_fault ((header E).parse (bits s)) z e in
        ap Err y ∙ sym (read_is (fault n i) (both-fault (header E) behind (bits s) n i x))

    module _ (a b t w : ℕ) (r : List Bool) (head : (header E).parse (bits s) ≡ got (a, (b, (t, w))) r) where
      pub read-rest : (n i : ℕ) → (rest E (3 * (a * b)) t).parse r ≡ fault n i → Err (fault_of n i) ≡ checked_of (read_sheet E s)
      read-rest n i e = sym (read_is (fault n i) (both-plain (header E) behind (bits s) (a, (b, (t, w))) r (fault n i) refl head e))

      pub read_end : (x : List ℕ × List (List Colour)) (q : List Bool) (o : Bool) → (rest E (3 * (a * b)) t).parse r ≡ got x q → (ltb (length q) 8 && clear q) ≡ o
          → checked_of (cond o (accepted (whole ((a, (b, (t, w))), x))) (refused (refusal 13 0))) ≡ checked_of (read_sheet E s)
      read_end x q o e f =
          sym (read_is (got ((a, (b, (t, w))), x) q) (both-plain (header E) behind (bits s) (a, (b, (t, w))) r (got x q) refl head e)
          ∙ ap (λ (i : Bool). checked_of (cond i (accepted (whole ((a, (b, (t, w))), x))) (refused (refusal 13 0)))) f)
