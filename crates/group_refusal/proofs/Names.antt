-- What an answer's index says: of 7 the first pixel with a fault, of any other number nothing; and 0 comes with no index. Assumes nothing.
use Prim.Native.Nat.{ℕ, zero, suc, ◌+◌, ◌<◌}
use mathlib.Core.Path.{◌≡◌, refl}
use mathlib.Core.Bool.{Bool, true, false, cond}
use native.Mathlib.Omega.{arith}
use lib.Dec.{eqb}
use borrow.Author.Count.{below_none, below_more}
use borrow.Author.Tests.{eqb-true, eqb-false}
use Rattle.color.specs.Color.{colour_at}
use Rattle.answer.specs.Refusals.{Answered, refusal, nothing}
use Rattle.answer.specs.Names.{Names}
use Rattle.answer.proofs.Places.{aside_names}
use Rattle.group_pixels.specs.Pixel.{rgba_at, kept, in_gamut}
use Rattle.group_refusal.specs.Faults.{first_of, clashes, fault}
use Rattle.group_refusal.specs.Refusal.{Pixels, EntryRoom, pixels_fit, refusal_where, group_answer, pixel_names}

-- ---- whatever holds of nothing and of the first fault holds of the search
abbrev Clear : (ℕ → Answered) → ℕ → Type 0
Clear f k = (i : ℕ) → i < k → (f i).number ≡ 0

module _ (P : Answered → Type 0) (f : ℕ → Answered) (p : ℕ) (found : (k : ℕ) → k < p → Clear f k → ((f k).number ≡ 0 → ⊥) → P (f k)) (none : P nothing) where
  first_from : (i n : ℕ) → i + n ≡ p → Clear f i → P (first_of f i n)
  unfolding first_of
  first_from i zero e passed = none
  first_from i (suc n) e passed = by (eqb (f i).number 0) refl (λ z. first_from (i + 1) n (omega arith) (below_more _ _ passed z))
    where
      by : (b : Bool) → eqb (f i).number 0 ≡ b → ((f i).number ≡ 0 → P (first_of f (i + 1) n)) → P (cond b (first_of f (i + 1) n) (f i))
      by true g rest = rest (eqb-true (f i).number 0 g)
      by false g rest = found i (omega arith) passed (eqb-false (f i).number 0 g)

  pub first_of-all : P (first_of f 0 p)
  first_of-all = first_from 0 p (omega arith) (below_none _)

-- and with 2 and 3 of the answer
answer_by : (P : Answered → Type 0) (size : ℕ) (q : Pixels) (fits : Bool)
    → P (refusal 2 0) → P (refusal 3 0) → P (first_of (fault q.bytes q.oklab q.zero) 0 q.p) → P (refusal_where size q fits)
unfolding refusal_where
answer_by P size q fits two three first = by (pixels_fit size q.p) fits
  where
    by : (a b : Bool) → P (cond a (cond b (first_of (fault q.bytes q.oklab q.zero) 0 q.p) (refusal 3 0)) (refusal 2 0))
    by true true = first
    by true false = three
    by false b = two

-- ---- the pixel that is named
fault_names : (q : Pixels) (k : ℕ) → k < q.p → Clear (fault q.bytes q.oklab q.zero) k → Names (pixel_names q) (fault q.bytes q.oklab q.zero k)
unfolding fault
fault_names q k there passed = by (kept q.zero (rgba_at q.bytes k)) (in_gamut (colour_at q.oklab k)) (clashes q.bytes q.oklab k) refl refl
  where
    by : (a b c : Bool) → kept q.zero (rgba_at q.bytes k) ≡ a → in_gamut (colour_at q.oklab k) ≡ b
        → Names (pixel_names q) (cond a (cond b (cond c (refusal 14 0) nothing) (refusal 7 k)) nothing)
    by true true true is_kept out = aside_names (pixel_names q) 14 refl
    by true true false is_kept out = aside_names (pixel_names q) 0 refl
    by true false c is_kept out =
        (λ e. record { there = there; is_kept = is_kept; out = out; none_before = passed }, λ n. absurd (n refl))
    by false b c is_kept out = aside_names (pixel_names q) 0 refl

pub answer_names : (size : ℕ) (q : Pixels) (m : EntryRoom) → Names (pixel_names q) (group_answer size q m)
answer_names size q m =
    answer_by (Names (pixel_names q)) size q _ (aside_names (pixel_names q) 2 refl) (aside_names (pixel_names q) 3 refl)
    (first_of-all (Names (pixel_names q)) (fault q.bytes q.oklab q.zero) q.p (λ k there passed bad. fault_names q k there passed) (aside_names (pixel_names q) 0 refl))

-- ---- what is accepted is answered with nothing
abbrev NothingAtZero : Answered → Type 0
NothingAtZero e = e.number ≡ 0 → e ≡ nothing

pub accepted-nothing : (size : ℕ) (q : Pixels) (m : EntryRoom) → (group_answer size q m).number ≡ 0 → group_answer size q m ≡ nothing
accepted-nothing size q m =
    answer_by NothingAtZero size q _ (λ e. absurd (omega arith)) (λ e. absurd (omega arith))
    (first_of-all NothingAtZero (fault q.bytes q.oklab q.zero) q.p (λ k there passed bad e. absurd (bad e)) (λ e. refl))
