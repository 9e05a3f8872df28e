-- A refusal's number is never that of what is done; number and index are those of one refusal; what `?` passes on. Assumes nothing.
use Prim.Native.Nat.{ℕ}
use mathlib.Core.Path.{refl, sym}
use mathlib.Core.Bool.{cond}
use lib.Dec.{eqb}
use Rattle.std.proofs.Common.{◌≡◌, Result, Ok, Err, ap, ◌∙◌}
use Rattle.std.specs.Result.{IsErr, IsErrAnd}
use Rattle.std.proofs.lemmas.Result.{err_from_is_err_and}
use native.Mathlib.Omega.{arith}
use Rattle.answer.specs.declared.Refusal.{Refusal}
use Rattle.answer.specs.declared.Refusal.TheVariants.{NoSamples, Sizes, Lengths, Weight, Tiles, Counts, Colour, Samples, Order, Record, Moment, SheetHead, SheetBytes, SameColour, EmptyTile, WorkingColour, ReducedColour, OtherSizes}
use Rattle.answer.specs.Refusals.{Answered, number_of, index_of, numbered_as, refusal_of, by_number}

pub never_done : (e : Refusal) → number_of e ≡ 0 → ⊥
never_done NoSamples h = omega (arith, h)
never_done Sizes h = omega (arith, h)
never_done Lengths h = omega (arith, h)
never_done Weight h = omega (arith, h)
never_done Tiles h = omega (arith, h)
never_done Counts h = omega (arith, h)
never_done (Colour i) h = omega (arith, h)
never_done Samples h = omega (arith, h)
never_done Order h = omega (arith, h)
never_done Record h = omega (arith, h)
never_done Moment h = omega (arith, h)
never_done SheetHead h = omega (arith, h)
never_done SheetBytes h = omega (arith, h)
never_done SameColour h = omega (arith, h)
never_done EmptyTile h = omega (arith, h)
never_done (WorkingColour i) h = omega (arith, h)
never_done (ReducedColour i) h = omega (arith, h)
never_done OtherSizes h = omega (arith, h)

-- what the exit of a `?` returns
pub passed_on : {A : Type 0} (r : Result A Refusal) (e : Refusal) → IsErr r × IsErrAnd r (λ (y : Refusal). y ≡ e) → r ≡ Err e
passed_on r e h = let p = err_from_is_err_and r h.1 in p.1 ∙ ap Err p.2

-- ---- the refusal that a number and an index are those of
abbrev numbered : ℕ → ℕ → Refusal
numbered n i =
    cond (eqb n 1) NoSamples (cond (eqb n 2) Sizes (cond (eqb n 3) Lengths (cond (eqb n 4) Weight (cond (eqb n 5) Tiles (cond (eqb n 6) Counts (cond (eqb n 7) (Colour i) (cond (eqb n 8) Samples (cond (eqb n 9) Order (cond (eqb n 10) Record (cond (eqb n 11) Moment (cond (eqb n 12) SheetHead (cond (eqb n 13) SheetBytes (cond (eqb n 14) SameColour (cond (eqb n 15) EmptyTile (cond (eqb n 16) (WorkingColour i) (cond (eqb n 17) (ReducedColour i) OtherSizes))))))))))))))))

abbrev named : Answered → Refusal
named e = numbered e.number e.index

named_back : (e : Refusal) → named (numbered_as e) ≡ e
named_back NoSamples = refl
named_back Sizes = refl
named_back Lengths = refl
named_back Weight = refl
named_back Tiles = refl
named_back Counts = refl
named_back (Colour i) = refl
named_back Samples = refl
named_back Order = refl
named_back Record = refl
named_back Moment = refl
named_back SheetHead = refl
named_back SheetBytes = refl
named_back SameColour = refl
named_back EmptyTile = refl
named_back (WorkingColour i) = refl
named_back (ReducedColour i) = refl
named_back OtherSizes = refl

pub refusal_alone : (a b : Refusal) → numbered_as a ≡ numbered_as b → a ≡ b
refusal_alone a b e = sym (named_back a) ∙ ap named e ∙ named_back b

-- a value, or a refusal by its number, is that of one answer
pub answer_alone : {A : Type 0} (x y : Result A Refusal) → by_number x ≡ by_number y → x ≡ y
answer_alone {A} x y e = sym (back x) ∙ ap named_in e ∙ back y
  where
    named_in : Result A Answered → Result A Refusal
    named_in (Ok v) = Ok v
    named_in (Err r) = Err (named r)

    back : (z : Result A Refusal) → named_in (by_number z) ≡ z
    back (Ok v) = refl
    back (Err r) = ap Err (named_back r)

-- nothing wrong, or a refusal by its number, is that of one answer too
pub done_alone : {A : Type 0} → ((u v : A) → u ≡ v) → (x y : Result A Refusal) → refusal_of x ≡ refusal_of y → x ≡ y
done_alone one (Ok u) (Ok v) e = ap Ok (one u v)
done_alone one (Ok u) (Err r) e = absurd (never_done r (sym (ap (λ (z : Answered). z.number) e)))
done_alone one (Err r) (Ok v) e = absurd (never_done r (ap (λ (z : Answered). z.number) e))
done_alone one (Err r) (Err q) e = ap Err (refusal_alone r q e)
