-- Laws of the faults of pixels, one after the other. Assumes nothing.
use Rattle.std.specs.Prelude.{Option}
use Prim.Native.Nat.{ℕ, suc, ◌+◌, ◌-◌, ◌<◌, ◌≤◌}
use mathlib.Core.Path.{◌≡◌, refl, sym, ◌∙◌, ap}
use mathlib.Core.Bool.{Bool, true, false, cond}
use mathlib.Core.List.{List}
use native.Mathlib.Omega.{arith}
use lib.Dec.{eqb, ltb}
use lib.Ieee.{Float}
use Rattle.answer.specs.Refusals.{Answered, refusal, nothing}
use borrow.Author.Tests.{ltb-true, ltb-false, eq-eqb, ne_eqb}
use Rattle.color.specs.Color.{colour_at}
use Rattle.group_pixels.specs.declared.Rgb.{Rgb}
use Rattle.group_pixels.specs.Pixel.{rgba_at, kept, in_gamut}
use Rattle.group_refusal.specs.Faults.{some, first_of, clashes, fault, Real}

-- ---- tests

pub then : (b : Bool) (x y v : Answered) → b ≡ true → v ≡ x → v ≡ cond b x y
then b x y v e f = rw e f

pub else : (b : Bool) (x y v : Answered) → b ≡ false → v ≡ y → v ≡ cond b x y
else b x y v e f = rw e f

-- what a test of x said, said of y
pub told : {A : Type 0} (f : A → Bool) {x y : A} {b v : Bool} → x ≡ y → b ≡ f x → b ≡ v → f y ≡ v
told f e g h = ap f (sym e) ∙ sym g ∙ h

-- ---- the loops, by what is left

pub one_more : (i n : ℕ) → i < n → n - i ≡ suc (n - (i + 1))
one_more i n h = omega arith

pub some-start : (f : ℕ → Bool) (n : ℕ) → some f 0 n ≡ some f 0 (n - 0)
some-start f n = let e : n - 0 ≡ n = omega arith in rw e

module _ (f : ℕ → Bool) (i n : ℕ) (whole : Bool) (so_far : whole ≡ some f i (n - i)) where
  some_turn : i < n → whole ≡ cond (f i) true (some f (i + 1) (n - (i + 1)))
  unfolding some
  some_turn h = so_far ∙ rw (one_more i n h)

  pub some-found : i < n → f i ≡ true → true ≡ whole
  some-found h e = sym (rw e at (some_turn h))

  pub some_on : i < n → f i ≡ false → whole ≡ some f (i + 1) (n - (i + 1))
  some_on h e = rw e at (some_turn h)

  pub some-none : n ≤ i → false ≡ whole
  unfolding some
  some-none h = let e : n - i ≡ 0 = omega arith in sym (rw e at so_far)

pub first-start : (f : ℕ → Answered) (n : ℕ) → first_of f 0 n ≡ first_of f 0 (n - 0)
first-start f n = let e : n - 0 ≡ n = omega arith in rw e

module _ (f : ℕ → Answered) (i n : ℕ) (whole : Answered) (so_far : whole ≡ first_of f i (n - i)) where
  first-turn : i < n → whole ≡ cond (eqb (f i).number 0) (first_of f (i + 1) (n - (i + 1))) (f i)
  unfolding first_of
  first-turn h = so_far ∙ rw (one_more i n h)

  pub first_found : i < n → {v : Answered} → v ≡ f i → (v.number ≡ 0 → ⊥) → v ≡ whole
  first_found h {v} e g = e ∙ sym (rw (← e, ne_eqb v.number 0 g, e) at (first-turn h))

  pub first_on : i < n → {v : Answered} → v ≡ f i → v.number ≡ 0 → whole ≡ first_of f (i + 1) (n - (i + 1))
  first_on h {v} e g = rw (← e, eq-eqb v.number 0 g) at (first-turn h)

  pub first-none : n ≤ i → nothing ≡ whole
  unfolding first_of
  first-none h = let e : n - i ≡ 0 = omega arith in sym (rw e at so_far)

-- a kept pixel with no fault has a real Oklab
fault-real : (k : ℕ) (a b c : Bool) → (cond a (cond b (cond c (refusal 14 0) nothing) (refusal 7 k)) nothing).number ≡ 0 → a ≡ true → b ≡ true
fault-real k true true c e f = refl
fault-real k true false c e f = absurd (omega arith)
fault-real k false b c e f = let z : ◌≡◌ {A = ℕ} 0 1 = ap (λ (t : Bool). cond t 1 0) f in absurd (omega arith)

pub real_on : (bytes : List ℕ) (oklab : List Float) (cz : Option Rgb) (k : ℕ) (v : Answered) → Real bytes oklab cz k → v ≡ fault bytes oklab cz k → v.number ≡ 0
    → Real bytes oklab cz (k + 1)
unfolding fault
real_on bytes oklab cz k v r e z i h kp = by (ltb i k) refl
  where
    here : i ≡ k → in_gamut (colour_at oklab i) ≡ true
    here g =
        rw g
        (fault-real k (kept cz (rgba_at bytes k)) (in_gamut (colour_at oklab k)) (clashes bytes oklab k) (ap (λ (x : Answered). x.number) (sym e) ∙ z) (rw g at kp))

    by : (b : Bool) → ltb i k ≡ b → in_gamut (colour_at oklab i) ≡ true
    by true g = r i (ltb-true i k g) kp
    by false g = here (omega (arith, ltb-false i k g))
