-- What the tests of a tile and of a count say of one entry: each sum by a difference. Assumes nothing.
use Prim.Native.Nat.{ℕ, zero, suc, ◌+◌, ◌-◌, ◌≤◌, ◌<◌}
use mathlib.Core.Path.{◌≡◌, refl, sym, ◌∙◌}
use mathlib.Core.Logic.{◌⊎◌, inl, inr}
use mathlib.Core.Bool.{Bool, true, false}
use native.Mathlib.Omega.{arith}
use lib.Dec.{leb}
use borrow.Author.Tests.{eq-eqb, ne_eqb, leb-true, leb-false, le-leb, lt-leb}
use Rattle.job.specs.Checks.{tile_test, count_test}

-- a sum that may not be made, tested by a difference
pub leb-moves : (a n m : ℕ) → a ≤ m → leb n (m - a) ≡ leb (a + n) m
leb-moves a n m h = by (leb (a + n) m) refl
  where
    by : (b : Bool) → leb (a + n) m ≡ b → leb n (m - a) ≡ leb (a + n) m
    by true e = le-leb n (m - a) (omega (arith, leb-true (a + n) m e)) ∙ sym e
    by false e = lt-leb n (m - a) (omega (arith, leb-false (a + n) m e)) ∙ sym e

pub tile_tested : (size total at f n : ℕ) → at ≤ total → f ≡ at → n ≤ size → leb n (total - at) ≡ tile_test size total at f n
unfolding tile_test
tile_tested size total at f n h e l = leb-moves at n total h ∙ sym (rw (eq-eqb f at e, le-leb n size l) refl)

pub count_tested : (size at n : ℕ) → at ≤ size → (n ≡ 0 → ⊥) → leb n (size - at) ≡ count_test size at n
unfolding count_test
count_tested size at n h e = leb-moves at n size h ∙ sym (rw (le-leb 1 n (some n e)) refl)
  where
    some : (n : ℕ) → (n ≡ 0 → ⊥) → 1 ≤ n
    some zero e = absurd (e refl)
    some (suc n) e = omega arith

pub count_none : (size at n : ℕ) → n ≡ 0 → false ≡ count_test size at n
unfolding count_test
count_none size at n e = rw e refl

-- a tile that begins elsewhere, or has too many colours
pub tile_fails : (size total at f n : ℕ) → ((f ≡ at) × (size < n)) ⊎ (f ≡ at → ⊥) → false ≡ tile_test size total at f n
unfolding tile_test
tile_fails size total at f n (inl p) = rw (eq-eqb f at p.0, lt-leb n size p.1) refl
tile_fails size total at f n (inr h) = rw (ne_eqb f at h) refl

pub many_colours : (size at f n : ℕ) → f ≡ at → ((f ≡ at) × (size < n)) ⊎ (f ≡ at → ⊥) → leb n size ≡ false
many_colours size at f n e (inl p) = lt-leb n size p.1
many_colours size at f n e (inr h) = absurd (h e)
