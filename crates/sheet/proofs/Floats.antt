-- Floats of 32 bits and their patterns: each gives the other back, and which patterns a sheet can hold. Assumes nothing.
use mathlib.Core.Path.{◌≡◌, refl, sym, ap, ap₂, subst}
use Prim.Native.Nat.{ℕ, zero, suc, ◌^◌, ◌<◌}
use native.Mathlib.Omega.{arith}
use mathlib.Core.Bool.{◌&&◌}
use mathlib.Core.List.{List, [], ◌∷◌, ◌++◌}
use lib.Dec.{T, ltb, lt→ltb, ltb→lt}
use lib.ListN.{length, take, drop}
use lib.Ieee.{Float, binary32, of_bits, to_bits, fits, lt}
use lib.Ieee.Bits.{of_bits-to_bits, to_bits-lt}
use Rattle.ieee.specs.Terms.{zero_f, Within}
use Rattle.color.specs.Color.{Bounded}
use Rattle.format.specs.Format.{times}
use Rattle.format.proofs.Tests.{and_l, and_r, and_in}
use Rattle.format_pattern.specs.Pattern.{small, weighs}
use Rattle.format_pattern.proofs.Patterns.{small_is, small_back, weighs_is}
use Rattle.sheet_format.specs.Sheet.{component}
use Rattle.sheet_format.specs.Lists.{floats, patterns}
use Rattle.sheet.specs.Sheets.{Singles}

pub singles_drop : (n : ℕ) (v : List Float) → Singles v → Singles (drop n v)
singles_drop zero v s = s
singles_drop (suc n) [] s = s
singles_drop (suc n) (x ∷ v) s = singles_drop n v (λ i. s (suc i))

pub singles_take : (n : ℕ) (v : List Float) → Singles v → Singles (take n v)
unfolding fits
singles_take zero v s i = tt
singles_take (suc n) [] s i = s i
singles_take (suc n) (x ∷ v) s zero = s 0
singles_take (suc n) (x ∷ v) s (suc i) = singles_take n v (λ j. s (suc j)) i

pub singles_append : (u v : List Float) → Singles u → Singles v → Singles (u ++ v)
singles_append [] v a b i = b i
singles_append (x ∷ u) v a b zero = a 0
singles_append (x ∷ u) v a b (suc i) = singles_append u v (λ j. a (suc j)) b i

pub bounded-drop : (k n : ℕ) (v : List Float) → Bounded v k → Bounded (drop n v) k
bounded-drop k zero v b = b
bounded-drop k (suc n) [] b = b
bounded-drop k (suc n) (x ∷ v) b = bounded-drop k n v (λ i l. b (suc i) (omega arith))

pub bounded-take : (k n : ℕ) (v : List Float) → Bounded v k → Bounded (take n v) k
bounded-take k zero v b i l = absurd (omega arith)
bounded-take k (suc n) [] b i l = b i l
bounded-take k (suc n) (x ∷ v) b zero l = b 0 (omega arith)
bounded-take k (suc n) (x ∷ v) b (suc i) l = bounded-take k n v (λ j m. b (suc j) (omega arith)) i (omega arith)

-- ---- floats to patterns to floats
pub round_trip : (v : List Float) → Singles v → floats (patterns v) ≡ v
round_trip [] s = refl
round_trip (x ∷ v) s = ap₂ {C = List Float} (λ a b. a ∷ b) (of_bits-to_bits binary32 x (s 0)) (round_trip v (λ i. s (suc i)))

pub components_good : (n : ℕ) (v : List Float) → length v ≡ n → Singles v → Bounded v 2 → T ((times n component).good (patterns v))
components_good zero [] e s b = tt
components_good zero (x ∷ v) e s b = absurd (omega arith)
components_good (suc n) [] e s b = absurd (omega arith)
components_good (suc n) (x ∷ v) e s b =
    let h : to_bits binary32 x < 2 ^ 32 = to_bits-lt binary32 x (s 0) in
    and_in (component.good (to_bits binary32 x)) ((times n component).good (patterns v))
    (and_in (ltb (to_bits binary32 x) (2 ^ 32)) (small (to_bits binary32 x)) (lt→ltb (to_bits binary32 x) (2 ^ 32) h)
    ((small_is (to_bits binary32 x) h).1 (subst (λ (y : Float). Within y 2 1) (sym (of_bits-to_bits binary32 x (s 0))) (b 0 (omega arith)))))
    (components_good n v (omega arith) (λ i. s (suc i)) (λ i l. b (suc i) (omega arith)))

pub weight-good : (x : Float) → T (fits binary32 x) → T (lt zero_f x) × Within x 16 1 → T (ltb (to_bits binary32 x) (2 ^ 32) && weighs (to_bits binary32 x))
weight-good x F w =
    let h : to_bits binary32 x < 2 ^ 32 = to_bits-lt binary32 x F in
    and_in (ltb (to_bits binary32 x) (2 ^ 32)) (weighs (to_bits binary32 x)) (lt→ltb (to_bits binary32 x) (2 ^ 32) h)
    ((weighs_is (to_bits binary32 x) h).1 (subst (λ (y : Float). T (lt zero_f y) × Within y 16 1) (sym (of_bits-to_bits binary32 x F)) w))

-- ---- patterns to floats to patterns
pub components_back : (n : ℕ) (v : List ℕ) → T ((times n component).good v) → (patterns (floats v) ≡ v) × (length v ≡ n) × (length (floats v) ≡ n) × Bounded (floats v) 2
components_back zero [] h = (refl, refl, refl, λ i l. absurd (omega arith))
components_back zero (b ∷ v) h = absurd h
components_back (suc n) [] h = absurd h
components_back (suc n) (b ∷ v) h =
    let g = and_l (component.good b) ((times n component).good v) h in
    let l : b < 2 ^ 32 = ltb→lt b (2 ^ 32) (and_l (ltb b (2 ^ 32)) (small b) g) in
    let t = and_r (ltb b (2 ^ 32)) (small b) g in
    let r = components_back n v (and_r (component.good b) ((times n component).good v) h) in
    (ap₂ {C = List ℕ} (λ i j. i ∷ j) (small_back b l t) r.0, ap suc r.1, ap suc r.2, bounded_on b v ((small_is b l).0 t) r.3)
  where
    bounded_on : (b : ℕ) (v : List ℕ) → Within (of_bits binary32 b) 2 1 → Bounded (floats v) 2 → Bounded (floats (b ∷ v)) 2
    bounded_on b v w r zero l = w
    bounded_on b v w r (suc i) l = r i (omega arith)
