-- What is within a bound passes the test of it: components, order entries, and the bits of an error. Assumes nothing.
use Prim.Native.Nat.{ℕ, ◌*◌, ◌≤◌, ◌<◌}
use mathlib.Core.Path.{◌≡◌, refl, sym, ap, ◌∙◌}
use mathlib.Core.Bool.{Bool, true, false, true≢false}
use mathlib.Core.List.{List}
use native.Mathlib.Nat.{le_trans, le_of_eq, mul-le-mul_right, mul_right_comm, mul-one}
use native.Mathlib.Omega.{arith}
use lib.IntN.{ℤ, pos}
use lib.Dec.{T, lit≤, lit<}
use lib.ListN.{length, get_or}
use lib.Ieee.{Float, nan, inf, fin, binary32, up, down, le, neg, is_nan, of_bits, to_bits}
use lib.Ieee.Bits.{of_bits-fits, to_bits-of_bits}
use borrow.Author.Tests.{eqb-false, lt-ltb, ltb-true}
use Rattle.ieee.proofs.Order.{le_fin←}
use Rattle.ieee.specs.Terms.{Within, Good, key}
use Rattle.ieee.proofs.Within.{wider}
use Rattle.ieee.proofs.Keys.{pack_mono, plus-bits, le→keys}
use Rattle.lists.proofs.Tests.{and_i}
use Rattle.lists.proofs.Loops.{every-at, every-all}
use Rattle.color.specs.Color.{Bounded}
use Rattle.job.specs.Job.{two}
use Rattle.job.proofs.First.{first-bound}
use Rattle.job.proofs.Bad.{first_fails}
use Rattle.job.specs.Checks.{within, component_fits, first_bad, components_fit}
use Rattle.job.proofs.Ready.{components_within}
use Rattle.palette_mse.proofs.Fine.{Error}
use Rattle.run_stages.specs.Record.{four, entry_fits, order_fits}

true_of : (t : Bool) → T t → t ≡ true
true_of true h = refl
true_of false h = absurd h

-- ---- a number at most k in size is between -k and k
module _ (n : ℕ) (b : ℤ) (k : ℕ) (exact : n * up b ≡ k * down b) where
  scaled : (a d : ℕ) → a * 1 ≤ k * d → a * down b ≤ n * up b * d
  scaled a d h =
      le_trans (mul-le-mul_right (down b) (le_trans (le_of_eq (sym (mul-one a))) h))
      (le_of_eq (mul_right_comm k d (down b) ∙ ap (λ (z : ℕ). z * d) (sym exact)))

  pub below_limit : (x : Float) → Within x k 1 → T (le x (fin false n b))
  below_limit nan w = absurd w
  below_limit (inf s) w = absurd w
  below_limit (fin false m e) w = le_fin← false m e false n b (scaled (m * up e) (down e) w)
  below_limit (fin true m e) w = le_fin← true m e false n b tt

  above_limit : (x : Float) → Within x k 1 → T (le (fin true n b) x)
  above_limit nan w = absurd w
  above_limit (inf s) w = absurd w
  above_limit (fin false m e) w = le_fin← true n b false m e tt
  above_limit (fin true m e) w = le_fin← true n b true m e (scaled (m * up e) (down e) w)

  pub fits_limit : (x : Float) → Within x k 1 → within (fin false n b) x ≡ true
  unfolding within neg
  fits_limit x w = and_i (le x (fin false n b)) (le (fin true n b) x) (true_of (le x (fin false n b)) (below_limit x w)) (true_of (le (fin true n b) x) (above_limit x w))

-- a list within a bound passes the limit's test
listed : (k : ℕ) (limit : Float) → ((x : Float) → Within x k 1 → within limit x ≡ true) → (xs : List Float) → Bounded xs k → components_fit limit xs ≡ true
unfolding first_bad component_fits
listed k limit f xs B = by (components_fit limit xs) refl
  where
    by : (b : Bool) → components_fit limit xs ≡ b → components_fit limit xs ≡ true
    by true h = h
    by false h =
        let past = eqb-false (first_bad limit xs) (length xs) h in
        let l : first_bad limit xs < length xs = omega (arith, past, first-bound (component_fits limit xs) (length xs)) in
        absurd (true≢false (sym (f _ (B (first_bad limit xs) l)) ∙ first_fails (component_fits limit xs) (length xs) past))

-- ---- handed-in colours: within 2
two-exact : (x : Float) → Within x 2 1 → within two x ≡ true
unfolding of_bits
two-exact x w = fits_limit 1 (pos 1) 2 refl x w

pub fits-two : (xs : List Float) → Bounded xs 2 → components_fit two xs ≡ true
fits-two = listed 2 two two-exact

-- ---- working colours: within 4
four-exact : (x : Float) → Within x 4 1 → within four x ≡ true
unfolding of_bits
four-exact x w = fits_limit 1 (pos 2) 4 refl x w

four_within_lem : Within four 4 1
unfolding of_bits
four_within_lem = lit≤ tt

pub fits-four : (xs : List Float) → Bounded xs 4 → components_fit four xs ≡ true
fits-four = listed 4 four four-exact

pub four-bounded : (xs : List Float) → components_fit four xs ≡ true → Bounded xs 4
four-bounded xs h = components_within four xs 4 four_within_lem h

-- ---- order entries: below n
pub entries_fit : (n : ℕ) (order : List ℕ) → ((i : ℕ) → i < length order → get_or order i 0 < n) → order_fits n order ≡ true
unfolding order_fits entry_fits
entries_fit n order h = every-all (entry_fits n order) (length order) (λ i l. lt-ltb (get_or order i 0) n (h i l))

pub entries_below : (n : ℕ) (order : List ℕ) → order_fits n order ≡ true → (i : ℕ) → i < length order → get_or order i 0 < n
unfolding order_fits entry_fits
entries_below n order h i l = ltb-true (get_or order i 0) n (every-at (entry_fits n order) (length order) i h l)

-- ---- an error: finite, and its sign bit is clear
abbrev large : Float
large = of_bits binary32 0x45000000

large_good : Good binary32 large
large_good = record { fit = of_bits-fits binary32 0x45000000; pos = unfold of_bits in tt }

large_bits : to_bits binary32 large ≡ 0x45000000
large_bits = to_bits-of_bits binary32 0x45000000 (lit< tt) (unfold of_bits is_nan in tt)

under_large : (x : Float) → Within x 2048 1 → T (le x large)
unfolding of_bits
under_large x w = below_limit 1 (pos 11) 2048 refl x w

pub error-bits : (x : Float) → Error x → to_bits binary32 x < 0x7f800000
error-bits x E =
    let bits : to_bits binary32 x ≤ to_bits binary32 large =
    rw (plus-bits binary32 x E.good.pos, plus-bits binary32 large large_good.pos)
    (pack_mono binary32 (key binary32 x) (key binary32 large) (le→keys binary32 x large E.good large_good (under_large x (wider x 1188 1 2048 1 (lit< tt) (lit≤ tt) E.size)))) in
    omega (arith, large_bits)
