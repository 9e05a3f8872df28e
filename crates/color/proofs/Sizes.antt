-- Colours of bounded components: the colours of a bounded list are bounded, and a list stays bounded where a bounded colour is written. Assumes nothing.
use Prim.Native.Nat.{ℕ, ◌+◌, ◌*◌, ◌/◌, ◌≤◌, ◌<◌}
use mathlib.Core.Path.{◌≡◌}
use mathlib.Core.List.{List}
use native.Mathlib.Omega.{arith}
use lib.ListN.{get_or, length}
use lib.Dec.{T, lit<}
use lib.Ieee.{Float, nan, inf, fin}
use lib.Ieee.Scale.{finite}
use Rattle.ieee.specs.Terms.{Within}
use Rattle.ieee.proofs.Within.{wider}
use Rattle.color.specs.declared.Oklab.{Oklab}
use Rattle.color.specs.Color.{colour_at, put_at, Real, Sized, Finite, Bounded}
use Rattle.color.proofs.Puts.{all_put}

pub within-finite : (x : Float) (k d : ℕ) → Within x k d → T (finite x)
within-finite nan k d w = w
within-finite (inf s) k d w = w
within-finite (fin s m e) k d w = tt

-- ---- one colour
pub sized-real : (p : Oklab) (k : ℕ) → Sized p k → Real p
sized-real p k z = record { rl = within-finite p.l k 1 z.sl; ra = within-finite p.a k 1 z.sa; rb = within-finite p.b k 1 z.sb }

pub sized_wider : (p : Oklab) (j k : ℕ) → j ≤ k → Sized p j → Sized p k
sized_wider p j k h z = record { sl = wide p.l z.sl; sa = wide p.a z.sa; sb = wide p.b z.sb }
  where
    wide : (x : Float) → Within x j 1 → Within x k 1
    wide x w = wider x j 1 k 1 (lit< tt) (omega arith) w

-- ---- a list
pub bounded-finite : (s : List Float) (k : ℕ) → Bounded s k → Finite s
bounded-finite s k h i l = within-finite (get_or s i nan) k 1 (h i l)

pub bounded_wider : (s : List Float) (j k : ℕ) → j ≤ k → Bounded s j → Bounded s k
bounded_wider s j k h b i l = wider (get_or s i nan) j 1 k 1 (lit< tt) (omega arith) (b i l)

pub colour-real : (s : List Float) (i : ℕ) → Finite s → i < length s / 3 → Real (colour_at s i)
colour-real s i h l = record { rl = h (3 * i) (omega arith); ra = h (3 * i + 1) (omega arith); rb = h (3 * i + 2) (omega arith) }

pub colour-sized : (s : List Float) (k i : ℕ) → Bounded s k → i < length s / 3 → Sized (colour_at s i) k
colour-sized s k i h l = record { sl = h (3 * i) (omega arith); sa = h (3 * i + 1) (omega arith); sb = h (3 * i + 2) (omega arith) }

-- of n colours the k-th
pub nth_sized : (s : List Float) (b n k : ℕ) → Bounded s b → length s ≡ 3 * n → k < n → Sized (colour_at s k) b
nth_sized s b n k B e l = colour-sized s b k B (third (length s) e)
  where
    third : (z : ℕ) → z ≡ 3 * n → k < z / 3
    third z h = omega arith

module _ (s : List Float) (i : ℕ) (x : Oklab) where
  pub finite_put : Finite s → Real x → Finite (put_at s i x)
  finite_put h r = all_put s i x (λ y. T (finite y)) r.rl r.ra r.rb h

  pub bounded_put : (k : ℕ) → Bounded s k → Sized x k → Bounded (put_at s i x) k
  bounded_put k h z = all_put s i x (λ y. Within y k 1) z.sl z.sa z.sb h
