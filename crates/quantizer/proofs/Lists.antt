-- Sums in a list: its length, a part of it, and zeros, which are within any bound. Assumes nothing.
use Prim.Native.Nat.{ℕ, zero, suc, ◌+◌, ◌≤◌, ◌<◌}
use mathlib.Core.Path.{◌≡◌, ap, ◌∙◌}
use mathlib.Core.List.{List}
use native.Mathlib.Omega.{arith}
use lib.ListN.{get_or, length, drop, length-set, length-take, length-drop, length-replicate}
use lib.Seq.{get_or-take, get_or-drop}
use lib.Ieee.{Float, nan, binary32, of_bits}
use Rattle.ieee.specs.Terms.{Within}
use Rattle.color.specs.Color.{Bounded}
use Rattle.quantizer.specs.Sums.{bump, zeros, sums_at}
use Rattle.quantizer.specs.Replacing.{shares, no_shares}

pub length-bump : (d : List Float) (i : ℕ) (x : Float) → length (bump d i x) ≡ length d
length-bump d i x = length-set d i _

-- ---- zeros
pub length-zeros : (n : ℕ) → length (zeros n) ≡ n
length-zeros n = length-replicate n (of_bits binary32 0)

pub no_shares_lem : (had lost : List Float) (n : ℕ) → had ≡ zeros n → lost ≡ zeros n → shares had lost ≡ no_shares n
no_shares_lem had lost n e g = ap (λ (x : List Float). shares x lost) e ∙ ap (shares (zeros n)) g

pub zeros-all : (P : Float → Type 0) → P (of_bits binary32 0) → (n i : ℕ) → i < length (zeros n) → P (get_or (zeros n) i nan)
zeros-all P p zero i l = absurd (none l)
  where
    none : i < 0 → ⊥
    none l = omega arith
zeros-all P p (suc n) zero l = p
zeros-all P p (suc n) (suc i) l = zeros-all P p n i (omega arith)

pub zeros-bounded : (n k : ℕ) → Bounded (zeros n) k
unfolding of_bits
zeros-bounded n k = zeros-all (λ x. Within x k 1) (omega arith) n

-- ---- a part
module _ (d : List Float) (from size : ℕ) (h : from + size ≤ length d) where
  pub length-sums : length (sums_at d from size) ≡ size
  length-sums = simp (length-take, length-drop) (omega arith)

  pub sum-at : (i : ℕ) → i < size → get_or (sums_at d from size) i nan ≡ get_or d (from + i) nan
  sum-at i l = get_or-take size (drop from d) i nan l ∙ get_or-drop from d i nan
