-- The choice of a swap among `size` sums of each kind from `from` on, handed on as a part of m numbers. Assumes nothing.
use Prim.Native.Nat.{ℕ, ◌+◌, ◌≤◌, ◌<◌}
use mathlib.Core.Path.{◌≡◌, sym, ap, subst⁻¹, ◌∙◌}
use native.Mathlib.Omega.{arith}
use lib.ListN.{length, take, drop}
use Rattle.std.specs.Prelude.{Option, Some}
use Rattle.quantizer.specs.declared.Swap.{Swap}
use Rattle.quantizer.specs.Replacing.{Shares, swap_of, swap_in}
use Rattle.quantizer.proofs.Lists.{length-sums}
use Rattle.quantizer.specs.Goods.{AllGood}
use Rattle.quantizer.proofs.Goods.{sums_no_nan}
use Rattle.quantizer.proofs.Swaps.{swap-below}
use Rattle.quantizer_choice.specs.Choosing.{Choosing}

module _ (A : Shares) (from size : ℕ) (had : from + size ≤ length A.had) (lost : from + size ≤ length A.lost) (some : 1 ≤ size) where
  pub part_choosing : (m : ℕ) → m ≡ size → AllGood A.had → AllGood A.lost → Choosing (take m (drop from A.had)) (take m (drop from A.lost))
  part_choosing m e g h =
      subst⁻¹ (λ (k : ℕ). Choosing (take k (drop from A.had)) (take k (drop from A.lost))) e
      (record {
        some = omega (arith, length-sums A.had from size had);
        pairs = length-sums A.lost from size lost ∙ sym (length-sums A.had from size had);
        had_real = sums_no_nan A.had from size had g;
        lost_real = sums_no_nan A.lost from size lost h;
      })

  pub part-below : (r : Option Swap) → r ≡ swap_in A from size → (s : Swap) → r ≡ Some s → (s.from < size) × (s.to < size)
  part-below r p s e = swap-below A from size had lost some s (sym p ∙ e)

pub part_swap : (A : Shares) (from size m : ℕ) → m ≡ size → (r : Option Swap) → r ≡ swap_of (take m (drop from A.had)) (take m (drop from A.lost)) → r ≡ swap_in A from size
part_swap A from size m e r p = p ∙ ap (λ (k : ℕ). swap_of (take k (drop from A.had)) (take k (drop from A.lost))) e
