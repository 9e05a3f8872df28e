-- What holds of a palette whether something gives way or not; and of the places of what does. Assumes nothing.
use Prim.Native.Nat.{ℕ, ◌+◌, ◌≤◌, ◌<◌}
use mathlib.Core.Path.{◌≡◌, refl, subst}
use mathlib.Core.Bool.{Bool, true, false, cond}
use mathlib.Core.List.{List}
use lib.ListN.{length}
use lib.Ieee.{Float}
use Rattle.std.specs.Prelude.{Option, Some, None}
use Rattle.palette_edit.specs.Edits.{colour_copied, sub_copied}
use Rattle.quantizer.specs.declared.Swap.{Swap}
use Rattle.quantizer.specs.Sums.{greatest, smallest, sums_at}
use Rattle.quantizer.specs.Replacing.{Shares, swap_in, colour_swapped, sub_swapped}
use Rattle.quantizer.proofs.Choices.{greatest-below, smallest-below}

module _ (P : List Float → Type 0) (pal : List Float) (before : P pal) where
  pub colour_either : (c i : ℕ) (o : Option Swap) → ((s : Swap) → o ≡ Some s → P (colour_copied pal c i s.from s.to)) → P (colour_swapped pal c i o)
  unfolding colour_swapped
  colour_either c i None f = before
  colour_either c i (Some s) f = f s refl

  pub sub_either : (c : ℕ) (o : Option Swap) → ((s : Swap) → o ≡ Some s → P (sub_copied pal c c s.from s.to)) → P (sub_swapped pal c o)
  unfolding sub_swapped
  sub_either c None f = before
  sub_either c (Some s) f = f s refl

given : (b : Bool) (r s : Swap) → cond b (Some r) None ≡ Some s → r ≡ s
given true r s e = cc
given false r s e = cc

pub swap-below : (A : Shares) (from size : ℕ) → from + size ≤ length A.had → from + size ≤ length A.lost → 1 ≤ size → (s : Swap) → swap_in A from size ≡ Some s → (s.from < size) × (s.to < size)
swap-below A from size had lost some s e =
    subst (λ (x : Swap). (x.from < size) × (x.to < size))
    (given _ (record { from = greatest (sums_at A.had from size); to = smallest (sums_at A.lost from size) }) s e)
    (greatest-below A.had from size had some, smallest-below A.lost from size lost some)
