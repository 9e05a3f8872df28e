-- The replacement of a colour in subpalette i: the choice is among its own sums, from one end of its row to the other. Assumes nothing.
use Prim.Native.Nat.{ℕ, ◌+◌, ◌-◌, ◌*◌, ◌<◌}
use mathlib.Core.Path.{◌≡◌, refl, ap, ◌∙◌}
use mathlib.Core.List.{List}
use native.Mathlib.Omega.{arith}
use lib.ListN.{length, take, drop}
use lib.Ieee.{Float}
use Rattle.std.specs.Prelude.{Option, Some, None, IfSome}
use Rattle.quantizer.specs.declared.Swap.{Swap}
use Rattle.quantizer.specs.Replacing.{Shares, swap_of, swap_in, colour_swapped}
use Rattle.quantizer_choice.specs.Choosing.{Choosing}
use Rattle.quantizer_choice.proofs.Parts.{part_choosing, part-below, part_swap}
use Rattle.quantizer_recolor.specs.Row.{Row}

module _ (pal : List Float) (c i : ℕ) (A : Shares) (R : Row pal c i A) where
  between : i * c + c - i * c ≡ c
  between = omega arith

  pub row_choosing : Choosing (take (i * c + c - i * c) (drop (i * c) A.had)) (take (i * c + c - i * c) (drop (i * c) A.lost))
  row_choosing = part_choosing A (i * c) c R.had R.lost R.some (i * c + c - i * c) between R.had_good R.lost_good

  module _ (r : Option Swap) (p : r ≡ swap_of (take (i * c + c - i * c) (drop (i * c) A.had)) (take (i * c + c - i * c) (drop (i * c) A.lost))) where
    chosen : r ≡ swap_in A (i * c) c
    chosen = part_swap A (i * c) c (i * c + c - i * c) between r p

    pub row-places : IfSome r (λ s. (3 * (i * c + s.from) + 2 < length pal) × (3 * (i * c + s.to) + 2 < length pal))
    row-places = each r refl
      where
        each : (o : Option Swap) → r ≡ o → IfSome o (λ s. (3 * (i * c + s.from) + 2 < length pal) × (3 * (i * c + s.to) + 2 < length pal))
        each None e = tt
        each (Some s) e = let B = part-below A (i * c) c R.had R.lost R.some r chosen s e in (omega (arith, B.0, R.room), omega (arith, B.1, R.room))

    pub row_done : (after : List Float) → after ≡ colour_swapped pal c i r → after ≡ colour_swapped pal c i (swap_in A (i * c) c)
    row_done after q = q ∙ ap (colour_swapped pal c i) chosen
