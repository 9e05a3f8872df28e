-- A palette whose colours are replaced keeps its length. Assumes nothing.
use Prim.Native.Nat.{ℕ, zero, suc}
use mathlib.Core.Path.{◌≡◌, refl, ◌∙◌}
use mathlib.Core.Bool.{Bool, true, false, cond}
use mathlib.Core.List.{List}
use lib.ListN.{length}
use lib.Dec.{ltb}
use lib.Ieee.{Float}
use Rattle.job.specs.Job.{Job}
use Rattle.quantizer.specs.declared.Swap.{Swap}
use Rattle.quantizer.specs.Replacing.{Shares, owner_of, spread_of, colour_swapped, recoloured, colours_replaced}
use Rattle.quantizer.proofs.Lengths.{length-colour_copied}
use Rattle.quantizer.proofs.Swaps.{colour_either}
use Rattle.std.specs.Prelude.{Option}

length-colour_swapped : (pal : List Float) (c i : ℕ) (o : Option Swap) → length (colour_swapped pal c i o) ≡ length pal
length-colour_swapped pal c i o = colour_either (λ (x : List Float). length x ≡ length pal) pal refl c i o (λ s e. length-colour_copied pal c i s.from s.to)

pub length-recoloured : (J : Job) (pal : List Float) (A : Shares) (i : ℕ) → length (recoloured J pal A i) ≡ length pal
unfolding recoloured
length-recoloured J pal A zero = refl
length-recoloured J pal A (suc i) = length-colour_swapped (recoloured J pal A i) J.C i _ ∙ length-recoloured J pal A i

pub length-colours_replaced : (J : Job) (pal : List Float) → length (colours_replaced J pal) ≡ length pal
unfolding colours_replaced
length-colours_replaced J pal = either (ltb 1 J.C)
  where
    A : Shares
    A = spread_of J pal (owner_of J pal) J.T

    either : (b : Bool) → length (cond b (recoloured J pal A J.S) pal) ≡ length pal
    either true = length-recoloured J pal A J.S
    either false = refl
