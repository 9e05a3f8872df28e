-- A turn of the loop: the library's comparison is that of the total order, and the choice is that of one value more, at the code's `i + 1`. Assumes nothing.
use Prim.Native.Nat.{ℕ, ◌+◌, ◌<◌}
use mathlib.Core.Path.{◌≡◌, sym, ap, ◌∙◌}
use mathlib.Core.Bool.{Bool, cond, beq}
use native.Mathlib.Numerals.{add-one}
use lib.Dec.{T}
use lib.Ieee.{Float, binary32, fits}
use Rattle.std.specs.Float.{total_cmp}
use Rattle.std.specs.Ordering.{is_le}
use Rattle.ieee.specs.Terms.{tle}
use Rattle.ieee.proofs.Cmp.{total_is}
use Rattle.stats_extremes.specs.Extremes.{NoNan}
use Rattle.stats_extremes.proofs.Choices.{chosen, one_more}

module _ (greatest : Bool) (d : ℕ → Float) (F : (i : ℕ) → T (fits binary32 (d i))) (n : ℕ) (R : NoNan d n) where
  module _ (i best : ℕ) (I : i < n) (B : best < n) (rises : Bool) (A : rises ≡ is_le (total_cmp (d best) (d i))) where
    -- the new one where the test holds, and else the one before
    pub turn : best ≡ chosen greatest d i → (t : Bool) → beq rises greatest ≡ t → cond t i best ≡ chosen greatest d (i + 1)
    turn h t e =
        ap (λ (s : Bool). cond s i best) (sym e)
        ∙ ap (λ (s : Bool). cond (beq s greatest) i best) (A ∙ total_is binary32 (d best) (d i) (F best) (F i) (R best B) (R i I))
        ∙ ap (λ (k : ℕ). cond (beq (tle (d k) (d i)) greatest) i k) h
        ∙ sym (one_more greatest d i)
        ∙ sym (ap (chosen greatest d) (add-one i))
