-- A colour with its mean written is the definition's, and so is one that is left. Assumes nothing.
use Prim.Native.Nat.{ℕ}
use mathlib.Core.Path.{◌≡◌, sym, ap, ◌∙◌}
use mathlib.Core.Bool.{Bool, cond}
use mathlib.Core.List.{List}
use lib.ListN.{get_or}
use lib.Ieee.{Float}
use borrow.Author.Tests.{eq-eqb, ne_eqb}
use Rattle.color.specs.declared.Oklab.{Oklab}
use Rattle.color.specs.Color.{colour_at, put_at, over_of}
use Rattle.quantizer.specs.declared.Gather.{Gather}
use Rattle.quantizer.specs.Refining.{mean_step}

module _ (A : Gather) (p : ℕ) (pal : List Float) where
  pub mean_kept : get_or A.cnts p 0 ≡ 0 → pal ≡ mean_step A p pal
  unfolding mean_step
  mean_kept z = sym (ap (λ (b : Bool). cond b pal (put_at pal p (over_of (colour_at A.sums p) (get_or A.cnts p 0)))) (eq-eqb (get_or A.cnts p 0) 0 z))

  pub mean_written : (get_or A.cnts p 0 ≡ 0 → ⊥) → (m : ℕ) → m ≡ get_or A.cnts p 0 → (x y : Oklab) → x ≡ colour_at A.sums p → y ≡ over_of x m → (after : List Float) → after ≡ put_at pal p y → after ≡ mean_step A p pal
  unfolding mean_step
  mean_written n m w x y e f after g =
      g
      ∙ ap (put_at pal p) (f ∙ ap (over_of x) w ∙ ap (λ (z : Oklab). over_of z (get_or A.cnts p 0)) e)
      ∙ sym (ap (λ (b : Bool). cond b pal (put_at pal p (over_of (colour_at A.sums p) (get_or A.cnts p 0)))) (ne_eqb (get_or A.cnts p 0) 0 n))
