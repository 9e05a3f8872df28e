-- A draw with its order: the sample and the cycle after it are those of one draw. Assumes nothing.
use Prim.Native.Nat.{ℕ, ◌<◌}
use mathlib.Core.Path.{◌≡◌, ap, subst⁻¹, ◌∙◌}
use mathlib.Core.List.{List}
use native.Mathlib.Omega.{arith}
use lib.Ieee.{Float}
use Rattle.cycle.specs.Cycle.{Cycle, Drawn, drawn, draw_one}
use Rattle.cycle.proofs.Ready.{sample-below}
use Rattle.quantizer.specs.Course.{Course}
use Rattle.quantizer_nudge.specs.Nudges.{moved_by, hints_by, Drawing}
use Rattle.quantizer_draw.specs.Draws.{Going}

module _ (K : Course) (at : Cycle) (pal : List Float) (subs have : ℕ) (hints : List ℕ) (G : Going K at pal subs have hints) (sample : ℕ) (next : Cycle) (e : drawn sample next ≡ draw_one at) where
  sample-is : sample ≡ (draw_one at).sample
  sample-is = ap (λ (d : Drawn). d.sample) e

  pub nudge_asked : Drawing K pal subs have hints sample
  nudge_asked =
      record {
        sampling = G.sampling;
        shown = G.shown;
        each = G.each;
        drawn = subst⁻¹ (λ (i : ℕ). i < K.n) sample-is
            (sample-below at K.n (λ j l. G.below j (omega (arith, G.all))) (omega (arith, G.all, G.sampling.passed.some)));
      }

  pub going_done : (alpha : Float) (after : List Float) (told : List ℕ) → (after ≡ moved_by K pal subs have sample alpha) × (told ≡ hints_by K pal subs have sample hints)
      → (next ≡ (draw_one at).next) × ((after ≡ moved_by K pal subs have (draw_one at).sample alpha) × (told ≡ hints_by K pal subs have (draw_one at).sample hints))
  going_done alpha after told (p, q) = (ap (λ (d : Drawn). d.next) e, (p ∙ ap (λ (i : ℕ). moved_by K pal subs have i alpha) sample-is, q ∙ ap (λ (i : ℕ). hints_by K pal subs have i hints) sample-is))
