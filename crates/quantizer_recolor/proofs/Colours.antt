-- A colour replaced in each subpalette, one subpalette after the other. Assumes nothing.
use Prim.Native.Nat.{ℕ, ◌+◌, ◌*◌, ◌≤◌, ◌<◌}
use mathlib.Core.Path.{◌≡◌, refl, sym, ap, subst⁻¹, ◌∙◌}
use mathlib.Core.Bool.{Bool, cond}
use mathlib.Core.List.{List}
use native.Mathlib.Nat.{le_refl, le_antisymm, mul_left_comm}
use native.Mathlib.Numerals.{add-one}
use native.Mathlib.Omega.{arith}
use lib.ListN.{length}
use lib.Ieee.{Float}
use borrow.Author.Tests.{lt-ltb, le-ltb}
use Rattle.job.specs.Job.{Job}
use Rattle.palette_tile.proofs.Present.{shown-part}
use Rattle.quantizer.specs.Sums.{places}
use Rattle.quantizer.specs.Replacing.{Shares, owner_of, spread_of, swap_in, colour_swapped, recoloured, colours_replaced}
use Rattle.quantizer.specs.Lengths.{Wide}
use Rattle.quantizer.proofs.Lengths.{spread_wide}
use Rattle.quantizer.proofs.Indexes.{owner-below, row-placed}
use Rattle.quantizer.specs.Goods.{AllGood}
use Rattle.quantizer.proofs.NoNans.{spread_good}
use Rattle.quantizer_color_sums.specs.Asked.{Owned}
use Rattle.quantizer_recolor.specs.Row.{Row}
use Rattle.quantizer_recolor.proofs.Lengths.{length-recoloured}

-- before subpalette i
pub record Recolouring (J : Job) (first pal : List Float) (A : Shares) (i : ℕ) : Type 0 where
  pub within : i ≤ J.S
  pub done : pal ≡ recoloured J first A i

module _ (J : Job) (first : List Float) (hints : List ℕ) (O : Owned J first hints) where
  pub one_colour_lem : J.C ≡ 1 → first ≡ colours_replaced J first
  unfolding colours_replaced
  one_colour_lem e = sym (ap (λ (b : Bool). cond b (recoloured J first (spread_of J first (owner_of J first) J.T) J.S) first) (le-ltb 1 J.C (omega arith)))

  pub recolouring_start : (A : Shares) → Recolouring J first first A 0
  unfolding recoloured
  recolouring_start A = record { within = omega arith; done = refl }

  module _ (A : Shares) (E : A ≡ spread_of J first (owner_of J first) J.T) (pal : List Float) (i : ℕ) (G : Recolouring J first pal A i) where
    pub recolouring_length : length pal ≡ length first
    recolouring_length = ap length G.done ∙ length-recoloured J first A i

    wide : Wide A places
    wide = subst⁻¹ (λ (x : Shares). Wide x places) E (spread_wide J first (owner_of J first) J.T)

    good : AllGood A.had × AllGood A.lost
    good =
        subst⁻¹ (λ (x : Shares). AllGood x.had × AllGood x.lost) E
        (spread_good J first O.shown (owner_of J first) (λ t l. owner-below J first O.shown t) J.T (le_refl J.T))

    pub recolouring_row : i < J.S → Row pal J.C i A
    recolouring_row l =
        let row = row-placed J first J.S J.C O.shown i l in
        record {
          some = O.shown.some;
          had = omega (arith, row, wide.had);
          lost = omega (arith, row, wide.lost);
          had_good = good.0;
          lost_good = good.1;
          room = omega (arith, recolouring_length, (shown-part J first J.S J.C O.shown i l).1, mul_left_comm i 3 J.C);
        }

    pub recolouring_more : i < J.S → (after : List Float) → after ≡ colour_swapped pal J.C i (swap_in A (i * J.C) J.C) → Recolouring J first after A (i + 1)
    unfolding recoloured
    recolouring_more l after q =
        record {
          within = omega arith;
          done = q ∙ ap (λ (x : List Float). colour_swapped x J.C i (swap_in A (i * J.C) J.C)) G.done ∙ sym (ap (recoloured J first A) (add-one i));
        }

    pub recolouring_end : (J.C ≡ 1 → ⊥) → J.S ≤ i → pal ≡ colours_replaced J first
    unfolding colours_replaced
    recolouring_end f h =
        G.done
        ∙ ap (recoloured J first A) (le_antisymm G.within h)
        ∙ ap (λ (x : Shares). recoloured J first x J.S) E
        ∙ sym (ap (λ (b : Bool). cond b (recoloured J first (spread_of J first (owner_of J first) J.T) J.S) first) (lt-ltb 1 J.C (many J.C O.shown.some f)))
      where
        many : (c : ℕ) → 1 ≤ c → (c ≡ 1 → ⊥) → 1 < c
        many c l f = omega arith
