-- The swap of subpalettes: chosen before any colour moves, made after. Assumes nothing.
use Prim.Native.Nat.{ℕ, ◌+◌, ◌-◌, ◌*◌, ◌≤◌, ◌<◌}
use mathlib.Core.Path.{◌≡◌, refl, sym, ap, subst⁻¹, ◌∙◌}
use mathlib.Core.Bool.{Bool, true, false, cond}
use mathlib.Core.List.{List}
use native.Mathlib.Nat.{le_refl}
use native.Mathlib.Omega.{arith}
use lib.ListN.{get_or, length, take, drop}
use lib.Dec.{ltb}
use lib.Ieee.{Float}
use borrow.Author.Tests.{lt-ltb, le-ltb}
use Rattle.job.specs.Job.{Job}
use Rattle.palette_tile.specs.Tiles.{Shown}
use Rattle.palette_tile.proofs.Present.{shown-part}
use Rattle.std.specs.Prelude.{Option, Some, None, IfSome}
use Rattle.quantizer.specs.declared.Swap.{Swap}
use Rattle.quantizer.specs.Replacing.{Shares, shares_of, pair_at, pair_hints, owner_of, swap_of, swap_in, sub_swapped, colours_replaced, sub_replaced, replaced, replaced_hints}
use Rattle.quantizer.specs.Lengths.{Wide}
use Rattle.quantizer.proofs.Lengths.{shares-wide, length-replaced_hints}
use Rattle.quantizer.proofs.Indexes.{shown-subs}
use Rattle.quantizer.specs.Goods.{AllGood}
use Rattle.quantizer.proofs.NoNans.{shares-good}
use Rattle.quantizer.proofs.Owners.{pair-hint}
use Rattle.quantizer_choice.specs.Choosing.{Choosing}
use Rattle.quantizer_choice.proofs.Parts.{part_choosing, part-below, part_swap}
use Rattle.quantizer_owner.specs.Owner.{owner_in}
use Rattle.quantizer_color_sums.specs.Asked.{Owned}
use Rattle.quantizer_recolor.proofs.Lengths.{length-colours_replaced}
use Rattle.quantizer_replace.specs.Weakest.{weakest_of}

-- ---- the sums of the subpalettes may be chosen among
module _ (J : Job) (pal : List Float) (S : Shown J pal J.S J.C) (A : Shares) (E : A ≡ shares_of J pal J.T) where
  wide : Wide A 16
  wide = subst⁻¹ (λ (x : Shares). Wide x 16) E (shares-wide J pal J.T)

  good : AllGood A.had × AllGood A.lost
  good = subst⁻¹ (λ (x : Shares). AllGood x.had × AllGood x.lost) E (shares-good J pal S J.T (le_refl J.T))

  pub palettes_choosing : Choosing (take (J.S - 0) (drop 0 A.had)) (take (J.S - 0) (drop 0 A.lost))
  palettes_choosing =
      part_choosing A 0 J.S (omega (arith, wide.had, shown-subs J pal J.S J.C S)) (omega (arith, wide.lost, shown-subs J pal J.S J.C S)) S.subs (J.S - 0) (omega arith) good.0 good.1

module _ (J : Job) (pal : List Float) (S : Shown J pal J.S J.C) (hints : List ℕ) (L : length hints ≡ J.T) where
  -- ---- one subpalette: no best two, no swap
  pub one-palette : J.S ≡ 1 → (None ≡ weakest_of J pal) × (hints ≡ replaced_hints J pal hints)
  unfolding weakest_of replaced_hints
  one-palette e = (
    sym (ap (λ (b : Bool). cond b (swap_in (shares_of J pal J.T) 0 J.S) None) alone),
    sym (ap (λ (b : Bool). cond b (pair_hints J pal hints J.T) hints) alone),
  )
    where
      alone : ltb 1 J.S ≡ false
      alone = le-ltb 1 J.S (omega arith)

  -- ---- more
  module _ (A : Shares) (E : A ≡ shares_of J pal J.T) where
    pub palettes_chosen : (J.S ≡ 1 → ⊥) → (r : Option Swap) → r ≡ swap_of (take (J.S - 0) (drop 0 A.had)) (take (J.S - 0) (drop 0 A.lost)) → (after : List ℕ) → after ≡ pair_hints J pal hints J.T
        → (r ≡ weakest_of J pal) × (after ≡ replaced_hints J pal hints)
    unfolding weakest_of replaced_hints
    palettes_chosen f r p after q = (
      part_swap A 0 J.S (J.S - 0) (omega arith) r p ∙ ap (λ (x : Shares). swap_in x 0 J.S) E ∙ sym (ap (λ (b : Bool). cond b (swap_in (shares_of J pal J.T) 0 J.S) None) many),
      q ∙ sym (ap (λ (b : Bool). cond b (pair_hints J pal hints J.T) hints) many),
    )
      where
        above : (s : ℕ) → 1 ≤ s → (s ≡ 1 → ⊥) → 1 < s
        above s l f = omega arith

        many : ltb 1 J.S ≡ true
        many = lt-ltb 1 J.S (above J.S S.subs f)

  -- ---- the hints left assign each tile to the subpalette that it goes to
  pub left-owned : (after : List ℕ) → after ≡ replaced_hints J pal hints → Owned J pal after
  unfolding replaced_hints owner_of
  left-owned after q =
      record {
        shown = S;
        each = ap length q ∙ length-replaced_hints J pal hints ∙ L;
        owner = λ t l. ap (λ (x : List ℕ). owner_in J.S x t) q ∙ owns t l (ltb 1 J.S);
      }
    where
      owns : (t : ℕ) → t < J.T → (b : Bool) → cond b (get_or (cond b (pair_hints J pal hints J.T) hints) t 0) 0 ≡ cond b (pair_at J pal t).index 0
      owns t l true = pair-hint J pal hints J.T (omega arith) t l
      owns t l false = refl

-- ---- the swap, on the palette whose colours are replaced
swap_where_many : (J : Job) (pal q : List Float) → sub_swapped q J.C (weakest_of J pal) ≡ sub_replaced J pal q
unfolding weakest_of sub_replaced sub_swapped
swap_where_many J pal q = either (ltb 1 J.S)
  where
    swap : Option Swap
    swap = swap_in (shares_of J pal J.T) 0 J.S

    either : (b : Bool) → sub_swapped q J.C (cond b swap None) ≡ cond b (sub_swapped q J.C swap) q
    either true = refl
    either false = refl

module _ (J : Job) (pal : List Float) (S : Shown J pal J.S J.C) where
  weakest-below : (s : Swap) → weakest_of J pal ≡ Some s → (s.from < J.S) × (s.to < J.S)
  unfolding weakest_of
  weakest-below = either (ltb 1 J.S)
    where
      swap : Option Swap
      swap = swap_in (shares_of J pal J.T) 0 J.S

      wide : Wide (shares_of J pal J.T) 16
      wide = shares-wide J pal J.T

      few : J.S ≤ 16
      few = shown-subs J pal J.S J.C S

      either : (b : Bool) (s : Swap) → cond b swap None ≡ Some s → (s.from < J.S) × (s.to < J.S)
      either true s e = part-below (shares_of J pal J.T) 0 J.S (omega (arith, wide.had, few)) (omega (arith, wide.lost, few)) S.subs swap refl s e
      either false s e = cc

  module _ (swap : Option Swap) (W : swap ≡ weakest_of J pal) (q : List Float) (Q : q ≡ colours_replaced J pal) where
    pub swap_room : IfSome swap (λ s. (s.from * (3 * J.C) + 3 * J.C ≤ length q) × (s.to * (3 * J.C) + 3 * J.C ≤ length q))
    swap_room = each swap refl
      where
        room : (i : ℕ) → i < J.S → i * (3 * J.C) + 3 * J.C ≤ length q
        room i l = omega (arith, (shown-part J pal J.S J.C S i l).1, ap length Q, length-colours_replaced J pal)

        each : (o : Option Swap) → swap ≡ o → IfSome o (λ s. (s.from * (3 * J.C) + 3 * J.C ≤ length q) × (s.to * (3 * J.C) + 3 * J.C ≤ length q))
        each None e = tt
        each (Some s) e = let B = weakest-below s (sym W ∙ e) in (room s.from B.0, room s.to B.1)

    pub all-replaced : (after : List Float) → after ≡ sub_swapped q J.C swap → after ≡ replaced J pal
    unfolding replaced
    all-replaced after p =
        p
        ∙ ap (λ (x : List Float). sub_swapped x J.C swap) Q
        ∙ ap (sub_swapped (colours_replaced J pal) J.C) W
        ∙ swap_where_many J pal (colours_replaced J pal)
