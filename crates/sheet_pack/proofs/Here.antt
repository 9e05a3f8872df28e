-- Tile i of a job that passed its checks, as the parts that are lent for it. Assumes nothing.
use mathlib.Core.Path.{◌≡◌, refl, sym, ap, ap₂, ◌∙◌, subst⁻¹}
use Prim.Native.Nat.{ℕ, suc, ◌+◌, ◌-◌, ◌*◌, ◌≤◌, ◌<◌}
use native.Mathlib.Omega.{arith}
use mathlib.Core.List.{List, ◌∷◌}
use lib.ListN.{length, length-append}
use lib.Ieee.{Float}
use Rattle.lists.specs.Every.{sum}
use Rattle.lists.proofs.Loops.{sum_more}
use Rattle.bits.specs.Bits.{bits_of}
use Rattle.bits.proofs.Numbers.{length-bits_of}
use Rattle.color.specs.Color.{Bounded}
use Rattle.job.specs.Job.{Job, size_of, counts_part, colours_part}
use Rattle.job.specs.Gives.{Ready}
use Rattle.job.proofs.Tiles.{counts-length, tile-three, tile-bounded}
use Rattle.sheet_format.specs.declared.Edition.{Edition}
use Rattle.sheet_format.specs.Sheet.{Colour, entry_size, tiles_size}
use Rattle.sheet_format.proofs.Editions.{tile-more}
use Rattle.sheet_pack.specs.Packed.{colours_of, tiles_from, colours_bits, tile_bits, Counted}
use Rattle.sheet_pack.proofs.Prints.{length-colours_bits}

pub none_before : (tb : List ℕ) → sum (size_of tb) 0 ≡ 0
unfolding sum
none_before tb = refl

module _ (E : Edition) (J : Job) (R : Ready J) (i : ℕ) (h : i < J.T) where
  pub record Here (part : List ℕ) (xs : List Float) : Type 0 where
    pub three : length xs ≡ 3 * length part
    pub counted : Counted part
    pub bounded : Bounded xs 2
    -- behind the tiles before it there is room for it among all
    pub room : tiles_size E i (sum (size_of J.tiles) i) + (E.many + entry_size E * length part) ≤ tiles_size E J.T (length J.counts)
    pub after : sum (size_of J.tiles) (i + 1) ≡ sum (size_of J.tiles) i + length part
    pub bits : length (tile_bits E (colours_of part xs)) ≡ E.many + entry_size E * length part
    pub next : colours_of part xs ∷ tiles_from J.tiles J.colours J.counts (suc i) (J.T - (i + 1)) ≡ tiles_from J.tiles J.colours J.counts i (suc (J.T - (i + 1)))

  size : (part : List ℕ) → part ≡ counts_part J.tiles J.counts i → length part ≡ size_of J.tiles i
  size part e = ap length e ∙ counts-length J R i h

  spread : (part : List ℕ) (xs : List Float) → part ≡ counts_part J.tiles J.counts i → xs ≡ colours_part J.tiles J.colours i → length xs ≡ 3 * length part
  spread part xs e g = ap length g ∙ tile-three J R i h ∙ ap (λ (l : List ℕ). 3 * length l) (sym e)

  tile_bits_lem : (part : List ℕ) (xs : List Float) → length xs ≡ 3 * length part → length (tile_bits E (colours_of part xs)) ≡ E.many + entry_size E * length part
  tile_bits_lem part xs e =
      length-append (bits_of E.many (length (colours_of part xs))) (colours_bits E (colours_of part xs))
      ∙ ap₂ (λ (a b : ℕ). a + b) (length-bits_of E.many (length (colours_of part xs))) (length-colours_bits E part xs e)

  pub here : (part : List ℕ) (xs : List Float) → part ≡ counts_part J.tiles J.counts i → xs ≡ colours_part J.tiles J.colours i → Here part xs
  here part xs e g = record {
    three = spread part xs e g;
    counted = subst⁻¹ Counted e (λ k l. R.low i k h l);
    bounded = subst⁻¹ (λ (l : List Float). Bounded l 2) g (tile-bounded J R i h);
    room = tile-more E J.T i (length J.counts) (sum (size_of J.tiles) i) (length part) h (omega (arith, size part e, R.inside i h, R.starts i h));
    after = sym (sum_more (size_of J.tiles) i (sum (size_of J.tiles) i) (length part) refl (size part e));
    bits = tile_bits_lem part xs (spread part xs e g);
    next = ap₂ {C = List (List Colour)} (λ a b. colours_of a b ∷ tiles_from J.tiles J.colours J.counts (suc i) (J.T - (i + 1))) e g;
  }
