-- What the calls of a nudge ask, and what they come to. Assumes nothing.
use Prim.Native.Nat.{ℕ, ◌+◌, ◌*◌, ◌≤◌, ◌<◌}
use mathlib.Core.Path.{◌≡◌, ap, subst⁻¹, ◌∙◌}
use mathlib.Core.List.{List}
use native.Mathlib.Omega.{arith}
use lib.ListN.{length, set}
use lib.Ieee.{Float}
use Rattle.color.specs.declared.Oklab.{Oklab}
use Rattle.stats.specs.declared.Near.{Near}
use Rattle.palette.specs.Palette.{sub_of, nearest_of}
use Rattle.palette_edit.specs.Edits.{nudged_at}
use Rattle.palette_edit.proofs.Kept.{place-room}
use Rattle.palette_tile.specs.Tiles.{fit_at, winner, Fitted}
use Rattle.palette_tile.proofs.Present.{shown-present, shown-part, winner-below, part-nearest}
use Rattle.quantizer.specs.Course.{Course, sample_tile, sample_colour}
use Rattle.quantizer.specs.Drawing.{target_of, moved, moved_hints}
use Rattle.quantizer_sample.specs.Samples.{Told}
use Rattle.quantizer_sample.proofs.Course.{told, tile-full}
use Rattle.quantizer_nudge.specs.Nudges.{moved_by, hints_by, Drawing}

module _ (K : Course) (pal : List Float) (subs have : ℕ) (hints : List ℕ) (i : ℕ) (D : Drawing K pal subs have hints i) where
  pub sample_asked : Told K.job.tiles K.job.colours K.samples i
  sample_asked = told K i D.sampling D.drawn

  module _ (tile : ℕ) (e : tile ≡ sample_tile K i) where
    pub fit_asked : Fitted K.job pal subs have hints tile
    fit_asked =
        subst⁻¹ (λ (x : ℕ). Fitted K.job pal subs have hints x) e
        (record { paired = record { shown = D.shown; tile = D.sampling.passed.tile i D.drawn; each = D.each }; full = tile-full K i D.sampling D.drawn })

    -- r is the fit of the tile
    module _ (r : Near) (f : r ≡ fit_at K.job pal subs have tile) where
      best_in : r.index < subs
      best_in = subst⁻¹ (λ (x : Near). x.index < subs) f (winner-below K.job pal subs have D.shown tile)

      pub part_asked : (have ≤ K.job.C) × (r.index * (3 * K.job.C) + 3 * K.job.C ≤ length pal)
      part_asked = shown-part K.job pal subs have D.shown r.index best_in

      -- v is the nearest of its subpalette to q
      module _ (sub : List Float) (g : sub ≡ sub_of pal K.job.C have r.index) (q : Oklab) (v : Near) (h : v ≡ nearest_of sub q K.job.weight) where
        near_is : v.index ≡ (nearest_of (sub_of pal K.job.C have r.index) q K.job.weight).index
        near_is = ap (λ (x : Near). x.index) (h ∙ ap (λ (y : List Float). nearest_of y q K.job.weight) g)

        near_in : v.index < have
        near_in = subst⁻¹ (λ (x : ℕ). x < have) near_is (part-nearest K.job pal subs have D.shown r.index best_in q)

        pub place_asked : 3 * (r.index * K.job.C + v.index) + 2 < length pal
        place_asked = place-room subs K.job.C r.index v.index (length pal) best_in (omega (arith, near_in, D.shown.present)) (shown-present K.job pal subs have D.shown).room

        pub place-small : r.index * K.job.C + v.index < 18446744073709551616
        place-small = omega (arith, place_asked, D.shown.room, D.shown.ready.sizes.cells)

        pub draw-done : (alpha : Float) (after : List Float) (told : List ℕ) → q ≡ sample_colour K i → told ≡ set hints tile r.index
            → after ≡ nudged_at pal (r.index * K.job.C + v.index) q alpha
            → (after ≡ moved_by K pal subs have i alpha) × (told ≡ hints_by K pal subs have i hints)
        unfolding moved target_of moved_hints sample_colour
        draw-done alpha after told p m w =
            let best_is : r.index ≡ winner K.job pal subs have (sample_tile K i) = ap (λ (x : Near). x.index) (f ∙ ap (fit_at K.job pal subs have) e) in (
              w
                  ∙ ap (λ (x : ℕ). nudged_at pal (r.index * K.job.C + x) q alpha) near_is
                  ∙ ap (λ (b : ℕ). nudged_at pal (b * K.job.C + (nearest_of (sub_of pal K.job.C have b) q K.job.weight).index) q alpha) best_is
                  ∙ ap (λ (y : Oklab). nudged_at pal (winner K.job pal subs have (sample_tile K i) * K.job.C + (nearest_of (sub_of pal K.job.C have (winner K.job pal subs have (sample_tile K i))) y K.job.weight).index) y alpha) p,
              m ∙ ap (λ (x : ℕ). set hints x r.index) e ∙ ap (set hints (sample_tile K i)) best_is,
            )
