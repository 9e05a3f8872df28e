-- A turn of `best_two_from` over subpalette i: it is over the second and dropped, or it is weighed. Assumes nothing.
use Prim.Native.Nat.{ℕ, ◌+◌, ◌≤◌, ◌<◌}
use mathlib.Core.Path.{◌≡◌, refl, sym, ap, subst⁻¹, ◌∙◌}
use mathlib.Core.Bool.{Bool, true, false}
use mathlib.Core.Logic.{◌⊎◌, inl, inr}
use mathlib.Core.List.{List}
use native.Mathlib.Nat.{le_refl}
use native.Mathlib.Omega.{arith}
use Rattle.std.proofs.Common.{None, Some}
use lib.Ieee.{Float, inf, binary32, lt}
use Rattle.ieee.specs.Terms.{Good, key32, rank}
use Rattle.ieee.proofs.Keys.{key-top}
use Rattle.ieee.proofs.Ranks.{lt_yes, lt_no}
use Rattle.stats.specs.declared.Two.{Two}
use Rattle.stats.specs.Stats.{pick_two, led, followed}
use Rattle.stats.proofs.Runner.{Alone, Other, Runner, run-start, run_skips, run_drops, run_follows, run_takes}
use Rattle.stats.proofs.ScanTwo.{run_end}
use Rattle.palette.specs.Palette.{Palette, Tile, sub_of, tile_distance, dist_at, Measured, Fits}
use Rattle.palette.proofs.Parts.{sub_measured}
use Rattle.palette.proofs.Sums.{dist-good}
use Rattle.palette_distance.specs.Distance.{within_of, Walked}
use Rattle.palette_distance.proofs.Walks.{sum_case, over_case}
use Rattle.palette_two.specs.PaletteTwo.{ahead, closer, weighed, best_two}
use Rattle.palette_two.proofs.Weighs.{ahead-rank, behind-rank, closer-rank, farther_rank}

module _ (P : Palette) (X : Tile) (w : Float) (F : Fits P X w) (hint : ℕ) (H : hint < P.subs) (N : P.subs < 18446744073709551616) where
  good : (i : ℕ) → i < P.subs → Good binary32 (dist_at P X w i)
  good = dist-good P X w F.palette F.tile F.weight

  pub turn-start : (s : List Float) → s ≡ sub_of P.flat P.stride P.have hint → (x y : Float) → x ≡ tile_distance s X w → y ≡ inf false
      → Runner (dist_at P X w) P.subs hint 0 (record { index = hint; dist = x; next = hint; second = y })
  unfolding dist_at
  turn-start s e x y p q =
      subst⁻¹ (λ (z : Float). Runner (dist_at P X w) P.subs hint 0 (record { index = hint; dist = x; next = hint; second = z })) q
      (subst⁻¹ (λ (z : Float). Runner (dist_at P X w) P.subs hint 0 (record { index = hint; dist = z; next = hint; second = inf false }))
      (p ∙ ap (λ (z : List Float). tile_distance z X w) e) (run-start (dist_at P X w) P.subs hint good H N))

  module _ (i : ℕ) (b : Two) (R : Runner (dist_at P X w) P.subs hint i b) where
    pub turn_skips : i ≡ hint → Runner (dist_at P X w) P.subs hint (i + 1) b
    turn_skips e = run_skips (dist_at P X w) P.subs hint good H N i b R e

    module _ (l : i < P.subs) (s : List Float) (e : s ≡ sub_of P.flat P.stride P.have i) where
      pub turn_walks : Walked s X w b.second
      turn_walks =
          let m : Measured s X w = sub_measured P F.palette i l X w F.tile F.weight s e in
          record { sub = m.sub; tile = m.tile; weight = m.weight; clear = R.good.pos }

      pub turn-over : None ≡ within_of s X w b.second → Runner (dist_at P X w) P.subs hint (i + 1) b
      unfolding dist_at
      turn-over a =
          let o = over_case (lt b.second (dist_at P X w i)) (dist_at P X w i) (a ∙ ap (λ (z : List Float). within_of z X w b.second) e) in
          let k : key32 b.second < key32 (dist_at P X w i) = lt_yes b.second (dist_at P X w i) R.good (good i l) o in
          by k R.met
        where
          -- nothing is over infinity
          top : (x y : ℕ) → x < y → y ≤ x → ⊥
          top x y a b = omega arith

          by : key32 b.second < key32 (dist_at P X w i) → Alone hint i b ⊎ Other (dist_at P X w) P.subs b → Runner (dist_at P X w) P.subs hint (i + 1) b
          by k (inl z) = absurd (top _ _ k (subst⁻¹ (λ (x : Float). key32 (dist_at P X w i) ≤ key32 x) z.none (key-top binary32 (dist_at P X w i) (good i l).fit)))
          by k (inr o) = run_drops (dist_at P X w) P.subs hint good H N i b R l (omega (arith, R.above, R.lead.within)) o (omega (arith, o.within))

      module _ (h : i ≡ hint → ⊥) where
        best_good : Good binary32 b.dist
        best_good = subst⁻¹ (Good binary32) R.lead.dist (good b.index R.lead.within)

        best_key : key32 b.dist ≡ key32 (dist_at P X w b.index)
        best_key = ap key32 R.lead.dist

        behind : ahead b i (dist_at P X w i) ≡ false → rank (dist_at P X w b.index) b.index ≤ rank (dist_at P X w i) i
        behind p = omega (arith, best_key, behind-rank b i (dist_at P X w i) (good i l) best_good (omega (arith, R.lead.within)) p)

        -- next is its own only where no other was met
        apart : (b.next ≡ b.index) ⊎ (rank (dist_at P X w i) i ≤ rank b.second b.next) → Alone hint i b ⊎ Other (dist_at P X w) P.subs b → Alone hint i b ⊎ (rank (dist_at P X w i) i ≤ rank b.second b.next)
        apart x (inl z) = inl z
        apart (inl e) (inr o) = absurd (o.other e)
        apart (inr k) (inr o) = inr k

        met : (b.next ≡ b.index → ⊥) → Alone hint i b ⊎ Other (dist_at P X w) P.subs b → Other (dist_at P X w) P.subs b
        met f (inl z) = absurd (f z.own)
        met f (inr o) = o

        weighed_far : (u v : Bool) → ahead b i (dist_at P X w i) ≡ u → closer b i (dist_at P X w i) ≡ v → key32 (dist_at P X w i) ≤ key32 b.second
            → Runner (dist_at P X w) P.subs hint (i + 1) (pick_two u (led b i (dist_at P X w i)) (pick_two v (followed b i (dist_at P X w i)) b))
        weighed_far true v p q k =
            run_takes (dist_at P X w) P.subs hint good H N i b R l (omega (arith, best_key, ahead-rank b i (dist_at P X w i) (good i l) best_good (omega arith) p)) (λ z. h (R.seen i (le_refl i) (sym z)))
        weighed_far false true p q k =
            run_follows (dist_at P X w) P.subs hint good H N i b R l (behind p) h (apart (closer-rank b i (dist_at P X w i) (good i l) R.good k (omega arith) q) R.met)
        weighed_far false false p q k =
            let f = farther_rank b i (dist_at P X w i) (good i l) R.good k q in
            run_drops (dist_at P X w) P.subs hint good H N i b R l (behind p) (met f.0 R.met) f.1

        pub turn-weighs : (d : Float) (r : Two) → Some d ≡ within_of s X w b.second → r ≡ weighed b i d → Runner (dist_at P X w) P.subs hint (i + 1) r
        unfolding dist_at
        turn-weighs d r a q =
            let o = sum_case (lt b.second (dist_at P X w i)) (dist_at P X w i) d (a ∙ ap (λ (z : List Float). within_of z X w b.second) e) in
            let k : key32 (dist_at P X w i) ≤ key32 b.second = lt_no b.second (dist_at P X w i) R.good (good i l) o.0 in
            subst⁻¹ (Runner (dist_at P X w) P.subs hint (i + 1)) (q ∙ ap (weighed b i) o.1) (weighed_far (ahead b i (dist_at P X w i)) (closer b i (dist_at P X w i)) refl refl k)

  pub turn_end : (i : ℕ) (b : Two) → i ≤ P.subs → P.subs ≤ i → Runner (dist_at P X w) P.subs hint i b → b ≡ best_two P X w
  turn_end i b x y R = run_end (dist_at P X w) P.subs good (omega arith) N hint i b x y R
