-- Laws of the refusal over plain lists, and what the lengths of slices say of each. Assumes nothing.
use Prim.Native.Nat.{ℕ, ◌*◌, ◌<◌, ◌≤◌}
use mathlib.Core.Path.{◌≡◌}
use mathlib.Core.Bool.{Bool, true, false, ◌&&◌}
use lib.Dec.{eqb}
use borrow.Author.Tests.{eqb-true, lt-leb, le-leb}
use Rattle.lists.proofs.Tests.{and_l, and_r}
use Rattle.answer.specs.Refusals.{Answered, refusal}
use Rattle.job.specs.Checks.{tile_sized}
use Rattle.group_refusal.specs.Faults.{first_of, fault}
use Rattle.group_refusal.specs.Refusal.{Pixels, lengths_fit, pixels_fit, refusal_where}

-- ---- the refusal
module _ (size : ℕ) (q : Pixels) (fits : Bool) where
  pub no_size : tile_sized size ≡ false → refusal 2 0 ≡ refusal_where size q fits
  unfolding refusal_where pixels_fit
  no_size h = rw h

  module _ (sized : tile_sized size ≡ true) where
    pub too_many : size < q.p → refusal 2 0 ≡ refusal_where size q fits
    unfolding refusal_where pixels_fit
    too_many h = rw (sized, lt-leb q.p size h)

    pub misfit : q.p ≤ size → fits ≡ false → refusal 3 0 ≡ refusal_where size q fits
    unfolding refusal_where pixels_fit
    misfit h e = rw (sized, le-leb q.p size h, e)

    pub fitting : q.p ≤ size → fits ≡ true → (v : Answered) → v ≡ first_of (fault q.bytes q.oklab q.zero) 0 q.p → v ≡ refusal_where size q fits
    unfolding refusal_where pixels_fit
    fitting h e v f = rw (sized, le-leb q.p size h, e) f

-- ---- the lengths
both : (a b : Bool) → a && b ≡ true → (a ≡ true) × (b ≡ true)
both a b e = (and_l a b e, and_r a b e)

module _ (p bytes oklab entry_bytes entry_oklab counts index : ℕ) where
  pub sizes : lengths_fit p bytes oklab entry_bytes entry_oklab counts index ≡ true → (bytes ≡ 4 * p) × (oklab ≡ 3 * p) × (entry_bytes ≡ 4 * p) × (entry_oklab ≡ 3 * p) × (counts ≡ p) × (index ≡ p)
  unfolding lengths_fit
  sizes e =
      let a = both (eqb bytes (4 * p)) _ e in
      let b = both (eqb oklab (3 * p)) _ a.1 in
      let c = both (eqb entry_bytes (4 * p)) _ b.1 in
      let d = both (eqb entry_oklab (3 * p)) _ c.1 in
      let f = both (eqb counts p) _ d.1 in
      (eqb-true _ _ a.0, eqb-true _ _ b.0, eqb-true _ _ c.0, eqb-true _ _ d.0, eqb-true _ _ f.0, eqb-true _ _ f.1)
