-- What the answer that a file's place gets says of the bytes. Assumes nothing.
use Prim.Native.Nat.{ℕ, ◌≤◌, ◌<◌}
use mathlib.Core.Path.{◌≡◌, refl, sym, ap, ◌∙◌}
use mathlib.Core.Bool.{Bool, true, false, cond}
use native.Mathlib.Omega.{arith}
use lib.Dec.{leb}
use borrow.Author.Tests.{leb-true, leb-false}
use Rattle.answer.specs.Refusals.{Answered, refusal, nothing}
use Rattle.sheet_room.specs.Room.{place_for}

module _ (n lent : ℕ) (r : Answered) (e : r ≡ place_for n lent) where
  -- a file with a place
  pub placed : r.number ≡ 0 → (n ≤ 65536) × (n ≤ lent)
  unfolding place_for
  placed z = by (leb n 65536) (leb n lent) refl refl (sym (ap (λ (x : Answered). x.number) e) ∙ z)
    where
      by : (a b : Bool) → leb n 65536 ≡ a → leb n lent ≡ b → (cond a (cond b nothing (refusal 3 0)) (refusal 13 0)).number ≡ 0 → (n ≤ 65536) × (n ≤ lent)
      by true true f g x = (leb-true n 65536 f, leb-true n lent g)
      by true false f g x = absurd (omega arith)
      by false b f g x = absurd (omega arith)

  -- one without: what is so of 13 and of 3 is so of the answer
  pub unplaced : (P : Answered → Type 0) → (r.number ≡ 0 → ⊥) → (65536 < n → P (refusal 13 0)) → (n ≤ 65536 → lent < n → P (refusal 3 0)) → P r
  unfolding place_for
  unplaced P h large full = by (leb n 65536) (leb n lent) refl refl e
    where
      by : (a b : Bool) → leb n 65536 ≡ a → leb n lent ≡ b → r ≡ cond a (cond b nothing (refusal 3 0)) (refusal 13 0) → P r
      by true true f g x = absurd (h (ap (λ (y : Answered). y.number) x))
      by true false f g x = rw x (full (leb-true n 65536 f) (leb-false n lent g))
      by false b f g x = rw x (large (leb-false n 65536 f))
