-- The counts of the entries add up to the number of kept pixels. Assumes nothing.
use Prim.Native.Nat.{ℕ, zero, suc, ◌+◌, ◌≤◌}
use mathlib.Core.Path.{◌≡◌, refl}
use mathlib.Core.Bool.{Bool, true, false, cond}
use mathlib.Core.List.{List, [], ◌∷◌}
use native.Mathlib.Omega.{arith}
use lib.ListN.{length}
use Rattle.lists.specs.Every.{sum}
use Rattle.color.specs.declared.Oklab.{Oklab}
use Rattle.color.specs.Color.{colour_at}
use Rattle.group_pixels.specs.declared.Rgba.{Rgba}
use Rattle.group_pixels.specs.Pixel.{same_bytes}
use Rattle.group_refusal.specs.Refusal.{Pixels}
use Rattle.group.specs.Entries.{Entry, seen_again, join, entries, bytes_at, keeps, total, kept_pixels}

pub by_cases : (P : Bool → Type 0) → P true → P false → (b : Bool) → P b
by_cases P t f true = t
by_cases P t f false = f

pub join_more : (es : List Entry) (x : Rgba) (o : Oklab) → (total (join es x o) ≡ total es + 1) × (length (join es x o) ≤ length es + 1)
unfolding join total
join_more [] x o = (refl, omega arith)
join_more (e ∷ es) x o =
    let r = join_more es x o in
    by_cases (λ b. (total (cond b (seen_again e ∷ es) (e ∷ join es x o)) ≡ total (e ∷ es) + 1) × (length (cond b (seen_again e ∷ es) (e ∷ join es x o)) ≤ suc (length es) + 1))
    (omega arith, omega arith) (omega arith, omega arith) (same_bytes e.colour x)

pub counts-add-up : (q : Pixels) (k : ℕ) → total (entries q k) ≡ kept_pixels q k
unfolding entries total sum
counts-add-up q zero = refl
counts-add-up q (suc k) =
    let r = counts-add-up q k in
    let j = join_more (entries q k) (bytes_at q k) (colour_at q.oklab k) in
    by_cases (λ b. total (cond b (join (entries q k) (bytes_at q k) (colour_at q.oklab k)) (entries q k)) ≡ kept_pixels q k + cond b 1 0)
    (omega arith) (omega arith) (keeps q k)
