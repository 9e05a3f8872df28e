-- The search among the entries, and a turn by what the code found. Assumes nothing.
use Rattle.std.specs.Prelude.{Option}
use Prim.Native.Nat.{ℕ, zero, suc, ◌+◌, ◌-◌, ◌*◌, ◌<◌, ◌≤◌}
use mathlib.Core.Path.{◌≡◌, refl, ◌∙◌, ap}
use mathlib.Core.Bool.{Bool, true, false, cond}
use mathlib.Core.List.{List}
use native.Mathlib.Nat.{add-zero}
use native.Mathlib.Omega.{arith}
use lib.ListN.{drop, get_or, set}
use lib.Seq.{drop-drop, get_or-drop}
use lib.Ieee.{Float}
use borrow.Author.Tests.{lt-ltb, le-ltb}
use Rattle.color.specs.declared.Oklab.{Oklab}
use Rattle.color.specs.Color.{colour_at, put_at}
use Rattle.group_pixels.specs.declared.Rgba.{Rgba}
use Rattle.group_pixels.specs.declared.Rgb.{Rgb}
use Rattle.group_pixels.specs.Pixel.{rgba_at, put_rgba, kept, same_bytes}
use Rattle.group_refusal.specs.Refusal.{EntryRoom, entry_room}
use Rattle.group_refusal.proofs.Faults.{one_more, told}
use Rattle.group.specs.Turn.{seek, filled, turn}

-- ---- the search among the entries

front : (s : List ℕ) (e : ℕ) → rgba_at (drop (4 * e) s) 0 ≡ rgba_at s e
front s e = simp (get_or-drop, add-zero)

module _ (n e : ℕ) (s : List ℕ) (x : Rgba) where
  seek-turn : e < n → seek (n - e) (drop (4 * e) s) x ≡ cond (same_bytes (rgba_at s e) x) 0 (suc (seek (n - (e + 1)) (drop (4 * (e + 1)) s) x))
  unfolding seek
  seek-turn h =
      let k : 4 * (e + 1) ≡ 4 * e + 4 = omega arith in
      rw (one_more e n h, k, ← drop-drop 4 (4 * e) s, ← front s e) refl

  module _ (so_far : seek n s x ≡ e + seek (n - e) (drop (4 * e) s) x) where
    module _ (more : e < n) {d : Rgba} {b : Bool} (read : d ≡ rgba_at s e) (tested : b ≡ same_bytes d x) where
      turned : seek n s x ≡ e + cond b 0 (suc (seek (n - (e + 1)) (drop (4 * (e + 1)) s) x))
      turned = so_far ∙ ap (λ (k : ℕ). e + k) (seek-turn more) ∙ rw (tested, read)

      pub seek_found : b ≡ true → e ≡ seek n s x
      seek_found t = omega (arith, rw t at turned)

      pub seek_on : b ≡ false → seek n s x ≡ e + 1 + seek (n - (e + 1)) (drop (4 * (e + 1)) s) x
      seek_on t = omega (arith, rw t at turned)

    pub seek-none : e ≤ n → n ≤ e → n ≡ seek n s x
    unfolding seek
    seek-none h g =
        let k : n - e ≡ 0 = omega arith in
        omega (arith, rw k at so_far)

pub seek-start : (n : ℕ) (s : List ℕ) (x : Rgba) → seek n s x ≡ 0 + seek (n - 0) (drop (4 * 0) s) x
seek-start n s x = let k : n - 0 ≡ n = omega arith in rw k (omega arith)

-- ---- the turn, by what the code found

seek-most : (n : ℕ) (s : List ℕ) (x : Rgba) → seek n s x ≤ n
unfolding seek
seek-most zero s x = omega arith
seek-most (suc n) s x = by (same_bytes (rgba_at s 0) x) (seek-most n (drop 4 s) x)
  where
    by : (b : Bool) → seek n (drop 4 s) x ≤ n → cond b 0 (suc (seek n (drop 4 s) x)) ≤ suc n
    by true l = omega arith
    by false l = omega arith

pub at_most : (n : ℕ) (s : List ℕ) (x : Rgba) (e : ℕ) → e ≡ seek n s x → e ≤ n
at_most n s x e f = omega (arith, seek-most n s x)

module _ (bytes : List ℕ) (oklab : List Float) (cz : Option Rgb) (k n : ℕ) (m : EntryRoom) {x : Rgba} {b : Bool} (read : x ≡ rgba_at bytes k) (tested : b ≡ kept cz x) where
  pub turn_passes : b ≡ false → filled n m ≡ turn bytes oklab cz k (filled n m)
  unfolding turn
  turn_passes e = rw (told (kept cz) read tested e)

  module _ (is : b ≡ true) (e : ℕ) (found : e ≡ seek n m.bytes x) where
    pub turn_joins : e < n → filled n (entry_room m.bytes m.oklab (set m.counts e (get_or m.counts e 0 + 1)) (set m.index k e)) ≡ turn bytes oklab cz k (filled n m)
    unfolding turn
    turn_joins h = rw (told (kept cz) read tested is, ← read, ← found, lt-ltb e n h)

    pub turn_begins : n ≤ e → {o : Oklab} {bs : List ℕ} {os : List Float} → bs ≡ put_rgba m.bytes n x → o ≡ colour_at oklab k → os ≡ put_at m.oklab n o
        → filled (n + 1) (entry_room bs os (set m.counts n 1) (set m.index k e)) ≡ turn bytes oklab cz k (filled n m)
    unfolding turn
    turn_begins h eb eo ek = rw (told (kept cz) read tested is, ← read, ← found, le-ltb e n h, eb, ek, eo)
