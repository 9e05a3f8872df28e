-- The lengths tested one by one are the definition's test. Assumes nothing.
use Prim.Native.Nat.{ℕ, ◌*◌, ◌≤◌, ◌<◌}
use mathlib.Core.Path.{◌≡◌, sym}
use mathlib.Core.Bool.{Bool, true, false, not, ◌&&◌, true≢false}
use mathlib.Core.List.{List}
use native.Mathlib.Omega.{arith}
use native.Mathlib.Nat.{mul-le-mul}
use lib.Dec.{eqb}
use lib.Ieee.{Float}
use lib.ListN.{length}
use borrow.Author.Tests.{eq-eqb, ne_eqb, eqb-true, not-true, not-false}
use Rattle.job.specs.Job.{most_subpalettes, most_colours}
use Rattle.job.specs.declared.Sizes.{Sizes}
use Rattle.run_stages.specs.Calls.{memory, record_words, memory_room, colours_room}
use Rattle.run_record.specs.Sized.{plain}
use Rattle.run_check.specs.Room.{SameInRange, Lends}

pub too_many : (s c : ℕ) (p : Bool) → most_subpalettes < s → SameInRange s c false p
too_many s c p h l = absurd (omega arith)

pub too_wide : (s c : ℕ) (p : Bool) → most_colours < c → SameInRange s c false p
too_wide s c p h l m = absurd (omega arith)

pub cells-few : (s c : ℕ) → s ≤ most_subpalettes → c ≤ most_colours → s * c ≤ 256
cells-few s c h l = mul-le-mul h l

refused : (words : List ℕ) → false ≡ true → length words ≡ record_words
refused words h = absurd (true≢false (sym h))

module _ (z : Sizes) (order hints : List ℕ) (palette least : List Float) (words : List ℕ) where
  abbrev lent : Bool
  lent = memory_room (plain z) (memory order hints palette least words)

  pub order_unlike : (length order ≡ z.n → ⊥) → Lends z.s z.c false lent words
  unfolding memory_room
  order_unlike h = record { same = λ _ _. rw (ne_eqb (length order) z.n h); recorded = refused words }

  module _ (o : length order ≡ z.n) where
    pub hints_unlike : (length hints ≡ z.t → ⊥) → Lends z.s z.c false lent words
    unfolding memory_room
    hints_unlike h = record { same = λ _ _. rw (eq-eqb (length order) z.n o, ne_eqb (length hints) z.t h); recorded = refused words }

    module _ (i : length hints ≡ z.t) (x : Bool) (p : SameInRange z.s z.c x (eqb (length palette) (3 * (z.s * z.c)))) where
      pub palette_unlike : not x ≡ true → Lends z.s z.c false lent words
      unfolding memory_room colours_room
      palette_unlike h = record { same = λ l m. rw (eq-eqb (length order) z.n o, eq-eqb (length hints) z.t i, ← p l m, not-true x h); recorded = refused words }

      module _ (a : not x ≡ false) (y : Bool) (q : SameInRange z.s z.c y (eqb (length least) (3 * (z.s * z.c)))) where
        pub least_unlike : not y ≡ true → Lends z.s z.c false lent words
        unfolding memory_room colours_room
        least_unlike h = record {
          same = λ l m. rw (eq-eqb (length order) z.n o, eq-eqb (length hints) z.t i, ← p l m, not-false x a, ← q l m, not-true y h);
          recorded = refused words;
        }

        pub words_last : not y ≡ false → Lends z.s z.c (eqb (length words) record_words) lent words
        unfolding memory_room colours_room
        words_last h = record {
          same = λ l m. rw (eq-eqb (length order) z.n o, eq-eqb (length hints) z.t i, ← p l m, not-false x a, ← q l m, not-false y h);
          recorded = eqb-true (length words) record_words;
        }

-- ---- with one slice more
module _ (z : Sizes) (words : List ℕ) (x p : Bool) (L : Lends z.s z.c x p words) (more : List Float) where
  pub memory_unlike : not x ≡ true → Lends z.s z.c false (p && colours_room (plain z) more) words
  memory_unlike h = record { same = λ l m. rw (← L.same l m, not-true x h); recorded = refused words }

  pub more-last : not x ≡ false → (y : Bool) → SameInRange z.s z.c y (eqb (length more) (3 * (z.s * z.c))) → Lends z.s z.c y (p && colours_room (plain z) more) words
  unfolding colours_room
  more-last h y q = record { same = λ l m. rw (← L.same l m, not-false x h) (q l m); recorded = λ _. L.recorded (not-false x h) }
