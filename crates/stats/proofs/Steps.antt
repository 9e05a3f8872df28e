-- One value more: what a step gives, by its tests, and the step at the code's `i + 1`; and what the first other changes. Assumes nothing.
use Prim.Native.Nat.{ℕ, ◌+◌, ◌<◌}
use mathlib.Core.Path.{◌≡◌, refl, ap, sym, ◌∙◌}
use mathlib.Core.Bool.{Bool, true, false, ◌&&◌}
use native.Mathlib.Numerals.{add-one}
use borrow.Author.Tests.{eq-eqb, ne_eqb, lt-ltb}
use lib.Dec.{eqb, ltb}
use lib.Ieee.{Float, lt}
use Rattle.stats.specs.declared.Near.{Near}
use Rattle.stats.specs.declared.Two.{Two}
use Rattle.stats.specs.Stats.{pick_near, step_near, least_of, pick_two, led, followed, step_two, scan_two, with_other}

pub near_by : (b : Near) (n : ℕ) (d : Float) (t : Bool) → lt d b.dist ≡ t → pick_near t (record { index = n; dist = d }) b ≡ step_near b n d
near_by b n d t e = sym (ap (λ (x : Bool). pick_near x (record { index = n; dist = d }) b) e)

pub two_by : (b : Two) (n : ℕ) (d : Float) (t u : Bool) → lt d b.dist ≡ t → lt d b.second ≡ u → pick_two t (led b n d) (pick_two u (followed b n d) b) ≡ step_two b n d
two_by b n d t u e f = sym (ap (λ (x : Bool). pick_two x (led b n d) (pick_two (lt d b.second) (followed b n d) b)) e ∙ ap (λ (x : Bool). pick_two t (led b n d) (pick_two x (followed b n d) b)) f)

module _ (d : ℕ → Float) where
  pub near_more : (i : ℕ) (b r : Near) (x : Float) → b ≡ least_of d i → x ≡ d i → r ≡ step_near b i x → r ≡ least_of d (i + 1)
  unfolding least_of
  near_more i b r x h e f = f ∙ ap (step_near b i) e ∙ ap (λ (y : Near). step_near y i (d i)) h ∙ sym (ap (least_of d) (add-one i))

  pub two-more : (i : ℕ) (b r : Two) (x : Float) → b ≡ scan_two d i → x ≡ d i → r ≡ step_two b i x → r ≡ scan_two d (i + 1)
  unfolding scan_two
  two-more i b r x h e f = f ∙ ap (step_two b i) e ∙ ap (λ (y : Two). step_two y i (d i)) h ∙ sym (ap (scan_two d) (add-one i))

-- ---- the first other
module _ (n : ℕ) (b : Two) where
  pub other_apart : (b.next ≡ b.index → ⊥) → with_other n b ≡ b
  other_apart f = ap (λ (t : Bool). pick_two (t && ltb 1 n) (followed b 1 b.second) b) (ne_eqb b.next b.index f)

  pub other_few : ltb 1 n ≡ false → with_other n b ≡ b
  other_few e = ap (λ (t : Bool). pick_two (eqb b.next b.index && t) (followed b 1 b.second) b) e ∙ by (eqb b.next b.index)
    where
      by : (t : Bool) → pick_two (t && false) (followed b 1 b.second) b ≡ b
      by true = refl
      by false = refl

  pub other_named : b.next ≡ b.index → 1 < n → with_other n b ≡ followed b 1 b.second
  other_named e l =
      ap (λ (t : Bool). pick_two (t && ltb 1 n) (followed b 1 b.second) b) (eq-eqb b.next b.index e)
      ∙ ap (λ (t : Bool). pick_two t (followed b 1 b.second) b) (lt-ltb 1 n l)

-- what it leaves alone, whatever its test
pub other-keeps : {A : Type 0} (f : Two → A) (n : ℕ) (b : Two) → f (followed b 1 b.second) ≡ f b → f (with_other n b) ≡ f b
other-keeps f n b e = by (eqb b.next b.index && ltb 1 n)
  where
    by : (t : Bool) → f (pick_two t (followed b 1 b.second) b) ≡ f b
    by true = e
    by false = refl
