-- The least two where all values are one: index 0, and next 1, or 0 at infinity where there is one value. Over any value that is no NaN and has no
-- sign. Assumes nothing.
use Prim.Native.Nat.{ℕ, zero, suc, ◌-◌, ◌≤◌, ◌<◌}
use mathlib.Core.Path.{◌≡◌, refl, sym, ap, ◌∙◌}
use mathlib.Core.Bool.{Bool, true, false}
use native.Mathlib.Nat.{le_refl}
use native.Mathlib.Omega.{arith}
use lib.Ieee.{Float, inf, binary32, lt}
use Rattle.ieee.specs.Terms.{Good, key32}
use Rattle.ieee.proofs.Ranks.{no_lt}
use Rattle.stats.specs.declared.Two.{Two}
use Rattle.stats.specs.Stats.{pick_two, led, followed, step_two, scan_two, with_other, least_two}
use Rattle.stats.proofs.Scan.{is-inf}
use Rattle.stats.proofs.Steps.{other_apart, other_few, other_named}
use Rattle.stats.proofs.BestTwo.{two-same}

module _ (x : Float) (g : Good binary32 x) where
  abbrev level : ℕ → Float
  level i = x

  abbrev pub lone : Two
  lone = record { index = 0; dist = x; next = 0; second = inf false }

  abbrev pub tied : Two
  tied = record { index = 0; dist = x; next = 1; second = x }

  not-below : lt x x ≡ false
  not-below = no_lt x x g g (le_refl (key32 x))

  one : scan_two level 1 ≡ lone
  unfolding scan_two
  one = by (lt x (inf false)) refl
    where
      by : (t : Bool) → lt x (inf false) ≡ t → pick_two t (led (scan_two level 0) 0 x) (pick_two t (followed (scan_two level 0) 0 x) (scan_two level 0)) ≡ lone
      by true p = refl
      by false p = sym (ap (λ (y : Float). record { index = 0; dist = y; next = 0; second = inf false }) (is-inf x g p))

  -- a second one: below infinity it is next, at infinity it changes nothing
  second : (t : Bool) → lt x (inf false) ≡ t → (n : ℕ) → step_two lone n x ≡ pick_two t (followed lone n x) lone
  second t p n =
      ap (λ (u : Bool). pick_two u (led lone n x) (pick_two (lt x (inf false)) (followed lone n x) lone)) not-below
      ∙ ap (λ (u : Bool). pick_two u (followed lone n x) lone) p

  stays : (n : ℕ) → step_two tied n x ≡ tied
  stays n = ap (λ (t : Bool). pick_two t (led tied n x) (pick_two t (followed tied n x) tied)) not-below

  below : lt x (inf false) ≡ true → (m : ℕ) → scan_two level (suc (suc m)) ≡ tied
  unfolding scan_two
  below p zero = ap (λ (b : Two). step_two b 1 x) one ∙ second true p 1
  below p (suc m) = ap (λ (b : Two). step_two b (suc (suc m)) x) (below p m) ∙ stays (suc (suc m))

  above : lt x (inf false) ≡ false → (m : ℕ) → scan_two level (suc m) ≡ lone
  unfolding scan_two
  above p zero = one
  above p (suc m) = ap (λ (b : Two). step_two b (suc m) x) (above p m) ∙ second false p (suc m)

  more : (m : ℕ) → least_two level (suc (suc m)) ≡ tied
  unfolding least_two
  more m = by (lt x (inf false)) refl
    where
      by : (t : Bool) → lt x (inf false) ≡ t → with_other (suc (suc m)) (scan_two level (suc (suc m))) ≡ tied
      by true p = ap (with_other (suc (suc m))) (below p m) ∙ other_apart (suc (suc m)) tied one-not-nought
        where
          one-not-nought : ◌≡◌ {A = ℕ} 1 0 → ⊥
          one-not-nought e = omega arith
      by false p = ap (with_other (suc (suc m))) (above p (suc m)) ∙ other_named (suc (suc m)) lone refl (omega arith) ∙ sym (ap (followed lone 1) (is-inf x g p))

  module _ (d : ℕ → Float) (n : ℕ) (e : (j : ℕ) → j < n → d j ≡ x) where
    pub level_one : n ≡ 1 → least_two d n ≡ lone
    unfolding least_two
    level_one h = two-same d level n e ∙ ap (least_two level) h ∙ other_few 1 (scan_two level 1) refl ∙ one

    pub level_more : 2 ≤ n → least_two d n ≡ tied
    level_more h = two-same d level n e ∙ ap (least_two level) (from_two n h) ∙ more (n - 2)
      where
        from_two : (n : ℕ) → 2 ≤ n → n ≡ suc (suc (n - 2))
        from_two n h = omega arith
