-- The scan `least_of` has the property `Least`, and it alone: there is one lowest index of the least distance. Over any distances.
-- Assumes nothing.
use Prim.Native.Nat.{ℕ, zero, suc, ◌-◌, ◌≤◌, ◌<◌}
use mathlib.Core.Path.{◌≡◌, refl, sym, ap, subst, subst⁻¹, ◌∙◌}
use mathlib.Core.Bool.{Bool, true, false, true≢false}
use mathlib.Core.Logic.{inl, inr}
use native.Mathlib.Nat.{le_antisymm, le_refl, lt_of_not-le, le_of_suc-le-suc, eq-or-lt_of_le}
use native.Mathlib.Omega.{arith}
use lib.Ieee.{Float, inf, binary32, lt}
use Rattle.ieee.specs.Terms.{Good, key32}
use Rattle.ieee.proofs.Keys.{key-top, key_unique}
use Rattle.ieee.proofs.Goods.{inf-good}
use Rattle.ieee.proofs.Ranks.{lt_yes, lt_no, yes_lt, no_lt}
use Rattle.stats.specs.declared.Near.{Near}
use Rattle.stats.specs.Stats.{pick_near, step_near, least_of}
use Rattle.stats.specs.Least.{Least}

-- ---- what holds of each distance holds of the least
pick_all : (P : Near → Type 0) (t : Bool) (x y : Near) → P x → P y → P (pick_near t x y)
pick_all P true x y p q = p
pick_all P false x y p q = q

pub least-all : (P : Float → Type 0) (d : ℕ → Float) (n : ℕ) → P (inf false) → ((j : ℕ) → j < n → P (d j)) → P (least_of d n).dist
unfolding least_of
least-all P d zero z h = z
least-all P d (suc n) z h =
    pick_all (λ b. P b.dist) (lt (d n) (least_of d n).dist) (record { index = n; dist = d n }) (least_of d n) (h n (omega arith)) (least-all P d n z (λ j l. h j (omega arith)))

pub least-good : (d : ℕ → Float) (n : ℕ) → ((j : ℕ) → j < n → Good binary32 (d j)) → Good binary32 (least_of d n).dist
least-good d n g = least-all (Good binary32) d n (inf-good binary32) g

suc-pred : (n : ℕ) → 1 ≤ n → n ≡ suc (n - 1)
suc-pred n h = omega arith

below : (d : ℕ → Float) (m : ℕ) → (least_of d (suc m)).index < suc m
unfolding least_of
below d zero = pick_all (λ b. b.index < 1) (lt (d 0) (inf false)) (record { index = 0; dist = d 0 }) (record { index = 0; dist = inf false }) (omega arith) (omega arith)
below d (suc m) =
    pick_all (λ b. b.index < suc (suc m)) (lt (d (suc m)) (least_of d (suc m)).dist) (record { index = suc m; dist = d (suc m) }) (least_of d (suc m)) (omega arith) (omega (arith, below d m))

pub least-below : (d : ℕ → Float) (n : ℕ) → 1 ≤ n → (least_of d n).index < n
least-below d n h = subst⁻¹ (λ (k : ℕ). (least_of d k).index < k) (suc-pred n h) (below d (n - 1))

-- distances that agree have the same least
pub least-same : (d e : ℕ → Float) (n : ℕ) → ((j : ℕ) → j < n → d j ≡ e j) → least_of d n ≡ least_of e n
unfolding least_of
least-same d e zero f = refl
least-same d e (suc n) f = ap (λ (b : Near). step_near b n (d n)) (least-same d e n (λ j l. f j (omega arith))) ∙ ap (step_near (least_of e n) n) (f n (omega arith))

-- ---- one answer
module _ (d : ℕ → Float) (n : ℕ) where
  not_sooner : (a b : Near) → Least d n a → Least d n b → a.index ≤ b.index
  not_sooner a b A B =
      le_of_suc-le-suc
      (lt_of_not-le
      (λ (l : suc b.index ≤ a.index).
      true≢false (sym (subst (λ (z : Float). lt a.dist z ≡ true) (sym B.dist) (A.first b.index l)) ∙ subst (λ (z : Float). lt z b.dist ≡ false) (sym A.dist) (B.none_less a.index A.within))))

  pub least_unique : (a b : Near) → Least d n a → Least d n b → a ≡ b
  least_unique a b A B = let e : a.index ≡ b.index = le_antisymm (not_sooner a b A B) (not_sooner b a B A) in both a.index b.index a.dist b.dist e (A.dist ∙ ap d e ∙ sym B.dist)
    where
      both : (i j : ℕ) (x y : Float) → i ≡ j → x ≡ y → ◌≡◌ {A = Near} (record { index = i; dist = x }) (record { index = j; dist = y })
      both i j x y p q = cc

-- only infinity is not below infinity
pub is-inf : (x : Float) → Good binary32 x → lt x (inf false) ≡ false → x ≡ inf false
is-inf x g t = key_unique binary32 x (inf false) g (inf-good binary32) (le_antisymm (key-top binary32 x g.fit) (lt_no x (inf false) g (inf-good binary32) t))

-- ---- the scan
module _ (d : ℕ → Float) where
  -- the distance before which the scan has seen nothing
  first-least : Good binary32 (d 0) → Least d 1 (step_near (record { index = 0; dist = inf false }) 0 (d 0))
  first-least g = by (lt (d 0) (inf false)) refl
    where
      only : (j : ℕ) → j < 1 → j ≡ 0
      only j l = omega arith

      no : (j : ℕ) → j < 0 → ⊥
      no j l = omega arith

      own : Least d 1 (record { index = 0; dist = d 0 })
      own =
          record {
            within = omega arith;
            dist = refl;
            none_less = λ (j : ℕ) (l : j < 1). subst⁻¹ (λ (k : ℕ). lt (d k) (d 0) ≡ false) (only j l) (no_lt (d 0) (d 0) g g (le_refl (key32 (d 0))));
            first = λ (j : ℕ) (l : j < 0). absurd (no j l);
          }

      by : (t : Bool) → lt (d 0) (inf false) ≡ t → Least d 1 (pick_near t (record { index = 0; dist = d 0 }) (record { index = 0; dist = inf false }))
      by true p = own
      by false p =
          subst (λ (x : Float). Least d 1 (record { index = 0; dist = x }))
          (is-inf (d 0) g p)
          own

  module _ (m : ℕ) (b : Near) (g : (j : ℕ) → j < suc m → Good binary32 (d j)) (a : Least d m b) where
    keeps : lt (d m) b.dist ≡ false → Least d (suc m) b
    keeps t =
        record {
          within = omega (arith, a.within);
          dist = a.dist;
          none_less = λ (j : ℕ) (l : j < suc m). elim (eq-or-lt_of_le (le_of_suc-le-suc l)) [
            | inl e ↦ subst⁻¹ (λ (k : ℕ). lt (d k) b.dist ≡ false) e t
            | inr s ↦ a.none_less j s
          ];
          first = a.first;
        }

    changes : lt (d m) b.dist ≡ true → Least d (suc m) (record { index = m; dist = d m })
    changes t =
        record {
          within = omega arith;
          dist = refl;
          none_less = λ (j : ℕ) (l : j < suc m). elim (eq-or-lt_of_le (le_of_suc-le-suc l)) [
            | inl e ↦ subst⁻¹ (λ (k : ℕ). lt (d k) (d m) ≡ false) e (no_lt (d m) (d m) gm gm (le_refl (key32 (d m))))
            | inr s ↦ no_lt (d j) (d m) (g j l) gm (omega (arith, under j s))
          ];
          first = λ (j : ℕ) (l : j < m). yes_lt (d m) (d j) gm (g j (omega arith)) (under j l);
        }
      where
        gm : Good binary32 (d m)
        gm = g m (omega arith)

        gb : Good binary32 b.dist
        gb = subst⁻¹ (Good binary32) a.dist (g b.index (omega (arith, a.within)))

        under : (j : ℕ) → j < m → key32 (d m) < key32 (d j)
        under j l = omega (arith, lt_yes (d m) b.dist gm gb t, lt_no (d j) b.dist (g j (omega arith)) gb (a.none_less j l))

    next-least : Least d (suc m) (step_near b m (d m))
    next-least = by (lt (d m) b.dist) refl
      where
        by : (t : Bool) → lt (d m) b.dist ≡ t → Least d (suc m) (pick_near t (record { index = m; dist = d m }) b)
        by true p = changes p
        by false p = keeps p

  scan : (m : ℕ) → ((j : ℕ) → j < suc m → Good binary32 (d j)) → Least d (suc m) (least_of d (suc m))
  unfolding least_of
  scan zero g = first-least (g 0 (omega arith))
  scan (suc m) g = next-least (suc m) (least_of d (suc m)) g (scan m (λ (j : ℕ) (l : j < suc m). g j (omega arith)))

  pub least_has : (n : ℕ) → 1 ≤ n → ((j : ℕ) → j < n → Good binary32 (d j)) → Least d n (least_of d n)
  least_has n h = subst⁻¹ (λ (k : ℕ). ((j : ℕ) → j < k → Good binary32 (d j)) → Least d k (least_of d k)) (suc-pred n h) (scan (n - 1))

  -- whatever has the property is the scan's answer
  pub is-least : (n : ℕ) (b : Near) → ((j : ℕ) → j < n → Good binary32 (d j)) → Least d n b → b ≡ least_of d n
  is-least n b g a = least_unique d n b (least_of d n) a (least_has n (omega (arith, a.within)) g)
