-- The lesser of two distances, and the least of many in four lanes: where distances are no NaN and have no sign, it does not matter
-- in which order they are compared. Assumes nothing.
use Prim.Native.Nat.{ℕ, suc, ◌+◌, ◌*◌, min}
use mathlib.Core.Path.{◌≡◌, refl, sym, ap, ◌∙◌}
use mathlib.Core.Bool.{Bool, true, false, cond}
use native.Mathlib.Omega.{arith}
use lib.Ieee.{Float, inf, binary32, lt}
use Rattle.ieee.specs.Terms.{Good, key32}
use Rattle.ieee.proofs.Keys.{key_unique}
use Rattle.ieee.proofs.Goods.{inf-good}
use Rattle.ieee.proofs.Ranks.{lt_yes, lt_no}
use Rattle.stats.specs.declared.Near.{Near}
use Rattle.stats.specs.Stats.{pick_near, least_of}
use Rattle.stats.specs.Lesser.{lesser_of}

-- the least of four lanes
abbrev pub lowest_of : Float → Float → Float → Float → Float
lowest_of a b c e = lesser_of e (lesser_of c (lesser_of b a))

-- ---- one distance more
pick_dist : (t : Bool) (n : ℕ) (x : Float) (b : Near) → (pick_near t (record { index = n; dist = x }) b).dist ≡ cond t x b.dist
pick_dist true n x b = refl
pick_dist false n x b = refl

pub least_more : (d : ℕ → Float) (n : ℕ) → (least_of d (suc n)).dist ≡ lesser_of (d n) (least_of d n).dist
unfolding least_of lesser_of
least_more d n = pick_dist (lt (d n) (least_of d n).dist) n (d n) (least_of d n)

-- ---- the order does not matter
module _ (x y : Float) (g : Good binary32 x) (h : Good binary32 y) where
  pub lesser_good : Good binary32 (lesser_of x y)
  unfolding lesser_of
  lesser_good = by (lt x y)
    where
      by : (t : Bool) → Good binary32 (cond t x y)
      by true = g
      by false = h

  lesser_key : key32 (lesser_of x y) ≡ min (key32 x) (key32 y)
  unfolding lesser_of
  lesser_key = by (lt x y) refl
    where
      taken : lt x y ≡ true → key32 x ≡ min (key32 x) (key32 y)
      taken p = omega (arith, lt_yes x y g h p)

      left : lt x y ≡ false → key32 y ≡ min (key32 x) (key32 y)
      left p = omega (arith, lt_no x y g h p)

      by : (t : Bool) → lt x y ≡ t → key32 (cond t x y) ≡ min (key32 x) (key32 y)
      by true p = taken p
      by false p = left p

module _ (x y m : Float) (g : Good binary32 x) (h : Good binary32 y) (k : Good binary32 m) where
  lesser_swaps : lesser_of x (lesser_of y m) ≡ lesser_of y (lesser_of x m)
  lesser_swaps =
      key_unique binary32 _ _ (lesser_good x (lesser_of y m) g (lesser_good y m h k)) (lesser_good y (lesser_of x m) h (lesser_good x m g k))
      (numbers _ _ _ _ _ _ _ (lesser_key x (lesser_of y m) g (lesser_good y m h k)) (lesser_key y m h k) (lesser_key y (lesser_of x m) h (lesser_good x m g k)) (lesser_key x m g k))
    where
      numbers : (a b c e p q r : ℕ) → a ≡ min p b → b ≡ min q r → c ≡ min q e → e ≡ min p r → a ≡ c
      numbers a b c e p q r i j l n = omega arith

  lesser_joins : lesser_of x (lesser_of y m) ≡ lesser_of (lesser_of x y) m
  lesser_joins =
      key_unique binary32 _ _ (lesser_good x (lesser_of y m) g (lesser_good y m h k)) (lesser_good (lesser_of x y) m (lesser_good x y g h) k)
      (numbers _ _ _ _ _ _ _ (lesser_key x (lesser_of y m) g (lesser_good y m h k)) (lesser_key y m h k) (lesser_key (lesser_of x y) m (lesser_good x y g h) k) (lesser_key x y g h))
    where
      numbers : (a b c e p q r : ℕ) → a ≡ min p b → b ≡ min q r → c ≡ min e r → e ≡ min p q → a ≡ c
      numbers a b c e p q r i j l n = omega arith

-- a distance is as well compared in its lane
module _ (x a b c e : Float) (X : Good binary32 x) (A : Good binary32 a) (B : Good binary32 b) (C : Good binary32 c) (E : Good binary32 e) where
  low : Good binary32 (lesser_of b a)
  low = lesser_good b a B A

  lower : Good binary32 (lesser_of c (lesser_of b a))
  lower = lesser_good c (lesser_of b a) C low

  past : lesser_of x (lowest_of a b c e) ≡ lesser_of e (lesser_of c (lesser_of x (lesser_of b a)))
  past = lesser_swaps x e (lesser_of c (lesser_of b a)) X E lower ∙ ap (lesser_of e) (lesser_swaps x c (lesser_of b a) X C low)

  first_lane : lesser_of x (lowest_of a b c e) ≡ lowest_of (lesser_of x a) b c e
  first_lane = past ∙ ap (λ (z : Float). lesser_of e (lesser_of c z)) (lesser_swaps x b a X B A)

  second_lane : lesser_of x (lowest_of a b c e) ≡ lowest_of a (lesser_of x b) c e
  second_lane = past ∙ ap (λ (z : Float). lesser_of e (lesser_of c z)) (lesser_joins x b a X B A)

  third_lane : lesser_of x (lowest_of a b c e) ≡ lowest_of a b (lesser_of x c) e
  third_lane = lesser_swaps x e (lesser_of c (lesser_of b a)) X E lower ∙ ap (lesser_of e) (lesser_joins x c (lesser_of b a) X C low)

  fourth_lane : lesser_of x (lowest_of a b c e) ≡ lowest_of a b c (lesser_of x e)
  fourth_lane = lesser_joins x e (lesser_of c (lesser_of b a)) X E lower

-- ---- the least of the first n distances is that of four lanes
pub record Lanes (d : ℕ → Float) (n : ℕ) (a b c e : Float) : Type 0 where
  pub first : Good binary32 a
  pub second : Good binary32 b
  pub third : Good binary32 c
  pub fourth : Good binary32 e
  pub least : (least_of d n).dist ≡ lowest_of a b c e

lesser_same : (x : Float) → lesser_of x x ≡ x
unfolding lesser_of
lesser_same x = by (lt x x)
  where
    by : (t : Bool) → cond t x x ≡ x
    by true = refl
    by false = refl

pub lanes_start : (d : ℕ → Float) → Lanes d 0 (inf false) (inf false) (inf false) (inf false)
unfolding least_of
lanes_start d =
    let x = inf false in
    let g = inf-good binary32 in
    record {
      first = g;
      second = g;
      third = g;
      fourth = g;
      least = sym (ap (λ (z : Float). lesser_of x (lesser_of x z)) (lesser_same x) ∙ ap (lesser_of x) (lesser_same x) ∙ lesser_same x);
    }

module _ (d : ℕ → Float) (k : ℕ) (a b c e : Float) (L : Lanes d (4 * k) a b c e) (w x y z : Float) where
  module _ (W : Good binary32 w) (X : Good binary32 x) (Y : Good binary32 y) (Z : Good binary32 z) where
    taken : lesser_of z (lesser_of y (lesser_of x (lesser_of w (lowest_of a b c e)))) ≡ lowest_of (lesser_of w a) (lesser_of x b) (lesser_of y c) (lesser_of z e)
    taken =
        let A = lesser_good w a W L.first in
        let B = lesser_good x b X L.second in
        let C = lesser_good y c Y L.third in
        ap (λ (m : Float). lesser_of z (lesser_of y (lesser_of x m))) (first_lane w a b c e W L.first L.second L.third L.fourth)
        ∙ ap (λ (m : Float). lesser_of z (lesser_of y m)) (second_lane x (lesser_of w a) b c e X A L.second L.third L.fourth)
        ∙ ap (lesser_of z) (third_lane y (lesser_of w a) (lesser_of x b) c e Y A B L.third L.fourth)
        ∙ fourth_lane z (lesser_of w a) (lesser_of x b) (lesser_of y c) e Z A B C L.fourth

    -- four distances more, one in each lane
    pub lanes_more : w ≡ d (4 * k) → x ≡ d (4 * k + 1) → y ≡ d (4 * k + 2) → z ≡ d (4 * k + 3) → Lanes d (4 * (k + 1)) (lesser_of w a) (lesser_of x b) (lesser_of y c) (lesser_of z e)
    lanes_more p q r s =
        record {
          first = lesser_good w a W L.first;
          second = lesser_good x b X L.second;
          third = lesser_good y c Y L.third;
          fourth = lesser_good z e Z L.fourth;
          least = ap (λ (n : ℕ). (least_of d n).dist) (next k) ∙ walked ∙ taken;
        }
      where
        next : (k : ℕ) → 4 * (k + 1) ≡ suc (suc (suc (suc (4 * k))))
        next k = omega arith

        one : (n : ℕ) → n + 1 ≡ suc n
        one n = omega arith

        two : (n : ℕ) → n + 2 ≡ suc (suc n)
        two n = omega arith

        three : (n : ℕ) → n + 3 ≡ suc (suc (suc n))
        three n = omega arith

        step : (n : ℕ) (v m : Float) → v ≡ d n → (least_of d n).dist ≡ m → (least_of d (suc n)).dist ≡ lesser_of v m
        step n v m i j = least_more d n ∙ ap (lesser_of (d n)) j ∙ ap (λ (u : Float). lesser_of u m) (sym i)

        walked : (least_of d (suc (suc (suc (suc (4 * k)))))).dist ≡ lesser_of z (lesser_of y (lesser_of x (lesser_of w (lowest_of a b c e))))
        walked =
            step _ z _ (s ∙ ap d (three (4 * k)))
            (step _ y _ (r ∙ ap d (two (4 * k))) (step _ x _ (q ∙ ap d (one (4 * k))) (step (4 * k) w (lowest_of a b c e) p L.least)))

-- the lanes, compared one after the other
pub lanes_end : (d : ℕ → Float) (n : ℕ) (a b c e : Float) → Lanes d n a b c e → (x y z : Float) → x ≡ lesser_of b a → y ≡ lesser_of c x → z ≡ lesser_of e y → z ≡ (least_of d n).dist
lanes_end d n a b c e L x y z p q r = r ∙ ap (lesser_of e) (q ∙ ap (lesser_of c) p) ∙ sym L.least
