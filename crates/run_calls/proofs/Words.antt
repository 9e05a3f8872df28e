-- The record's rules as tests, and the invariant between calls, are the same thing. Assumes nothing.
use mathlib.Core.Path.{◌≡◌, refl, sym, ap, ◌∙◌, subst}
use mathlib.Core.Logic.{◌⊎◌, inl, inr, ◌≢◌}
use mathlib.Core.Bool.{Bool, true, false, cond, ◌&&◌, true≢false}
use Prim.Native.Nat.{ℕ, zero, suc, ◌+◌, ◌-◌, ◌*◌, ◌≤◌, ◌<◌}
use native.Mathlib.Nat.{add-mul, suc-mul}
use native.Mathlib.Omega.{arith}
use lib.Dec.{ltb, eqb, leb}
use borrow.Author.Tests.{ltb-true, leb-true, eqb-true, eqb-false, lt-ltb, le-leb, ne_eqb}
use Rattle.lists.proofs.Tests.{and_l, and_r}
use Rattle.run_calls.proofs.Cases.{decide}
use Rattle.quantizer.specs.Course.{Course, b}
use Rattle.run_stages.specs.State.{State, draws, beside}
use Rattle.run_calls.specs.Place.{Place, seeding, growing, replacing, reducing, finishing, over, Rests}
use Rattle.run_calls.proofs.Place.{quiet}
use Rattle.run_stages.specs.Record.{stage_of, place_fits, made_by}

module _ (K : Course) (S1 : 1 ≤ K.job.S) (C1 : 1 ≤ K.job.C) where
  -- words 1 to 4 by the rules
  pub record Words (k r l m : ℕ) : Type 0 where
    pub place : place_fits K k r l ≡ true
    pub made : m ≡ made_by K k r l

  -- a stage that draws, with its number known
  drawing : (k r l m : ℕ) → draws k ≡ true → k ≤ 7 → r < (stage_of K k).rounds → 1 ≤ l → l ≤ (stage_of K k).each → m + l ≡ (stage_of K k).before + r * b K + (stage_of K k).each → Words k r l m
  unfolding place_fits made_by
  drawing k r l m D k7 R l1 L e = record {
    place = rw (le-leb k 7 k7, D, lt-ltb r (stage_of K k).rounds R, le-leb 1 l l1, le-leb l (stage_of K k).each L);
    made = rw D (omega arith);
  }

  still : (k m : ℕ) → draws k ≡ false → k ≤ 7 → m ≡ (stage_of K k).before → Words k 0 0 m
  unfolding place_fits made_by
  still k m D k7 e = record { place = rw (le-leb k 7 k7, D); made = rw (D, e) }

  -- from stage 5 on all draws are made
  before-past : (k : ℕ) → 5 ≤ k → (stage_of K k).before ≡ (K.job.S + K.job.C + 18) * b K
  unfolding stage_of beside
  before-past k q = rw (
    ne_eqb k 0 (λ (z : k ≡ 0). omega arith),
    ne_eqb k 1 (λ (z : k ≡ 1). omega arith),
    ne_eqb k 2 (λ (z : k ≡ 2). omega arith),
    ne_eqb k 3 (λ (z : k ≡ 3). omega arith),
    ne_eqb k 4 (λ (z : k ≡ 4). omega arith),
  )

  -- ---- the rules hold between calls
  pub fits : (k r l m : ℕ) → Place K k r l m → (draws k ≡ true → 1 ≤ l) → Words k r l m
  unfolding stage_of beside
  fits k r l m (seeding q R L e) h = rw q (drawing 0 r l m refl (omega arith) R (h (ap draws q)) L (omega (arith, suc-mul r (b K))))
  fits k r l m (growing q R L e) h = rw q (drawing 1 r l m refl (omega arith) R (h (ap draws q)) L (omega (arith, add-mul (K.job.S - 1) (suc r) (b K), suc-mul r (b K))))
  fits k r l m (replacing q R L e) h =
      rw q (drawing 2 r l m refl (omega arith) R (h (ap draws q)) L (omega (arith, add-mul (K.job.S - 1 + (K.job.C - 1)) (suc r) (b K), suc-mul r (b K))))
  fits k r l m (reducing q R L e) h = rw (q, R, L) (still 3 m refl (omega arith) e)
  fits k r l m (finishing q R L e) h =
      rw (q, R) (drawing 4 0 l m refl (omega arith) (omega arith) (h (ap draws q)) L (e ∙ ap (λ (x : ℕ). x * b K) (omega arith) ∙ add-mul (K.job.S + K.job.C + 8) 10 (b K) ∙ omega arith))
  fits k r l m (over q most R L e) h = rw (R, L) (still k m (quiet k q) most (e ∙ sym (before-past k q)))

  -- ---- and what passes them is a place between calls
  pub record Between (k r l m : ℕ) : Type 0 where
    pub place : Place K k r l m
    pub some : draws k ≡ true → 1 ≤ l

  -- the tests of a stage that draws, and of one that does not, as facts
  opened : (k r l m : ℕ) → draws k ≡ true → Words k r l m
      → (r < (stage_of K k).rounds) × (1 ≤ l) × (l ≤ (stage_of K k).each) × (m + l ≡ (stage_of K k).before + r * b K + (stage_of K k).each)
  opened k r l m D w = by (and_r (leb k 7) _ (unfold place_fits in w.place))
    where
      sizes : m ≡ (stage_of K k).before + r * b K + ((stage_of K k).each - l)
      sizes = unfold made_by in w.made ∙ (rw D)

      by : cond (draws k) (ltb r (stage_of K k).rounds && (leb 1 l && leb l (stage_of K k).each)) (eqb r 0 && eqb l 0) ≡ true
          → (r < (stage_of K k).rounds) × (1 ≤ l) × (l ≤ (stage_of K k).each) × (m + l ≡ (stage_of K k).before + r * b K + (stage_of K k).each)
      by h =
          let t : ltb r (stage_of K k).rounds && (leb 1 l && leb l (stage_of K k).each) ≡ true = rw D at h in
          let u = and_r (ltb r (stage_of K k).rounds) _ t in
          let x : l ≤ (stage_of K k).each = leb-true l (stage_of K k).each (and_r (leb 1 l) _ u) in
          (ltb-true r (stage_of K k).rounds (and_l _ (leb 1 l && leb l (stage_of K k).each) t), leb-true 1 l (and_l _ (leb l (stage_of K k).each) u), x, omega (arith, sizes))

  closed : (k r l m : ℕ) → draws k ≡ false → Words k r l m → (r ≡ 0) × (l ≡ 0) × (m ≡ (stage_of K k).before)
  closed k r l m D w = by (and_r (leb k 7) _ (unfold place_fits in w.place))
    where
      by : cond (draws k) (ltb r (stage_of K k).rounds && (leb 1 l && leb l (stage_of K k).each)) (eqb r 0 && eqb l 0) ≡ true → (r ≡ 0) × (l ≡ 0) × (m ≡ (stage_of K k).before)
      by h =
          let t : eqb r 0 && eqb l 0 ≡ true = rw D at h in
          (eqb-true r 0 (and_l _ (eqb l 0) t), eqb-true l 0 (and_r (eqb r 0) _ t), unfold made_by in w.made ∙ (rw D))

  seven : (k r l : ℕ) {m : ℕ} → Words k r l m → k ≤ 7
  unfolding place_fits
  seven k r l w = leb-true k 7 (and_l _ _ w.place)

  past : (k r l m : ℕ) → 5 ≤ k → Words k r l m → Between k r l m
  past k r l m q w =
      let x = closed k r l m (quiet k q) w in
      record {
        place = over q (seven k r l w) x.0 x.1 (x.2 ∙ before-past k q);
        some = λ t. absurd (true≢false (sym t ∙ quiet k q));
      }

  pub between : (k r l m : ℕ) → Words k r l m → Between k r l m
  unfolding stage_of beside
  between zero r l m w = let x = opened 0 r l m refl w in record { place = seeding refl x.0 x.2 (omega (arith, x.3, suc-mul r (b K))); some = λ _. x.1 }
  between (suc zero) r l m w = let x = opened 1 r l m refl w in record { place = growing refl x.0 x.2 (omega (arith, x.3, add-mul (K.job.S - 1) (suc r) (b K), suc-mul r (b K))); some = λ _. x.1 }
  between (suc (suc zero)) r l m w = let x = opened 2 r l m refl w in record { place = replacing refl x.0 x.2 (omega (arith, x.3, add-mul (K.job.S - 1 + (K.job.C - 1)) (suc r) (b K), suc-mul r (b K))); some = λ _. x.1 }
  between (suc (suc (suc zero))) r l m w = let x = closed 3 r l m refl w in record { place = reducing refl x.0 x.1 x.2; some = λ t. absurd (true≢false (sym t)) }
  between (suc (suc (suc (suc zero)))) r l m w =
      let x = opened 4 r l m refl w in
      let z : r ≡ 0 = omega (arith, x.0) in
      record {
        place = finishing refl z x.2 (x.3 ∙ ap (λ (y : ℕ). (K.job.S + K.job.C + 8) * b K + y * b K + 10 * b K) z ∙ omega arith
            ∙ sym (add-mul (K.job.S + K.job.C + 8) 10 (b K)) ∙ ap (λ (y : ℕ). y * b K) (omega arith));
        some = λ _. x.1;
      }
  between (suc (suc (suc (suc (suc k))))) r l m w = past _ r l m (omega arith) w

  -- ---- for a state
  pub rests→words : (s : State) → Rests K s → Words s.rec.stage s.rec.rounds s.rec.left s.rec.made
  rests→words s R = fits _ _ _ _ R.place (λ D.
      let z : s.rec.left ≢ 0 = eqb-false s.rec.left 0 (subst (λ (t : Bool). t && eqb s.rec.left 0 ≡ false) D R.done) in omega arith)

  pub words→rests : (s : State) → Words s.rec.stage s.rec.rounds s.rec.left s.rec.made → Rests K s
  words→rests s w = by (between _ _ _ _ w) (decide (draws s.rec.stage))
    where
      by : Between s.rec.stage s.rec.rounds s.rec.left s.rec.made → (draws s.rec.stage ≡ true) ⊎ (draws s.rec.stage ≡ false) → Rests K s
      by x (inl t) = record { place = x.place; done = rw (t, ne_eqb s.rec.left 0 (λ (q : s.rec.left ≡ 0). omega (arith, x.some t))) }
      by x (inr t) = record { place = x.place; done = ap (λ (u : Bool). u && eqb s.rec.left 0) t }
