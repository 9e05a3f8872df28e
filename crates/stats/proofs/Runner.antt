-- The walk for the best two, from any hint: the first leads, and next is the first of the others by distance and then by index.
-- Where it ends there is one answer, whatever the hint. Over any distances that are no NaN and have no sign. Assumes nothing.
use Prim.Native.Nat.{ℕ, ◌+◌, ◌*◌, ◌≤◌, ◌<◌}
use mathlib.Core.Path.{◌≡◌, refl, sym, ap, subst⁻¹, ◌∙◌}
use mathlib.Core.Bool.{false}
use mathlib.Core.Logic.{◌⊎◌, inl, inr}
use native.Mathlib.Nat.{le_trans, le_refl}
use native.Mathlib.Omega.{arith}
use borrow.Author.Count.{below_none, below_more}
use lib.Ieee.{Float, inf, binary32}
use Rattle.ieee.specs.Terms.{Good, key32, rank}
use Rattle.ieee.proofs.Keys.{key-top, key_unique}
use Rattle.ieee.proofs.Goods.{inf-good}
use Rattle.stats.specs.declared.Two.{Two}
use Rattle.stats.specs.Stats.{led, followed}
use Rattle.stats.specs.declared.Near.{Near}
use Rattle.stats.proofs.Scan.{least_unique}
use Rattle.stats.proofs.Leading.{Leading, lead_start, lead_stays, lead_skips, lead_passes, lead_least}
use Rattle.stats.proofs.BestTwo.{first_of}

-- next is an index below n other than the first's, at the second distance
pub record Other (d : ℕ → Float) (n : ℕ) (b : Two) : Type 0 where
  pub within : b.next < n
  pub other : b.next ≡ b.index → ⊥
  pub dist : b.second ≡ d b.next

-- no index but the first's was met: the hint and those below i are it
pub record Alone (hint i : ℕ) (b : Two) : Type 0 where
  pub own : b.next ≡ b.index
  pub none : b.second ≡ inf false
  pub hint-only : hint ≡ b.index
  pub each-only : (j : ℕ) → j < i → j ≡ b.index

-- b is where a walk from the hint stands before i
pub record Runner (d : ℕ → Float) (n hint i : ℕ) (b : Two) : Type 0 where
  pub lead : Leading d n hint i (first_of b)
  pub good : Good binary32 b.second
  pub above : key32 (d b.index) ≤ key32 b.second
  pub seen : (j : ℕ) → i ≤ j → j ≡ b.index → j ≡ hint
  pub seen_next : (j : ℕ) → i ≤ j → j ≡ b.next → j ≡ hint
  pub to_hint : (hint ≡ b.index → ⊥) → rank b.second b.next ≤ rank (d hint) hint
  pub to_each : (j : ℕ) → j < i → (j ≡ b.index → ⊥) → rank b.second b.next ≤ rank (d j) j
  pub met : Alone hint i b ⊎ Other d n b

module _ (d : ℕ → Float) (n hint : ℕ) (G : (j : ℕ) → j < n → Good binary32 (d j)) (H : hint < n) (N : n < 18446744073709551616) where
  pub run-start : Runner d n hint 0 (record { index = hint; dist = d hint; next = hint; second = inf false })
  run-start =
      record {
        lead = lead_start d n hint H;
        good = inf-good binary32;
        above = key-top binary32 (d hint) (G hint H).fit;
        seen = λ j l e. e;
        seen_next = λ j l e. e;
        to_hint = λ f. absurd (f refl);
        to_each = below_none _;
        met = inl (record { own = refl; none = refl; hint-only = refl; each-only = below_none _ });
      }

  module _ (i : ℕ) (b : Two) (R : Runner d n hint i b) where
    pub run_skips : i ≡ hint → Runner d n hint (i + 1) b
    run_skips e =
        record {
          lead = lead_skips d n hint i (first_of b) R.lead e;
          good = R.good;
          above = R.above;
          seen = λ j l. R.seen j (omega arith);
          seen_next = λ j l. R.seen_next j (omega arith);
          to_hint = R.to_hint;
          to_each = below_more _ i R.to_each (subst⁻¹ (λ (j : ℕ). (j ≡ b.index → ⊥) → rank b.second b.next ≤ rank (d j) j) e R.to_hint);
          met = elim R.met [
            | inl z ↦ inl (record { own = z.own; none = z.none; hint-only = z.hint-only; each-only = below_more _ i z.each-only (e ∙ z.hint-only) })
            | inr o ↦ inr o
          ];
        }

    -- an index that is not the first's: next is before it, or it is next
    module _ (l : i < n) (r : rank (d b.index) b.index ≤ rank (d i) i) where
      pub run_drops : Other d n b → rank b.second b.next ≤ rank (d i) i → Runner d n hint (i + 1) b
      run_drops o k =
          record {
            lead = lead_stays d n hint i (first_of b) R.lead r;
            good = R.good;
            above = R.above;
            seen = λ j u. R.seen j (omega arith);
            seen_next = λ j u. R.seen_next j (omega arith);
            to_hint = R.to_hint;
            to_each = below_more _ i R.to_each (λ f. k);
            met = inr o;
          }

      pub run_follows : (i ≡ hint → ⊥) → Alone hint i b ⊎ (rank (d i) i ≤ rank b.second b.next) → Runner d n hint (i + 1) (followed b i (d i))
      run_follows f k =
          record {
            lead = lead_stays d n hint i (first_of b) R.lead r;
            good = G i l;
            above = omega (arith, R.lead.within);
            seen = λ j u. R.seen j (omega arith);
            seen_next = λ j u e. absurd (later j u e);
            to_hint = λ g. hint-after k g;
            to_each = below_more _ i (λ (j : ℕ) (u : j < i) (g : j ≡ b.index → ⊥). each_after k j u g) (λ g. le_refl (rank (d i) i));
            met = inr (record { within = l; other = λ e. f (R.seen i (le_refl i) e); dist = refl });
          }
        where
          later : (j : ℕ) → i + 1 ≤ j → j ≡ i → ⊥
          later j u e = omega arith

          hint-after : Alone hint i b ⊎ (rank (d i) i ≤ rank b.second b.next) → (hint ≡ b.index → ⊥) → rank (d i) i ≤ rank (d hint) hint
          hint-after (inl z) g = absurd (g z.hint-only)
          hint-after (inr k) g = le_trans k (R.to_hint g)

          each_after : Alone hint i b ⊎ (rank (d i) i ≤ rank b.second b.next) → (j : ℕ) → j < i → (j ≡ b.index → ⊥) → rank (d i) i ≤ rank (d j) j
          each_after (inl z) j u g = absurd (g (z.each-only j u))
          each_after (inr k) j u g = le_trans k (R.to_each j u g)

    pub run_takes : i < n → rank (d i) i ≤ rank (d b.index) b.index → (b.index ≡ i → ⊥) → Runner d n hint (i + 1) (led b i (d i))
    run_takes l r f =
        record {
          lead = lead_passes d n hint i (first_of b) R.lead l r;
          good = subst⁻¹ (Good binary32) R.lead.dist (G b.index R.lead.within);
          above = omega (arith, R.lead.within, same);
          seen = λ j u e. absurd (later j u e);
          seen_next = λ j u. R.seen j (omega arith);
          to_hint = λ g. omega (arith, same, R.lead.to_hint);
          to_each = λ (j : ℕ) (u : j < i + 1) (g : j ≡ i → ⊥). omega (arith, same, R.lead.to_each j (before j u g));
          met = inr (record { within = R.lead.within; other = f; dist = R.lead.dist });
        }
      where
        same : key32 b.dist ≡ key32 (d b.index)
        same = ap key32 R.lead.dist

        later : (j : ℕ) → i + 1 ≤ j → j ≡ i → ⊥
        later j u e = omega arith

        before : (j : ℕ) → j < i + 1 → (j ≡ i → ⊥) → j < i
        before j u g = omega arith

-- ---- one answer
next_le : (d : ℕ → Float) (n hint other : ℕ) (b c : Two) → b.index ≡ c.index → Runner d n hint n b → Runner d n other n c → Other d n c → rank b.second b.next ≤ rank c.second c.next
next_le d n hint other b c e R S o = subst⁻¹ (λ (y : Float). rank b.second b.next ≤ rank y c.next) o.dist (R.to_each c.next o.within (λ z. o.other (z ∙ e)))

module _ (d : ℕ → Float) (n : ℕ) (G : (j : ℕ) → j < n → Good binary32 (d j)) (N : n < 18446744073709551616) where
  pub runner_unique : (hint other : ℕ) (b c : Two) → Runner d n hint n b → Runner d n other n c → b ≡ c
  runner_unique hint other b c R S =
      let e : first_of b ≡ first_of c = least_unique d n (first_of b) (first_of c) (lead_least d n hint G N (first_of b) R.lead) (lead_least d n other G N (first_of c) S.lead) in
      let k : b.index ≡ c.index = ap (λ (x : Near). x.index) e in
      let f = follows k R.met S.met in
      same b c e f.0 f.1
    where
      same : (b c : Two) → first_of b ≡ first_of c → b.next ≡ c.next → b.second ≡ c.second → b ≡ c
      same b c p q r =
          ap (λ (x : Near). record { index = x.index; dist = x.dist; next = b.next; second = b.second }) p
          ∙ ap (λ (j : ℕ). record { index = c.index; dist = c.dist; next = j; second = b.second }) q
          ∙ ap (λ (y : Float). record { index = c.index; dist = c.dist; next = c.next; second = y }) r

      ranks : (x y i j : ℕ) → i < n → j < n → x * 18446744073709551616 + i ≤ y * 18446744073709551616 + j → y * 18446744073709551616 + j ≤ x * 18446744073709551616 + i → (i ≡ j) × (x ≡ y)
      ranks x y i j p q s t = (omega arith, omega arith)

      follows : b.index ≡ c.index → Alone hint n b ⊎ Other d n b → Alone other n c ⊎ Other d n c → (b.next ≡ c.next) × (b.second ≡ c.second)
      follows k (inl y) (inl z) = (y.own ∙ k ∙ sym z.own, y.none ∙ sym z.none)
      follows k (inl y) (inr o) = absurd (o.other (y.each-only c.next o.within ∙ k))
      follows k (inr o) (inl z) = absurd (o.other (z.each-only b.next o.within ∙ sym k))
      follows k (inr o) (inr u) =
          let r = ranks (key32 b.second) (key32 c.second) b.next c.next o.within u.within (next_le d n hint other b c k R S u) (next_le d n other hint c b (sym k) S R o) in
          (r.0, key_unique binary32 b.second c.second R.good S.good r.1)
