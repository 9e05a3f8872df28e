-- What is read after a place or a run of places of a flat list is written: the new where it was written, the old elsewhere. Over any type of items. Assumes nothing.
use Prim.Native.Nat.{ℕ, zero, suc, ◌+◌, ◌-◌, ◌≤◌, ◌<◌}
use mathlib.Core.Path.{◌≡◌, refl, sym, ap, subst, ◌∙◌}
use mathlib.Core.Logic.{◌≢◌, ◌⊎◌, inl, inr}
use mathlib.Core.List.{List, [], ◌∷◌, ◌++◌}
use native.Mathlib.Nat.{eq-or-lt_of_le}
use native.Mathlib.Omega.{arith}
use mathlib.Core.Bool.{Bool, true, false, not}
use lib.Arith.{lt_of_le-ne}
use lib.Dec.{T, ltb, ltb→lt, nltb→le}
use lib.ListN.{get_or, length, set, take, drop, length-set, get_or-append}
use lib.Seq.{paste, sets, get_or-set_same, get_or-set_other, get_or-take, get_or-drop, get_or-append-add, length-paste, length_paste_head, length-take-le}

-- ---- two numbers
pub lt_or_ge : (a b : ℕ) → (a < b) ⊎ (b ≤ a)
lt_or_ge a b = by (ltb a b) (ltb→lt a b) (nltb→le a b)
  where
    by : (t : Bool) → (T t → a < b) → (T (not t) → b ≤ a) → (a < b) ⊎ (b ≤ a)
    by true p q = inl (p tt)
    by false p q = inr (q tt)

pub lt_or_gt : {a b : ℕ} → a ≢ b → (a < b) ⊎ (b < a)
lt_or_gt {a} {b} n = elim (lt_or_ge a b) [ inl l ↦ inl l | inr g ↦ inr (lt_of_le-ne g (λ e. n (sym e))) ]

pub lt→ne : {a b : ℕ} → a < b → a ≢ b
lt→ne l e = omega arith

pub gt→ne : {a b : ℕ} → b < a → a ≢ b
gt→ne l e = omega arith

module _ {A : Type 0} (z : A) where
  -- ---- n items of s written from place `at` on
  module _ (d : List A) (at : ℕ) (s : List A) (n : ℕ) (D : at + n ≤ length d) (S : n ≤ length s) where
    head_length : length (take at d) ≡ at
    head_length = length-take-le at d (omega arith)

    both-length : length (take at d ++ take n s) ≡ at + n
    both-length = length_paste_head d at s n (omega arith) S

    pub paste-before : (i : ℕ) → i < at → get_or (paste d at s n) i z ≡ get_or d i z
    paste-before i l =
        get_or-append (take at d ++ take n s) (drop (at + n) d) z i (omega (arith, both-length))
        ∙ get_or-append (take at d) (take n s) z i (omega (arith, head_length))
        ∙ get_or-take at d i z l

    pub paste_in : (i : ℕ) → i < n → get_or (paste d at s n) (at + i) z ≡ get_or s i z
    paste_in i l =
        get_or-append (take at d ++ take n s) (drop (at + n) d) z (at + i) (omega (arith, both-length))
        ∙ ap (λ (k : ℕ). get_or (take at d ++ take n s) (k + i) z) (sym head_length)
        ∙ get_or-append-add (take at d) (take n s) i z
        ∙ get_or-take n s i z l

    pub paste-after : (i : ℕ) → at + n ≤ i → get_or (paste d at s n) i z ≡ get_or d i z
    paste-after i l =
        ap (λ (k : ℕ). get_or (paste d at s n) k z) (rest i l ∙ ap (λ (k : ℕ). k + (i - (at + n))) (sym both-length))
        ∙ get_or-append-add (take at d ++ take n s) (drop (at + n) d) (i - (at + n)) z
        ∙ get_or-drop (at + n) d (i - (at + n)) z
        ∙ ap (λ (k : ℕ). get_or d k z) (sym (rest i l))
      where
        rest : (i : ℕ) → at + n ≤ i → i ≡ at + n + (i - (at + n))
        rest i l = omega arith

  -- ---- items stored one after the other, as straight-line code does
  pub sets-before : (vs l : List A) (at i : ℕ) → i < at → get_or (sets l at vs) i z ≡ get_or l i z
  sets-before [] l at i h = refl
  sets-before (v ∷ vs) l at i h = sets-before vs (set l at v) (suc at) i (omega arith) ∙ get_or-set_other l at i v z (lt→ne h)

  pub sets-after : (vs l : List A) (at i : ℕ) → at + length vs ≤ i → get_or (sets l at vs) i z ≡ get_or l i z
  sets-after [] l at i h = refl
  sets-after (v ∷ vs) l at i h = sets-after vs (set l at v) (suc at) i (omega arith) ∙ get_or-set_other l at i v z (gt→ne (omega arith))

  pub sets_in : (vs l : List A) (at i : ℕ) → at + length vs ≤ length l → i < length vs → get_or (sets l at vs) (at + i) z ≡ get_or vs i z
  sets_in [] l at i h k = absurd (none i k)
    where
      none : (i : ℕ) → i < 0 → ⊥
      none i k = omega arith
  sets_in (v ∷ vs) l at zero h k =
      ap (λ (j : ℕ). get_or (sets (set l at v) (suc at) vs) j z) (plus-zero at) ∙ sets-before vs (set l at v) (suc at) at (omega arith) ∙ get_or-set_same l at v z (omega arith)
    where
      plus-zero : (a : ℕ) → a + 0 ≡ a
      plus-zero a = omega arith
  sets_in (v ∷ vs) l at (suc i) h k =
      ap (λ (j : ℕ). get_or (sets (set l at v) (suc at) vs) j z) (plus_suc at i)
      ∙ sets_in vs (set l at v) (suc at) i (omega (arith, length-set l at v)) (omega arith)
    where
      plus_suc : (a b : ℕ) → a + suc b ≡ suc a + b
      plus_suc a b = omega arith

  -- ---- what holds of every item
  pub all_set : (P : A → Type 0) (l : List A) (i : ℕ) (a : A) → P a → ((j : ℕ) → j < length l → P (get_or l j z)) → (j : ℕ) → j < length (set l i a) → P (get_or (set l i a) j z)
  all_set P l i a p h j k =
      let m : j < length l = omega (arith, length-set l i a) in
      elim (lt_or_ge j i) [
        | inl g ↦ subst P (sym (get_or-set_other l i j a z (lt→ne g))) (h j m)
        | inr g ↦
            elim (eq-or-lt_of_le g) [
              | inl e ↦ subst (λ (k : ℕ). P (get_or (set l i a) k z)) e (subst P (sym (get_or-set_same l i a z (omega arith))) p)
              | inr k ↦ subst P (sym (get_or-set_other l i j a z (gt→ne k))) (h j m)
            ]
      ]

  pub all-sets : (P : A → Type 0) (vs l : List A) (at : ℕ) → ((j : ℕ) → j < length vs → P (get_or vs j z)) → ((j : ℕ) → j < length l → P (get_or l j z))
      → (j : ℕ) → j < length (sets l at vs) → P (get_or (sets l at vs) j z)
  all-sets P [] l at p h = h
  all-sets P (v ∷ vs) l at p h = all-sets P vs (set l at v) (suc at) (λ j k. p (suc j) (omega arith)) (all_set P l at v (p 0 (omega arith)) h)

  pub all-paste : (P : A → Type 0) (d : List A) (at : ℕ) (s : List A) (n : ℕ) → at + n ≤ length d → n ≤ length s
      → ((j : ℕ) → j < length d → P (get_or d j z)) → ((j : ℕ) → j < n → P (get_or s j z)) → (j : ℕ) → j < length (paste d at s n) → P (get_or (paste d at s n) j z)
  all-paste P d at s n D S p q j k =
      let m : j < length d = omega (arith, length-paste d at s n D S) in
      elim (lt_or_ge j at) [
        | inl g ↦ subst P (sym (paste-before d at s n D S j g)) (p j m)
        | inr g ↦
            elim (lt_or_ge j (at + n)) [
              | inl l ↦ subst (λ (k : ℕ). P (get_or (paste d at s n) k z)) (from at j g) (subst P (sym (paste_in d at s n D S (j - at) (omega arith))) (q (j - at) (omega arith)))
              | inr l ↦ subst P (sym (paste-after d at s n D S j l)) (p j m)
            ]
      ]
    where
      from : (a b : ℕ) → a ≤ b → a + (b - a) ≡ b
      from a b h = omega arith
