-- What the answer of `&&` or `||` says of its two sides, in the form in which a branch knows it, `t ≡ true` or `t ≡ false`. Assumes nothing.
use mathlib.Core.Path.{◌≡◌, refl, sym}
use mathlib.Core.Bool.{Bool, true, false, ◌&&◌, ◌||◌, true≢false}

-- ---- both
pub and_l : (s t : Bool) → s && t ≡ true → s ≡ true
and_l true t h = refl
and_l false t h = h

pub and_r : (s t : Bool) → s && t ≡ true → t ≡ true
and_r true t h = h
and_r false t h = absurd (true≢false (sym h))

pub and_i : (s t : Bool) → s ≡ true → t ≡ true → s && t ≡ true
and_i s t h k = rw (h, k)

pub and_no_l : (s t : Bool) → s ≡ false → s && t ≡ false
and_no_l s t h = rw h

pub and_no_r : (s t : Bool) → t ≡ false → s && t ≡ false
and_no_r true t h = h
and_no_r false t h = refl

pub and_case : (s t : Bool) {P : Type 0} → s && t ≡ false → (s ≡ false → P) → (t ≡ false → P) → P
and_case true t h l r = r h
and_case false t h l r = l refl

-- ---- either
pub or_l : (s t : Bool) → s ≡ true → s || t ≡ true
or_l s t h = rw h

pub or_r : (s t : Bool) → t ≡ true → s || t ≡ true
or_r true t h = refl
or_r false t h = h

pub or_case : (s t : Bool) {P : Type 0} → s || t ≡ true → (s ≡ true → P) → (t ≡ true → P) → P
or_case true t h l r = l refl
or_case false t h l r = r h

pub or_none : (s t : Bool) → s || t ≡ false → (s ≡ false) × (t ≡ false)
or_none true t h = absurd (true≢false h)
or_none false t h = (refl, h)

pub or_no : (s t : Bool) → s ≡ false → t ≡ false → s || t ≡ false
or_no s t h k = rw (h, k)
