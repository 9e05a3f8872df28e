-- A list that holds one value everywhere; hints that are all 0: the first t of them are t zeros. Assumes nothing.
use Prim.Native.Nat.{ℕ, zero, suc, ◌≤◌}
use mathlib.Core.Path.{◌≡◌, refl, sym, ◌∙◌}
use native.Mathlib.Omega.{arith}
use mathlib.Core.List.{List}
use lib.ListN.{length, get_or, take, replicate, length-replicate}
use lib.Seq.{length-take-le, get_or-take, ext_get_or}

pub blank_at : {A : Type 0} (b : A) (n k : ℕ) → get_or (replicate n b) k b ≡ b
blank_at b zero k = refl
blank_at b (suc n) zero = refl
blank_at b (suc n) (suc k) = blank_at b n k

pub no_hint : (hints : List ℕ) (t : ℕ) → t ≤ length hints → ((k : ℕ) → get_or hints k 0 ≡ 0) → take t hints ≡ replicate t 0
no_hint hints t l z =
    ext_get_or 0 (take t hints) (replicate t 0) (length-take-le t hints l ∙ sym (length-replicate t 0))
    (λ i h. get_or-take t hints i 0 (omega (arith, length-take-le t hints l)) ∙ z i ∙ sym (blank_at 0 t i))
