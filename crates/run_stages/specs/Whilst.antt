-- A loop with a test and a bound. Definitions only. Assumes nothing.
use Rattle.std.specs.Prelude.{ℕ, zero, suc, Bool, cond}

-- `while t x { x = f x }`, at most n times; and how often that is. (The `let`s wait, so that nothing is computed past the loop's end.)
unfoldable pub whilst {ℓ} : {A : Type ℓ} → (A → Bool) → (A → A) → ℕ → A → A
whilst t f zero x = x
whilst t f (suc n) x = let y = whilst t f n (f x) in cond (t x) y x

unfoldable pub times {ℓ} : {A : Type ℓ} → (A → Bool) → (A → A) → ℕ → A → ℕ
times t f zero x = 0
times t f (suc n) x = let y = suc (times t f n (f x)) in cond (t x) y 0
