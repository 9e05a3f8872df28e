-- What looking and the stop leave, from what the functions that they call ensure. Assumes nothing.
use Prim.Native.Nat.{ℕ, ◌*◌, ◌%◌, ◌^◌, ◌<◌}
use mathlib.Core.Path.{◌≡◌}
use mathlib.Core.Bool.{Bool, true, false, not}
use mathlib.Core.List.{List, []}
use native.Mathlib.Omega.{arith}
use lib.ListN.{length}
use lib.Dec.{T, ltb, ltb→lt, not_T}
use lib.Ieee.{Float, binary32, to_bits, is_nan, nan_bits}
use lib.Ieee.Bits.{nan_bits_above}
use Rattle.ieee.proofs.Bounds.{within_real}
use Rattle.palette_mse.proofs.Fine.{mse_error}
use Rattle.palette_mse.specs.Mse.{mse_of}
use Rattle.run_calls.proofs.Limits.{error-bits}
use Rattle.job.specs.Job.{Job}
use Rattle.palette_tile.specs.Tiles.{Shown, hints_of}
use Rattle.quantizer.specs.Course.{Course}
use Rattle.quantizer.specs.Sums.{zeros}
use Rattle.run_stages.specs.declared.Record.{Record}
use Rattle.run_stages.specs.State.{state_with, placed, noted}
use Rattle.run_stages.specs.Stages.{noticed, error_of, keep, enter_reducing}
use Rattle.run_keeping.specs.Keeping.{keeps, seen}

module _ (K : Course) (h : List ℕ) (p l : List Float) (r : Record) (round : ℕ) (e : Float) (ee : e ≡ mse_of K.job p K.job.S K.job.C)
    (h2 : List ℕ) (eh : h2 ≡ hints_of K.job p K.job.S K.job.C h K.job.T) (t : Bool) (kept : t ≡ keeps round e r.error) where
  pub kept_by : t ≡ true → (l2 : List Float) → l2 ≡ p → (r2 : Record) → r2 ≡ noted r (to_bits binary32 e) → state_with [] h2 p l2 r2 ≡ seen K round (state_with [] h p l r)
  unfolding seen keep noticed error_of
  kept_by y l2 el r2 er = rw (← ee, ← kept, y, eh, el, er)

  pub passed_by : t ≡ false → state_with [] h2 p l r ≡ seen K round (state_with [] h p l r)
  unfolding seen keep noticed error_of
  passed_by y = rw (← ee, ← kept, y, eh)

pub reduced_by : (K : Course) (p l : List Float) (r : Record) → length l ≡ 3 * (K.job.S * K.job.C) → (p2 l2 : List Float) → p2 ≡ l → l2 ≡ zeros (length l)
    → (r2 : Record) → r2 ≡ noted r 0 → (r3 : Record) → r3 ≡ placed r2 3 0 0 → state_with [] [] p2 l2 r3 ≡ enter_reducing K (state_with [] [] p l r)
unfolding enter_reducing
reduced_by K p l r e p2 l2 ep el r2 er r3 es = rw (es, er, ep, el, e)

-- ---- the test

-- ---- an error is a number, and so is what bits below infinity's give
pub error-real : (J : Job) (pal : List Float) (n have : ℕ) → Shown J pal n have → (e : Float) → e ≡ mse_of J pal n have → T (not (is_nan e))
error-real J pal n have S e h = rw h (within_real (mse_of J pal n have) 1188 1 (mse_error J pal n have S).size)

pub error-low : (J : Job) (pal : List Float) (n have : ℕ) → Shown J pal n have → (e : Float) → e ≡ mse_of J pal n have → to_bits binary32 e < 0x7f800000
error-low J pal n have S e h = rw h (error-bits (mse_of J pal n have) (mse_error J pal n have S))

pub bits-real : (x : ℕ) → x < 0x7f800000 → T (not (nan_bits binary32 x))
bits-real x h = rw (nan_bits_above binary32 x) (not_T (ltb 0x7f80_0000 (x % 2 ^ 31)) (λ t. omega (arith, ltb→lt 0x7f80_0000 (x % 2 ^ 31) t)))
