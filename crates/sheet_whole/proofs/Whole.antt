-- A job's sheet, written part after part, with its spare bits. Assumes nothing.
use mathlib.Core.Path.{◌≡◌, refl, sym, ap, ap₂, ◌∙◌}
use Prim.Native.Nat.{ℕ, zero, suc, ◌+◌, ◌-◌, ◌*◌, ◌%◌, ◌^◌, ◌≤◌}
use native.Mathlib.Omega.{arith}
use native.Mathlib.Nat.{zero-div}
use mathlib.Core.Bool.{Bool, false}
use mathlib.Core.List.{List, ◌∷◌, ◌++◌, append_assoc}
use lib.Dec.{eqb}
use lib.ListN.{length, replicate}
use lib.Seq.{sets, length-sets}
use lib.Ieee.{Float, binary32, to_bits}
use Rattle.bits.specs.Bits.{bits_of, written}
use Rattle.bits.proofs.Fields.{written-sets}
use Rattle.format.specs.Format.{bytes_for}
use Rattle.job.specs.Job.{Job}
use Rattle.job.specs.Gives.{Ready, Lent}
use Rattle.sheet_format.specs.declared.Edition.{Edition}
use Rattle.sheet_format.specs.Sheet.{size_of, tiles_size}
use Rattle.sheet_format.specs.Lists.{patterns}
use Rattle.sheet_pack.specs.Packed.{tiles_from, sheet_of, words, tiles_bits, head_bits, sheet_bits}
use Rattle.sheet_pack.proofs.Prints.{content-size, palette-size, head_long}
use Rattle.sheet_pack.proofs.Writes.{run_put}

zeros : (n : ℕ) → bits_of n 0 ≡ replicate n false
zeros zero = refl
zeros (suc n) = ap₂ {C = List Bool} (λ a b. a ∷ b) (ap (λ (m : ℕ). eqb (m % 2) 1) (zero-div (2 ^ n))) (zeros n)

module _ (E : Edition) (J : Job) (R : Ready J) (palette : List Float) (L : Lent J.S J.C palette) where
  -- the fields one after another
  pub sheet-done : (l l₁ l₂ l₃ l₄ : List Bool) (n k : ℕ) → n ≡ size_of E J.S J.C J.T (length J.counts) → 8 * bytes_for n ≤ length l → k ≡ 8 * bytes_for n - n
      → l₁ ≡ sets l 0 (head_bits E J.S J.C J.T (to_bits binary32 J.weight))
      → l₂ ≡ sets l₁ 86 (words (patterns palette))
      → l₃ ≡ sets l₂ (86 + 32 * length palette) (tiles_bits E (tiles_from J.tiles J.colours J.counts 0 J.T))
      → l₄ ≡ written l₃ n k 0
      → l₄ ≡ sets l 0 (sheet_bits E (sheet_of J palette) ++ replicate (8 * bytes_for n - n) false)
  sheet-done l l₁ l₂ l₃ l₄ n k es room ek e₁ e₂ e₃ e₄ =
      let x : List Bool = head_bits E J.S J.C J.T (to_bits binary32 J.weight) in
      let y : List Bool = words (patterns palette) in
      let z : List Bool = tiles_bits E (tiles_from J.tiles J.colours J.counts 0 J.T) in
      let spare : ℕ = 8 * bytes_for n - n in
      let r : List Bool = replicate spare false in
      let g : List Bool = sets l 0 ((x ++ (y ++ z)) ++ r) in
      let w : length y ≡ 32 * length palette = palette-size J R palette L ∙ omega (arith, L.room) in
      let long : length l₃ ≡ length l = ap length e₃ ∙ length-sets l₂ (86 + 32 * length palette) z ∙ ap length e₂ ∙ length-sets l₁ 86 y ∙ ap length e₁ ∙ length-sets l 0 x in
      let end : 86 + 32 * length palette + (tiles_size E J.T (length J.counts)) ≡ n = omega (arith, L.room) in
      let a = run_put l l₁ 0 86 x (y ++ (z ++ r)) g (head_long J R palette L E) e₁
      (ap (sets l 0) (sym (append_assoc x (y ++ z) r ∙ ap (λ (v : List Bool). x ++ v) (append_assoc y z r)))) in
      let b = run_put l₁ l₂ 86 (32 * length palette) y (z ++ r) g w e₂ a in
      let d = run_put l₂ l₃ (86 + 32 * length palette) (tiles_size E J.T (length J.counts)) z r g (content-size J R E) e₃ b in
      e₄ ∙ ap (λ (i : ℕ). written l₃ n i 0) ek
      ∙ written-sets l₃ n spare 0 (omega arith)
      ∙ ap₂ (λ (v : List Bool) (i : ℕ). sets l₃ i v) (zeros spare) (sym end)
      ∙ d
