-- One component more is cut. Assumes nothing.
use Prim.Native.Nat.{ℕ, ◌+◌, ◌≤◌, ◌<◌}
use mathlib.Core.Path.{◌≡◌, sym, ap, ap₂, ◌∙◌}
use mathlib.Core.List.{List, map}
use native.Mathlib.Omega.{arith}
use native.Mathlib.Nat.{zero-add}
use native.Mathlib.Numerals.{add-one}
use lib.Ieee.{Float, nan}
use lib.ListN.{length, get_or, set, take, length-map, get_or-map}
use lib.Seq.{paste, paste-zero, paste-suc, take-paste, take_all}
use Rattle.train_run.specs.Training.{cut_one, cut}

-- the first i of `to` are cut ones
abbrev pub Cut : List Float → List Float → ℕ → List Float → Type 0
Cut from to i now = now ≡ paste to 0 (map cut_one from) i

module _ (from to : List Float) where
  pub none-cut : Cut from to 0 to
  none-cut = paste-zero to 0 (map cut_one from)

  pub cut-more : (i : ℕ) (now : List Float) (x : Float) → length from ≤ length to → i < length from → Cut from to i now → x ≡ cut_one (get_or from i nan) → Cut from to (i + 1) (set now i x)
  cut-more i now x roomy l h e =
      ap (λ (v : Float). set now i v) (e ∙ sym (get_or-map cut_one from i nan))
      ∙ ap (λ (z : List Float). set z i (get_or (map cut_one from) i (cut_one nan))) h
      ∙ ap (λ (k : ℕ). set (paste to 0 (map cut_one from) i) k (get_or (map cut_one from) i (cut_one nan))) (sym (zero-add i))
      ∙ paste-suc to 0 (map cut_one from) i (cut_one nan) (omega arith) (omega (arith, length-map from cut_one))
      ∙ ap (paste to 0 (map cut_one from)) (sym (add-one i))

  pub all-cut : (i : ℕ) (now : List Float) → i ≤ length from → length from ≤ i → Cut from to i now → take (length from) now ≡ cut from
  unfolding cut
  all-cut i now l g h =
      let whole : length from ≡ i = omega arith in
      ap₂ (λ (k : ℕ) (z : List Float). take k z) (whole ∙ sym (zero-add i)) h
      ∙ take-paste to 0 (map cut_one from) i (omega arith) (omega (arith, length-map from cut_one))
      ∙ take_all i (map cut_one from) (omega (arith, length-map from cut_one))
