-- Two stores, the second behind the first, are one. Assumes nothing.
use mathlib.Core.Path.{sym, ap₂, ◌∙◌}
use Prim.Native.Nat.{ℕ}
use native.Mathlib.Omega.{arith}
use mathlib.Core.List.{List, ◌++◌}
use lib.ListN.{length-append}
use lib.Seq.{sets}
use Rattle.bits.proofs.Fields.{sets_append}
use Rattle.fit_lines.specs.Lines.{Stored}

pub both_stored : {l m n : List ℕ} {at p q : ℕ} {x y : List ℕ} → Stored l m at p x → Stored m n p q y → Stored l n at q (x ++ y)
both_stored {l} {m} {n} {at} {p} {q} {x} {y} a b = record {
  text = b.text ∙ ap₂ (λ (u : List ℕ) (j : ℕ). sets u j y) a.text a.place ∙ sym (sets_append x y l at);
  place = omega (arith, a.place, b.place, length-append x y);
}
