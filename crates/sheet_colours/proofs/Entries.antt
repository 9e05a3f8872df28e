-- What a component, a tile's next colour and a tile's number of colours read at bit q of bytes. Assumes nothing.
use mathlib.Core.Path.{◌≡◌, refl}
use Prim.Native.Nat.{ℕ, ◌+◌, ◌-◌, ◌*◌, ◌≤◌, ◌<◌}
use mathlib.Core.Bool.{Bool, true, false, cond}
use mathlib.Core.List.{List}
use lib.Dec.{leb}
use lib.ListN.{length, drop}
use borrow.Author.Tests.{le-leb, lt-leb}
use Rattle.bits.specs.Bits.{bits, field_at}
use Rattle.bits.proofs.Bytes.{length-bits}
use Rattle.format.specs.Format.{Res, fault, got, next, field, checked, above, times}
use Rattle.format.proofs.Reading.{field-short, field_found, above-short, above-found, checked-fault, checked-got, both-fault, both-plain}
use Rattle.format_pattern.specs.Pattern.{small}
use Rattle.sheet_format.specs.declared.Edition.{Edition}
use Rattle.sheet_format.specs.Sheet.{component, entry}

module _ (s : List ℕ) (q : ℕ) where
  pub component-short : 8 * length s - q < 32 → component.parse (drop q (bits s)) ≡ fault 13 0
  component-short h = checked-fault 7 small (field 32) (drop q (bits s)) 13 0 (field-short 32 (bits s) q (rw length-bits h))

  pub component-read : (v : ℕ) (b : Bool) → q + 32 ≤ 8 * length s → v ≡ field_at (bits s) q 32 → small v ≡ b
      → component.parse (drop q (bits s)) ≡ cond b (got v (drop (q + 32) (bits s))) (fault 7 0)
  component-read v b h e f =
      checked-got 7 small (field 32) (drop q (bits s)) v (drop (q + 32) (bits s)) b (field_found 32 (bits s) q v (rw length-bits h) e) f

-- a tile's next colour, at the sum of the counts so far
module _ (E : Edition) (s : List ℕ) (q sum : ℕ) where
  pub entry-short : 8 * length s - q < E.each → (entry E sum).parse (drop q (bits s)) ≡ fault 13 0
  entry-short h =
      both-fault (checked 6 (λ c. leb (sum + c) E.size) (above E.each)) (λ c. times 3 component) (drop q (bits s)) 13 0
      (checked-fault 6 (λ c. leb (sum + c) E.size) (above E.each) (drop q (bits s)) 13 0 (above-short E.each (bits s) q (rw length-bits h)))

  count-read : (v : ℕ) (b : Bool) → q + E.each ≤ 8 * length s → v ≡ field_at (bits s) q E.each → leb (sum + (v + 1)) E.size ≡ b
      → (checked 6 (λ c. leb (sum + c) E.size) (above E.each)).parse (drop q (bits s)) ≡ cond b (got (v + 1) (drop (q + E.each) (bits s))) (fault 6 0)
  count-read v b h e f =
      checked-got 6 (λ c. leb (sum + c) E.size) (above E.each) (drop q (bits s)) (v + 1) (drop (q + E.each) (bits s)) b
      (above-found E.each (bits s) q v (rw length-bits h) e) f

  pub entry_big : (v : ℕ) → q + E.each ≤ 8 * length s → v ≡ field_at (bits s) q E.each → E.size < sum + (v + 1) → (entry E sum).parse (drop q (bits s)) ≡ fault 6 0
  entry_big v h e l =
      both-fault (checked 6 (λ c. leb (sum + c) E.size) (above E.each)) (λ c. times 3 component) (drop q (bits s)) 6 0
      (count-read v false h e (lt-leb (sum + (v + 1)) E.size l))

  pub entry_read : (v : ℕ) (y : Res (List ℕ)) → q + E.each ≤ 8 * length s → v ≡ field_at (bits s) q E.each → sum + (v + 1) ≤ E.size
      → (times 3 component).parse (drop (q + E.each) (bits s)) ≡ y → (entry E sum).parse (drop q (bits s)) ≡ next y (λ b r. got (v + 1, b) r)
  entry_read v y h e l f =
      both-plain (checked 6 (λ c. leb (sum + c) E.size) (above E.each)) (λ c. times 3 component) (drop q (bits s)) (v + 1) (drop (q + E.each) (bits s)) y
      refl (count-read v true h e (le-leb (sum + (v + 1)) E.size l)) f
