-- What a tile reads at bit p of bytes. Assumes nothing.
use mathlib.Core.Path.{◌≡◌, refl, ap, ◌∙◌}
use Prim.Native.Nat.{ℕ, ◌+◌, ◌-◌, ◌*◌, ◌≤◌, ◌<◌}
use mathlib.Core.Bool.{Bool, true, false, cond}
use mathlib.Core.List.{List}
use lib.Dec.{leb}
use lib.ListN.{length, drop}
use borrow.Author.Tests.{le-leb, lt-leb}
use Rattle.bits.specs.Bits.{bits, field_at}
use Rattle.bits.proofs.Bytes.{length-bits}
use Rattle.format.specs.Format.{Res, fault, got, next, field}
use Rattle.format.proofs.Reading.{field-short, field_found, checked-fault, checked-got}
use Rattle.sheet_format.specs.declared.Edition.{Edition}
use Rattle.sheet_format.specs.Sheet.{Colour, colours, tile}
use Rattle.sheet_format.proofs.Exact.{colours_lawful, colours-long}
use Rattle.sheet_colours.specs.Steps.{reached, stopped, step_of, step_at}

module _ (E : Edition) (s : List ℕ) (p : ℕ) where
  -- the n colours that were read hold as many components by either format
  same-counts : (n : ℕ) (l : List Bool) (x : Res (List Colour)) → (colours E n 0).parse l ≡ x → step_of (tile E).counts (bits s) x ≡ step_of (colours E n 0).counts (bits s) x
  same-counts n l (fault m i) e = refl
  same-counts n l (got v r) e =
      ap (λ (m : ℕ). reached (length (bits s) - length r) ((colours E m 0).counts v)) (colours-long E n 0 v ((colours_lawful E n 0).back l v r e).1)

  pub tile-short : 8 * length s - p < E.many → step_at (tile E) s p ≡ stopped 13 0
  tile-short h =
      ap (λ (x : Res ℕ). step_of (tile E).counts (bits s) (next x (λ n r. (colours E n 0).parse r)))
      (checked-fault 5 (λ n. leb n E.size) (field E.many) (drop p (bits s)) 13 0 (field-short E.many (bits s) p (rw length-bits h)))

  number : (n : ℕ) (b : Bool) → p + E.many ≤ 8 * length s → n ≡ field_at (bits s) p E.many → leb n E.size ≡ b
      → step_at (tile E) s p ≡ step_of (tile E).counts (bits s) (next (cond b (got n (drop (p + E.many) (bits s))) (fault 5 0)) (λ n r. (colours E n 0).parse r))
  number n b h e f =
      ap (λ (x : Res ℕ). step_of (tile E).counts (bits s) (next x (λ n r. (colours E n 0).parse r)))
      (checked-got 5 (λ n. leb n E.size) (field E.many) (drop p (bits s)) n (drop (p + E.many) (bits s)) b
      (field_found E.many (bits s) p n (rw length-bits h) e) f)

  pub tile-many : (n : ℕ) → p + E.many ≤ 8 * length s → n ≡ field_at (bits s) p E.many → E.size < n → step_at (tile E) s p ≡ stopped 5 0
  tile-many n h e l = number n false h e (lt-leb n E.size l)

  pub tile-read : (n : ℕ) → p + E.many ≤ 8 * length s → n ≡ field_at (bits s) p E.many → n ≤ E.size → step_at (tile E) s p ≡ step_at (colours E n 0) s (p + E.many)
  tile-read n h e l =
      number n true h e (le-leb n E.size l)
      ∙ same-counts n (drop (p + E.many) (bits s)) ((colours E n 0).parse (drop (p + E.many) (bits s))) refl
