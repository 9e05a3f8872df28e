-- The sheet's reader and writer are exact inverses on what they accept, in every edition whose number fits its field. Assumes nothing.
use mathlib.Core.Path.{◌≡◌, refl, ap}
use Prim.Native.Nat.{ℕ, zero, suc, ◌+◌, ◌*◌}
use mathlib.Core.Bool.{true}
use mathlib.Core.List.{List, [], ◌∷◌}
use lib.Dec.{T, leb}
use lib.Pow.{are_bytes}
use lib.ListN.{length}
use Rattle.format.specs.Format.{field, checked, above, both, times, accepted, read_of, encode}
use Rattle.format.proofs.Tests.{and_r}
use Rattle.format.proofs.Lawful.{Lawful, field_lawful, checked_lawful, indexed_lawful, mapped_lawful, above_lawful, both_lawful, literal_lawful, none_lawful, cons_lawful, times_lawful, counted_lawful}
use Rattle.format.proofs.Files.{decode_encode, encode_decode}
use Rattle.format_pattern.specs.Pattern.{small, weighs}
use Rattle.sheet_format.specs.declared.Edition.{Edition}
use Rattle.sheet_format.specs.Sheet.{opening, fault_of, component, Colour, Sheet, whole, parts, entry, colours, tile, header, rest, sheet}

pub component_lawful : Lawful component
component_lawful = indexed_lawful (checked 7 small (field 32)) (checked_lawful 7 small (field 32) (field_lawful 32))

module _ (E : Edition) where
  pub entry_lawful : (sum : ℕ) → Lawful (entry E sum)
  entry_lawful sum =
      both_lawful (checked 6 (λ c. leb (sum + c) E.size) (above E.each)) (λ c. times 3 component)
      (checked_lawful 6 (λ c. leb (sum + c) E.size) (above E.each) (above_lawful E.each))
      (λ c. times_lawful 3 component component_lawful)

  pub colours_lawful : (n sum : ℕ) → Lawful (colours E n sum)
  colours_lawful zero sum = none_lawful
  colours_lawful (suc n) sum = cons_lawful (entry E sum) (λ x. colours E n (sum + x.0)) (entry_lawful sum) (λ x. colours_lawful n (sum + x.0))

  pub colours-long : (n sum : ℕ) (s : List Colour) → T ((colours E n sum).good s) → length s ≡ n
  colours-long zero sum [] h = refl
  colours-long zero sum (x ∷ s) h = absurd h
  colours-long (suc n) sum [] h = absurd h
  colours-long (suc n) sum (x ∷ s) h =
      ap suc (colours-long n (sum + x.0) s (and_r ((entry E sum).good x) ((colours E n (sum + x.0)).good s) h))

  pub tile_lawful : Lawful (tile E)
  tile_lawful =
      counted_lawful (checked 5 (λ n. leb n E.size) (field E.many)) (λ n. colours E n 0)
      (checked_lawful 5 (λ n. leb n E.size) (field E.many) (field_lawful E.many))
      (λ n. colours_lawful n 0)
      (λ n s h. colours-long n 0 s h)

  pub header_lawful : Lawful (header E)
  header_lawful =
      literal_lawful 32 opening 12 _ (literal_lawful 4 E.number 12 _
      (both_lawful _ _ (above_lawful 4) λ s. both_lawful _ _ (above_lawful 4) λ c. both_lawful _ _ (above_lawful 10) λ t.
      checked_lawful 4 weighs (field 32) (field_lawful 32)))

  pub rest_lawful : (n t : ℕ) → Lawful (rest E n t)
  rest_lawful n t = both_lawful (times n component) (λ p. times t (tile E)) (times_lawful n component component_lawful) (λ p. times_lawful t (tile E) tile_lawful)

  pub sheet_lawful : Lawful (sheet E)
  sheet_lawful =
      mapped_lawful whole parts (λ x. true) (both (header E) λ h. rest E (3 * (h.0 * h.1.0)) h.1.1.0)
      (both_lawful (header E) (λ h. rest E (3 * (h.0 * h.1.0)) h.1.1.0) header_lawful (λ h. rest_lawful (3 * (h.0 * h.1.0)) h.1.1.0))
      (λ b h. refl) (λ a h. refl) (λ a h. tt)

  -- a sheet that can be written is read back
  pub sheet-there : (x : Sheet) → T ((sheet E).good x) → read_of fault_of (sheet E) (encode (sheet E) x) ≡ accepted x
  sheet-there = decode_encode fault_of (sheet E) sheet_lawful

  -- bytes that are accepted are those that would be written
  pub sheet_back : (b : List ℕ) (x : Sheet) → T (are_bytes b) → read_of fault_of (sheet E) b ≡ accepted x → (encode (sheet E) x ≡ b) × T ((sheet E).good x)
  sheet_back = encode_decode fault_of (sheet E) sheet_lawful
