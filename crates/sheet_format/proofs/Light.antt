-- Each part of a sheet behind its head counts no more components than it takes bits. Assumes nothing.
use Prim.Native.Nat.{ℕ, zero, suc, ◌+◌}
use native.Mathlib.Omega.{arith}
use lib.Dec.{leb}
use Rattle.bits.proofs.Numbers.{length-bits_of}
use Rattle.format.specs.Format.{field, checked, above, times}
use Rattle.format.proofs.Lawful.{field_lawful, checked_lawful}
use Rattle.format.proofs.Light.{Light, field_light, checked_light, above_light, indexed_light, both_light, none_light, cons_light, times_light, counted_light}
use Rattle.format_pattern.specs.Pattern.{small}
use Rattle.sheet_format.specs.declared.Edition.{Edition}
use Rattle.sheet_format.specs.Sheet.{component, Colour, entry, colours, tile, rest}
use Rattle.sheet_format.proofs.Exact.{colours_lawful, colours-long}

pub component_light : Light component
component_light =
    indexed_light (checked 7 small (field 32)) (checked_lawful 7 small (field 32) (field_lawful 32)) (λ a. omega (arith, length-bits_of 32 a))
    (checked_light 7 small (field 32) (field_light 32))

module _ (E : Edition) where
  pub entry_light : (sum : ℕ) → Light (entry E sum)
  entry_light sum =
      both_light (checked 6 (λ c. leb (sum + c) E.size) (above E.each)) (λ c. times 3 component)
      (checked_light 6 (λ c. leb (sum + c) E.size) (above E.each) (above_light E.each))
      (λ c. times_light 3 component component_light)

  pub colours_light : (n sum : ℕ) → Light (colours E n sum)
  colours_light zero sum = none_light Colour
  colours_light (suc n) sum = cons_light (entry E sum) (λ x. colours E n (sum + x.0)) (entry_light sum) (λ x. colours_light n (sum + x.0))

  pub tile_light : Light (tile E)
  tile_light =
      counted_light (checked 5 (λ n. leb n E.size) (field E.many)) (λ n. colours E n 0)
      (checked_light 5 (λ n. leb n E.size) (field E.many) (field_light E.many))
      (λ n. colours_light n 0)
      (λ n. colours_lawful E n 0)
      (λ n s h. colours-long E n 0 s h)

  pub rest_light : (n t : ℕ) → Light (rest E n t)
  rest_light n t = both_light (times n component) (λ p. times t (tile E)) (times_light n component component_light) (λ p. times_light t (tile E) tile_light)
