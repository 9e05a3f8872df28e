-- What the head of a sheet reads: opening, edition, sizes, weight. Assumes nothing.
use mathlib.Core.Path.{◌≡◌, refl, ◌∙◌}
use Prim.Native.Nat.{ℕ, ◌+◌, ◌*◌, ◌≤◌, ◌<◌}
use native.Mathlib.Omega.{arith}
use native.Mathlib.Decide.{dec_le}
use mathlib.Core.Bool.{Bool, true, false, cond}
use mathlib.Core.List.{List}
use lib.ListN.{length, drop}
use Rattle.bits.specs.Bits.{bits, field_at}
use Rattle.bits.proofs.Bytes.{length-bits}
use Rattle.format.specs.Format.{Res, fault, got, next, field, above}
use Rattle.format.proofs.Reading.{field-short, field_found, above-short, above-found, checked-fault, checked-got, both-fault, both-plain, literal-short, literal-same, literal-other}
use Rattle.format_pattern.specs.Pattern.{weighs}
use Rattle.sheet_format.specs.declared.Edition.{Edition}
use Rattle.sheet_format.specs.Sheet.{opening, weight, tiled, coloured, sized, dated, header}

module _ (l : List Bool) where
  -- cut short anywhere before its end
  sized-short : 36 ≤ length l → length l < 86 → sized.parse (drop 36 l) ≡ fault 13 0
  sized-short from h = first (dec_le 40 (length l))
    where
      third : Dec (54 ≤ length l) → tiled.parse (drop 44 l) ≡ fault 13 0
      third (yes m) =
          both-plain (above 10) (λ t. weight) (drop 44 l) (field_at l 44 10 + 1) (drop 54 l) (fault 13 0) refl
          (above-found 10 l 44 (field_at l 44 10) m refl)
          (checked-fault 4 weighs (field 32) (drop 54 l) 13 0 (field-short 32 l 54 (omega arith)))
      third (no m) = both-fault (above 10) (λ t. weight) (drop 44 l) 13 0 (above-short 10 l 44 (omega arith))

      second : Dec (44 ≤ length l) → coloured.parse (drop 40 l) ≡ fault 13 0
      second (yes m) =
          both-plain (above 4) (λ c. tiled) (drop 40 l) (field_at l 40 4 + 1) (drop 44 l) (fault 13 0) refl
          (above-found 4 l 40 (field_at l 40 4) m refl) (third (dec_le 54 (length l)))
      second (no m) = both-fault (above 4) (λ c. tiled) (drop 40 l) 13 0 (above-short 4 l 40 (omega arith))

      first : Dec (40 ≤ length l) → sized.parse (drop 36 l) ≡ fault 13 0
      first (yes m) =
          both-plain (above 4) (λ s. coloured) (drop 36 l) (field_at l 36 4 + 1) (drop 40 l) (fault 13 0) refl
          (above-found 4 l 36 (field_at l 36 4) m refl) (second (dec_le 44 (length l)))
      first (no m) = both-fault (above 4) (λ s. coloured) (drop 36 l) 13 0 (above-short 4 l 36 (omega arith))

  -- all there
  sized-read : 86 ≤ length l → (a b t : ℕ) → a ≡ field_at l 36 4 → b ≡ field_at l 40 4 → t ≡ field_at l 44 10 → (y : Res ℕ) → weight.parse (drop 54 l) ≡ y
      → sized.parse (drop 36 l) ≡ next (next (next y (λ w r. got (t + 1, w) r)) (λ x r. got (b + 1, x) r)) (λ x r. got (a + 1, x) r)
  sized-read h a b t ea eb et y e =
      both-plain (above 4) (λ s. coloured) (drop 36 l) (a + 1) (drop 40 l) _ refl (above-found 4 l 36 a (omega arith) ea)
      (both-plain (above 4) (λ c. tiled) (drop 40 l) (b + 1) (drop 44 l) _ refl (above-found 4 l 40 b (omega arith) eb)
      (both-plain (above 10) (λ t. weight) (drop 44 l) (t + 1) (drop 54 l) y refl (above-found 10 l 44 t (omega arith) et) e))

  weight-read : 86 ≤ length l → (w : ℕ) (o : Bool) → w ≡ field_at l 54 32 → weighs w ≡ o → weight.parse (drop 54 l) ≡ cond o (got w (drop 86 l)) (fault 4 0)
  weight-read h w o e f = checked-got 4 weighs (field 32) (drop 54 l) w (drop 86 l) o (field_found 32 l 54 w h e) f

module _ (E : Edition) (s : List ℕ) where
  pub opening-short : 8 * length s < 32 → (header E).parse (bits s) ≡ fault 13 0
  opening-short h = literal-short 32 opening 12 (dated E) (bits s) 0 (rw length-bits (omega arith))

  pub opening_wrong : (w : ℕ) → 32 ≤ 8 * length s → w ≡ field_at (bits s) 0 32 → (w ≡ opening → ⊥) → (header E).parse (bits s) ≡ fault 12 0
  opening_wrong w h e f = literal-other 32 opening 12 (dated E) (bits s) 0 w (rw length-bits h) e f

  module _ (o : ℕ) (opened : o ≡ field_at (bits s) 0 32) (right : o ≡ opening) where
    inside : 32 ≤ 8 * length s → (header E).parse (bits s) ≡ (dated E).parse (drop 32 (bits s))
    inside h = literal-same 32 opening 12 (dated E) (bits s) 0 o (rw length-bits h) opened right

    pub edition-short : 32 ≤ 8 * length s → 8 * length s < 36 → (header E).parse (bits s) ≡ fault 13 0
    edition-short g h = inside g ∙ literal-short 4 E.number 12 sized (bits s) 32 (rw length-bits (omega arith))

    pub edition_wrong : (w : ℕ) → 36 ≤ 8 * length s → w ≡ field_at (bits s) 32 4 → (w ≡ E.number → ⊥) → (header E).parse (bits s) ≡ fault 12 0
    edition_wrong w h e f = inside (omega arith) ∙ literal-other 4 E.number 12 sized (bits s) 32 w (rw length-bits h) e f

    module _ (v : ℕ) (written : v ≡ field_at (bits s) 32 4) (known : v ≡ E.number) where
      within : 36 ≤ 8 * length s → (header E).parse (bits s) ≡ sized.parse (drop 36 (bits s))
      within h = inside (omega arith) ∙ literal-same 4 E.number 12 sized (bits s) 32 v (rw length-bits h) written known

      pub sizes-short : 36 ≤ 8 * length s → 8 * length s < 86 → (header E).parse (bits s) ≡ fault 13 0
      sizes-short g h = within g ∙ sized-short (bits s) (rw length-bits g) (rw length-bits h)

      module _ (w : ℕ) (there : 86 ≤ 8 * length s) (ew : w ≡ field_at (bits s) 54 32) where
        pub weight_wrong : weighs w ≡ false → (header E).parse (bits s) ≡ fault 4 0
        weight_wrong f =
            within (omega arith)
            ∙ sized-read (bits s) (rw length-bits there) (field_at (bits s) 36 4) (field_at (bits s) 40 4) (field_at (bits s) 44 10) refl refl refl (fault 4 0)
            (weight-read (bits s) (rw length-bits there) w false ew f)

        pub head_read : weighs w ≡ true → (a b t : ℕ) → a ≡ field_at (bits s) 36 4 → b ≡ field_at (bits s) 40 4 → t ≡ field_at (bits s) 44 10
            → (header E).parse (bits s) ≡ got (a + 1, (b + 1, (t + 1, w))) (drop 86 (bits s))
        head_read f a b t ea eb et =
            within (omega arith)
            ∙ sized-read (bits s) (rw length-bits there) a b t ea eb et (got w (drop 86 (bits s))) (weight-read (bits s) (rw length-bits there) w true ew f)
