-- What a header that was read says: it takes 86 bits, and its numbers are within their ranges. Assumes nothing.
use mathlib.Core.Path.{◌≡◌, refl, ap}
use Prim.Native.Nat.{ℕ, pred, ◌*◌, ◌^◌, ◌≤◌, ◌<◌}
use native.Mathlib.Omega.{arith}
use native.Mathlib.Nat.{mul-le-mul}
use mathlib.Core.Bool.{Bool, ◌&&◌}
use mathlib.Core.List.{List}
use lib.Dec.{T, ltb, ltb→lt}
use lib.ListN.{length, drop, length-append}
use Rattle.format.specs.Format.{got, field, above}
use Rattle.format.proofs.Tests.{and_l, and_r}
use Rattle.format.proofs.Fixed.{Fixed, field_fixed, checked_fixed, above_fixed, both_fixed, literal_fixed}
use Rattle.format_pattern.specs.Pattern.{weighs}
use Rattle.sheet_format.specs.declared.Edition.{Edition}
use Rattle.sheet_format.specs.Sheet.{opening, Header, weight, tiled, coloured, sized, dated, header}
use Rattle.sheet_format.proofs.Exact.{header_lawful}

pub record Sized (h : Header) : Type 0 where
  pub subs : (0 < h.0) × (h.0 ≤ 16)
  pub each : (0 < h.1.0) × (h.1.0 ≤ 16)
  pub cells : h.0 * h.1.0 ≤ 256
  pub tiles : (0 < h.1.1.0) × (h.1.1.0 ≤ 1024)
  pub narrow : h.1.1.1 < 2 ^ 32
  pub weight : T (weighs h.1.1.1)

-- a number stored as one less
pub above_says : (k n : ℕ) → T ((above k).good n) → (0 < n) × (n ≤ 2 ^ k)
above_says k n h = (
  ltb→lt 0 n (and_l (ltb 0 n) (ltb (pred n) (2 ^ k)) h),
  omega (arith, ltb→lt (pred n) (2 ^ k) (and_r (ltb 0 n) (ltb (pred n) (2 ^ k)) h)),
)

module _ (E : Edition) where
  pub good_says : (h : Header) → T ((header E).good h) → Sized h
  good_says h g =
      let W : Bool = ltb h.1.1.1 (2 ^ 32) && weighs h.1.1.1 in
      let N : Bool = (above 10).good h.1.1.0 in
      let C : Bool = (above 4).good h.1.0 in
      let S : Bool = (above 4).good h.0 in
      let sizes = and_r (ltb E.number (2 ^ 4)) (S && (C && (N && W))) (and_r (ltb opening (2 ^ 32)) (ltb E.number (2 ^ 4) && (S && (C && (N && W)))) g) in
      let subs = above_says 4 h.0 (and_l S (C && (N && W)) sizes) in
      let two = and_r S (C && (N && W)) sizes in
      let each = above_says 4 h.1.0 (and_l C (N && W) two) in
      let three = and_r C (N && W) two in
      let last = and_r N W three in
      record {
        subs = subs;
        each = each;
        cells = mul-le-mul subs.1 each.1;
        tiles = above_says 10 h.1.1.0 (and_l N W three);
        narrow = ltb→lt h.1.1.1 (2 ^ 32) (and_l (ltb h.1.1.1 (2 ^ 32)) (weighs h.1.1.1) last);
        weight = and_r (ltb h.1.1.1 (2 ^ 32)) (weighs h.1.1.1) last;
      }

  pub header_fixed : Fixed (header E) 86
  header_fixed =
      literal_fixed 32 opening 12 54 (dated E) (literal_fixed 4 E.number 12 50 sized
      (both_fixed (above 4) (λ s. coloured) 4 46 (above_fixed 4) λ s. both_fixed (above 4) (λ c. tiled) 4 42 (above_fixed 4) λ c.
      both_fixed (above 10) (λ t. weight) 10 32 (above_fixed 10) λ t.
      checked_fixed 4 weighs (field 32) 32 (field_fixed 32)))

  -- a header that was read
  module _ (l : List Bool) (h : Header) (r : List Bool) (e : (header E).parse l ≡ got h r) where
    pub header-rest : r ≡ drop 86 l
    header-rest = header_fixed l 0 h r e

    pub header-sized : Sized h
    header-sized = good_says h ((header_lawful E).back l h r e).1

    pub header-long : 86 ≤ length l
    header-long = omega (arith, ap length ((header_lawful E).back l h r e).0, length-append ((header E).print h) r, printed)
      where
        printed : length ((header E).print h) ≡ 86
        printed = refl
