-- What the conversion to f32 keeps: a bound that f32 holds, a clear sign, the order, and every value that is an f32 already. Assumes nothing.
use Prim.Native.Nat.{ℕ, ◌*◌}
use mathlib.Core.Path.{◌≡◌, refl}
use mathlib.Core.Bool.{true, false, not}
use lib.Dec.{T}
use lib.Ieee.{Float, nan, inf, fin, binary32, up, down, round, le, fits, is_nan}
use lib.Ieee.Fits.{down_pos, nan-fits, inf-fits, round-fits}
use Rattle.ieee.proofs.Order.{lowest, highest, le_fin→}
use Rattle.ieee.proofs.Self.{round_self}
use Rattle.ieee.specs.Terms.{plus, Within, Exact, Good}
use Rattle.ieee.proofs.Within.{round-within}
use Rattle.ieee.proofs.Mono.{round_mono±}
use Rattle.ieee.proofs.Goods.{inf-good, round-good, round-real}
use Rattle.ieee.specs.Narrow.{narrow_of}

pub narrow_fits : (x : Float) → T (fits binary32 (narrow_of x))
unfolding narrow_of
narrow_fits nan = nan-fits binary32
narrow_fits (inf s) = inf-fits binary32 s
narrow_fits (fin s m e) = round-fits binary32 s (m * up e) (down e)

pub narrow_real : (x : Float) → T (not (is_nan x)) → T (not (is_nan (narrow_of x)))
unfolding narrow_of
narrow_real nan h = h
narrow_real (inf s) h = unfold is_nan in tt
narrow_real (fin s m e) h = round-real binary32 s (m * up e) (down e)

pub narrow_self : (x : Float) → T (fits binary32 x) → narrow_of x ≡ x
unfolding narrow_of
narrow_self nan h = refl
narrow_self (inf s) h = refl
narrow_self (fin s m e) h = round_self binary32 s m e h

pub narrow_within : (x : Float) (k d : ℕ) → Exact binary32 k d → Within x k d → Within (narrow_of x) k d
unfolding narrow_of
narrow_within nan k d E w = w
narrow_within (inf s) k d E w = w
narrow_within (fin s m e) k d E w = round-within binary32 s (m * up e) (down e) k d (down_pos e) E w

pub narrow_good : (x : Float) → T (plus x) → Good binary32 (narrow_of x)
unfolding narrow_of
narrow_good nan p = absurd p
narrow_good (inf true) p = absurd p
narrow_good (inf false) p = inf-good binary32
narrow_good (fin true m e) p = absurd p
narrow_good (fin false m e) p = round-good binary32 (m * up e) (down e)

pub narrow_mono : (x y : Float) → T (le x y) → T (le (narrow_of x) (narrow_of y))
unfolding narrow_of
narrow_mono nan y h = absurd (unfold le in h)
narrow_mono (inf s) nan h = absurd (unfold le in h)
narrow_mono (inf s) (inf t) h = h
narrow_mono (inf true) (fin t n d) h = lowest (round binary32 t (n * up d) (down d)) (round-real binary32 t (n * up d) (down d))
narrow_mono (inf false) (fin t n d) h = absurd (unfold le in h)
narrow_mono (fin s m e) nan h = absurd (unfold le in h)
narrow_mono (fin s m e) (inf true) h = absurd (unfold le in h)
narrow_mono (fin s m e) (inf false) h = highest (round binary32 s (m * up e) (down e)) (round-real binary32 s (m * up e) (down e))
narrow_mono (fin s m e) (fin t n d) h = round_mono± binary32 s (m * up e) (down e) t (n * up d) (down d) (down_pos e) (down_pos d) (le_fin→ s m e t n d h)
