-- A tile of a job gives what a walk over its matches asks, in any subpalette that is present. Assumes nothing.
use Prim.Native.Nat.{ℕ, ◌*◌, ◌<◌}
use mathlib.Core.Path.{◌≡◌}
use mathlib.Core.List.{List}
use native.Mathlib.Omega.{arith}
use lib.Ieee.{Float}
use Rattle.job.specs.Job.{Job}
use Rattle.palette.specs.Palette.{sub_of, Counted}
use Rattle.palette_tile.specs.Tiles.{tile_at, Shown}
use Rattle.palette_tile.proofs.Present.{part-colours, part-some, tile-counted}
use Rattle.quantizer.specs.Sums.{places}
use Rattle.quantizer.proofs.Indexes.{row-placed}
use Rattle.quantizer_matches.specs.Matches.{Matched}

pub tile_matched : (J : Job) (pal : List Float) (n have : ℕ) → (S : Shown J pal n have) (t : ℕ) → t < J.T → (i : ℕ) → i < n → (room : ℕ) → room ≡ places → Matched (sub_of pal J.C have i) (tile_at J t) (i * J.C) room
tile_matched J pal n have S t l i m room e =
    let counted : Counted (tile_at J t) = tile-counted J pal n have S t l in
    record {
      some = part-some J pal n have S i m;
      place = omega (arith, part-colours J pal n have S i m, row-placed J pal n have S i m, S.present, e);
      three = counted.three;
      high = counted.high;
    }
