-- A job and a palette that passed the checks of a call without samples can be asked for fits; with one tile, of that tile. Assumes nothing.
use Prim.Native.Nat.{ℕ}
use mathlib.Core.Path.{◌≡◌, subst, ◌∙◌}
use mathlib.Core.Bool.{Bool}
use mathlib.Core.List.{List}
use native.Mathlib.Nat.{le_refl}
use native.Mathlib.Omega.{arith}
use lib.Dec.{eqb}
use lib.Ieee.{Float}
use lib.ListN.{length}
use borrow.Author.Tests.{eqb-true}
use Rattle.answer.specs.Refusals.{Answered}
use Rattle.color.proofs.Sizes.{bounded_wider}
use Rattle.job.specs.Job.{Job}
use Rattle.job.specs.Gives.{Plain}
use Rattle.palette_tile.specs.Tiles.{Shown, Paired}
use Rattle.fits_check.specs.One.{one_answer}
use Rattle.fits_check.proofs.Passes.{one-tile, one_plain}

-- the whole palette is present
pub shown : (J : Job) (palette : List Float) (room : Bool) → Plain J palette room → Shown J palette J.S J.C
shown J palette room P =
    record {
      ready = P.ready;
      subs = P.ready.sizes.subs;
      most = le_refl J.S;
      some = P.ready.sizes.some;
      present = le_refl J.C;
      room = P.lent.room;
      bounded = bounded_wider palette 2 4 (omega arith) P.lent.bounded;
    }

-- what an answer of 0 to a call with one tile gives
module _ (J : Job) (palette : List Float) (n : ℕ) (a : Answered) (e : a ≡ one_answer J palette n) (z : a.number ≡ 0) where
  answered : (one_answer J palette n).number ≡ 0
  answered = subst (λ (x : Answered). x.number ≡ 0) e z

  pub one-paired : (hints : List ℕ) → length hints ≡ n → Paired J palette J.S J.C hints 0
  one-paired hints l =
      record {
        shown = shown J palette (eqb n J.T) (one_plain J palette n answered);
        tile = omega (arith, one-tile J palette n answered);
        each = l ∙ eqb-true n J.T (one_plain J palette n answered).roomy;
      }
