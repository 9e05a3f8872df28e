-- `run_check::colours_room` meets its contract, return by return. Assumes nothing.
use mathlib.Core.Path.{refl}
use native.Mathlib.Omega.{arith}
use mir.Facts.{Fits-le, Fits-lit}
use Rattle.run_check.proofs.Rooms.{too_many, too_wide, cells-few}
use Rattle.run_check.proofs.colours_room.Goals as goal

pub returns-then-s-gt-MOST_SUBPALETTES : goal.returns-then-s-gt-MOST_SUBPALETTES
returns-then-s-gt-MOST_SUBPALETTES c = too_many _ _ _ c.if-s-gt-MOST_SUBPALETTES.true

pub returns-then-c-gt-MOST_COLOURS : goal.returns-then-c-gt-MOST_COLOURS
returns-then-c-gt-MOST_COLOURS c = too_wide _ _ _ c.if-c-gt-MOST_COLOURS.true

pub overflow_mul-result : goal.overflow_mul-result
overflow_mul-result c = Fits-le (cells-few _ _ c.if-s-gt-MOST_SUBPALETTES.false c.if-c-gt-MOST_COLOURS.false) (Fits-lit {n = 256} tt)

pub overflow_mul-result-2 : goal.overflow_mul-result-2
overflow_mul-result-2 c = Fits-le (let p = cells-few _ _ c.if-s-gt-MOST_SUBPALETTES.false c.if-c-gt-MOST_COLOURS.false in omega arith) (Fits-lit {n = 768} tt)

pub returns : goal.returns
returns c = λ _ _. refl
