-- `put_trained` meets its contract, by the refusal that its number of samples gets. Assumes nothing.
use mathlib.Core.Path.{refl}
use native.Mathlib.Omega.{arith}
use Rattle.answer.proofs.Refusals.{never_done}
use Rattle.sheet_parts.proofs.Parts.{front_long}
use Rattle.fit_lines.proofs.Lengths.{refused-most}
use Rattle.train_text.proofs.Rules.{countable}
use Rattle.train_text.proofs.Texts.{refused-text, place_for-all, taken, drawable, trained-writable, trained-text}
use Rattle.train_text.proofs.trained.put_trained.Goals as goal

pub count_samples-n-requires : goal.count_samples-n-requires
count_samples-n-requires c = countable _ _ c.requires.0.passed

pub shape_of-out-in-Err : goal.shape_of-out-in-Err
shape_of-out-in-Err c = c.put_refused.auto.out

pub returns-in-Err : goal.returns-in-Err
returns-in-Err c = (
  refused-text _ _ c.requires.0 _ c.count_samples-n.ensures _ _ _ _ c.in-Err.ensures (never_done _)
      (rw c.number.ensures at c.put_refused.ensures),
  omega (arith, c.put_refused.ensures.place, refused-most c.number.result),
)

pub put_samples-m-requires : goal.put_samples-m-requires
put_samples-m-requires c = (
  countable _ _ c.requires.0.passed,
  place_for-all _ _ c.requires.0 _ c.count_samples-n.ensures _ c.in_default.ensures refl
      c.room-samples.result c.room-samples.ensures.0,
)

pub slice_bounds-samples-end : goal.slice_bounds-samples-end
slice_bounds-samples-end c =
    omega (
      arith,
      taken _ _ c.requires.0 _ c.count_samples-n.ensures _ c.in_default.ensures refl _ _
          c.room-samples.ensures.0 _ c.put_samples-m.ensures,
      c.put_samples-m.auto.samples,
      c.room-samples.ensures.0,
    )

pub slice_bounds-course-end : goal.slice_bounds-course-end
slice_bounds-course-end c =
    front_long c.put_samples-m.result c.put_samples-m.new.samples
    (omega (
      arith,
      taken _ _ c.requires.0 _ c.count_samples-n.ensures _ c.in_default.ensures refl _ _
          c.room-samples.ensures.0 _ c.put_samples-m.ensures,
      c.put_samples-m.auto.samples,
      c.room-samples.ensures.0,
    ))

pub train_palette-requires : goal.train_palette-requires
train_palette-requires c =
    drawable _ _ c.requires.0 _ c.count_samples-n.ensures _ c.in_default.ensures refl _ _
    c.room-samples.ensures.0 _ c.put_samples-m.ensures

pub put_sheet-requires : goal.put_sheet-requires
put_sheet-requires c = (
  trained-writable _ _ c.requires.0 _ c.count_samples-n.ensures _ c.in_default.ensures refl _ _
      c.room-samples.ensures.0 _ c.put_samples-m.ensures _ c.train_palette.ensures,
  c.requires.1,
)

pub shape_of-palette : goal.shape_of-palette
shape_of-palette c = c.train_palette.auto.palette

pub shape_of-out : goal.shape_of-out
shape_of-out c = c.put_sheet.auto.out

pub returns : goal.returns
returns c = (
  trained-text _ _ c.requires.0 _ c.count_samples-n.ensures _ c.in_default.ensures refl _ _
      c.room-samples.ensures.0 _ c.put_samples-m.ensures _ c.train_palette.ensures _ _ _
      c.put_sheet.ensures.0,
  c.put_sheet.ensures.1,
)
