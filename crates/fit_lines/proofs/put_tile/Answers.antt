-- `put_tile` meets its contract: two fields, the distance and the last field. Assumes nothing.
use native.Mathlib.Omega.{arith}
use Rattle.fit_lines.specs.Lines.{tile_line, tile_word, sub_word}
use Rattle.fit_lines.proofs.Lengths.{field-most, length_digits}
use Rattle.fit_lines.proofs.Stores.{both_stored}
use Rattle.fit_lines.proofs.put_tile.Goals as goal

pub put_field-b-requires : goal.put_field-b-requires
put_field-b-requires c = omega (arith, c.put_field-a.ensures.place, field-most tile_word c.args.tile)

pub put_word-c-requires : goal.put_word-c-requires
put_word-c-requires c =
    let a = c.args in
    omega (arith, c.put_field-a.ensures.place, c.put_field-b.ensures.place, field-most tile_word a.tile, field-most sub_word a.found.sub)

pub put_digits-d-requires : goal.put_digits-d-requires
put_digits-d-requires c =
    let a = c.args in
    omega (
      arith,
      c.put_field-a.ensures.place,
      c.put_field-b.ensures.place,
      field-most tile_word a.tile,
      field-most sub_word a.found.sub,
      c.put_word-c.ensures.place,
    )

pub put_last-requires : goal.put_last-requires
put_last-requires c =
    let a = c.args in
    omega (
      arith,
      c.put_field-a.ensures.place,
      c.put_field-b.ensures.place,
      field-most tile_word a.tile,
      field-most sub_word a.found.sub,
      c.put_word-c.ensures.place,
      c.put_digits-d.ensures.place,
      length_digits 16 8 a.found.dist,
    )

pub returns : goal.returns
unfolding tile_line
returns c =
    let fields = both_stored c.put_field-a.ensures c.put_field-b.ensures in
    both_stored (both_stored (both_stored fields c.put_word-c.ensures) c.put_digits-d.ensures) c.put_last.ensures
