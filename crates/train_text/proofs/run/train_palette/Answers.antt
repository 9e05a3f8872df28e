-- `train_palette` meets its contract: the memory that it lends has the run's lengths, and its hints are 0. Assumes nothing.
use Prim.Native.Nat.{◌*◌}
use Rattle.sheet_parts.proofs.Parts.{front_long}
use Rattle.train_text.proofs.Rooms.{samples_fit_lem, tiles_fit_lem, numbers_fit, palette-fits, trained-there}
use Rattle.train_text.proofs.run.train_palette.Goals as goal

pub slice_bounds-orders-end : goal.slice_bounds-orders-end
slice_bounds-orders-end c = samples_fit_lem _ _ c.requires _ c.room-orders.ensures.0

pub slice_bounds-order-end : goal.slice_bounds-order-end
slice_bounds-order-end c = front_long c.args.course.now.job.sizes.n c.room-orders.result (samples_fit_lem _ _ c.requires _ c.room-orders.ensures.0)

pub slice_bounds-firsts-end : goal.slice_bounds-firsts-end
slice_bounds-firsts-end c = tiles_fit_lem _ _ c.requires _ c.room-firsts.ensures.0

pub slice_bounds-hints-end : goal.slice_bounds-hints-end
slice_bounds-hints-end c = front_long c.args.course.now.job.sizes.t c.room-firsts.result (tiles_fit_lem _ _ c.requires _ c.room-firsts.ensures.0)

pub slice_bounds-errors-end : goal.slice_bounds-errors-end
slice_bounds-errors-end c = numbers_fit _ _ c.requires _ c.room-errors.ensures.0

pub slice_bounds-least-end : goal.slice_bounds-least-end
slice_bounds-least-end c =
    let a = c.args in
    front_long (3 * (a.course.now.job.sizes.s * a.course.now.job.sizes.c)) c.room-errors.result (numbers_fit _ _ c.requires _ c.room-errors.ensures.0)

pub start-requires : goal.start-requires
start-requires c = tt

pub turns-requires : goal.turns-requires
turns-requires c = palette-fits _ _ c.requires _ c.start.auto.palette

pub returns : goal.returns
returns c =
    trained-there _ _ c.requires c.room-orders.result c.room-firsts.result c.room-errors.result
    c.room-orders.ensures.0 c.room-firsts.ensures.0 c.room-firsts.ensures.1 c.room-errors.ensures.0
    _ _ _ c.start.ensures c.turns.ensures
