-- The second demand, put together. Assumes nothing.
use Rattle.demands.specs.Second.{Second}
use Rattle.demands.proofs.Fits.{single_fits, both-fit, assigns}
use Rattle.demands.proofs.Draws.{tiles_chosen, draw-moves, advance-moves, advance_many, one-moves}
use Rattle.demands.proofs.Hints.{whatever_hints}

pub second_demand : Second
second_demand =
    record {
      single_fit = single_fits;
      best_two = both-fit;
      assign = assigns;
      tiles = tiles_chosen;
      draw = draw-moves;
      advance = advance-moves;
      advance_many = advance_many;
      one_draw = one-moves;
      whatever_hints = whatever_hints;
    }
