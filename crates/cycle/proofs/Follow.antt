-- How a run keeps to the definition: as long as its cycle is `after n seed t`, its next draw is `draw_at n seed t`, and leaves it at `after n seed (suc t)`.
-- So a run that keeps its order and its record in lent memory has one invariant, that the cycle they hold is `after n seed t`. Assumes nothing.
use mathlib.Core.Path.{◌≡◌, ap, ◌∙◌}
use Prim.Native.Nat.{ℕ, suc}
use Rattle.cycle.specs.Cycle.{Cycle, Drawn, drawn, draw_one, after, draw_at}

-- the cycle `held` is at draw t; one more draw answers a sample and leaves the cycle `left`
module _ (n seed t sample : ℕ) (held left : Cycle) (at : held ≡ after n seed t) (draws : drawn sample left ≡ draw_one held) where
  draws-at : drawn sample left ≡ draw_one (after n seed t)
  draws-at = draws ∙ ap draw_one at

  pub follow_sample : sample ≡ draw_at n seed t
  unfolding draw_at
  follow_sample = ap (λ (d : Drawn). d.sample) draws-at

  pub follow_next : left ≡ after n seed (suc t)
  unfolding after
  follow_next = ap (λ (d : Drawn). d.next) draws-at
