-- `job_limits::check_sizes` meets its contract, return by return. Assumes nothing.
use mathlib.Core.Bool.{not}
use mathlib.Core.Path.{ap}
use Rattle.answer.proofs.Passing.{refuses, passes, none}
use Rattle.job_limits.proofs.check_sizes.Goals as goal

pub returns-then-not-is_tile_size : goal.returns-then-not-is_tile_size
returns-then-not-is_tile_size c = refuses _ _ _ c.is_tile_size.ensures (ap not c.if-not-is_tile_size.true)

pub returns-then-not-is_among : goal.returns-then-not-is_among
returns-then-not-is_among c = passes _ _ _ _ c.is_tile_size.ensures (ap not c.if-not-is_tile_size.false) (refuses _ _ _ c.is_among.ensures (ap not c.if-not-is_among.true))

pub returns-then-not-is_among-2 : goal.returns-then-not-is_among-2
returns-then-not-is_among-2 c =
    passes _ _ _ _ c.is_tile_size.ensures (ap not c.if-not-is_tile_size.false)
    (passes _ _ _ _ c.is_among.ensures (ap not c.if-not-is_among.false) (refuses _ _ _ c.is_among-2.ensures (ap not c.if-not-is_among-2.true)))

pub returns-then-not-is_among-3 : goal.returns-then-not-is_among-3
returns-then-not-is_among-3 c =
    passes _ _ _ _ c.is_tile_size.ensures
    (ap not c.if-not-is_tile_size.false)
    (passes _ _ _ _ c.is_among.ensures (ap not c.if-not-is_among.false)
    (passes _ _ _ _ c.is_among-2.ensures (ap not c.if-not-is_among-2.false) (refuses _ _ _ c.is_among-3.ensures (ap not c.if-not-is_among-3.true))))

pub returns : goal.returns
returns c =
    passes _ _ _ _ c.is_tile_size.ensures
    (ap not c.if-not-is_tile_size.false)
    (passes _ _ _ _ c.is_among.ensures (ap not c.if-not-is_among.false)
    (passes _ _ _ _ c.is_among-2.ensures (ap not c.if-not-is_among-2.false)
    (passes _ _ _ _ c.is_among-3.ensures (ap not c.if-not-is_among-3.false) none)))
