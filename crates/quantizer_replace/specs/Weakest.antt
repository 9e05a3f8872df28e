-- The swap of subpalettes that replacing decides on before any colour moves. Definitions only. Assumes nothing.
use Rattle.std.specs.Prelude.{cond, List, ltb, Float, Option, None}
use Rattle.job.specs.Job.{Job}
use Rattle.quantizer.specs.declared.Swap.{Swap}
use Rattle.quantizer.specs.Replacing.{shares_of, swap_in}

-- where there is more than one subpalette
unfoldable pub weakest_of : Job → List Float → Option Swap
weakest_of J pal = cond (ltb 1 J.S) (swap_in (shares_of J pal J.T) 0 J.S) None
