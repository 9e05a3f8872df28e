-- `quantizer_seed::seed` meets its contract: the mean is written at the first place. Assumes nothing.
use Rattle.quantizer_seed.proofs.Averages.{averaging, seed-done}
use Rattle.quantizer_seed.proofs.seed.Goals as goal

pub mean_oklab-mean-requires : goal.mean_oklab-mean-requires
mean_oklab-mean-requires c = averaging _ _ c.requires

pub returns : goal.returns
returns c = seed-done _ _ c.requires _ _ c.mean_oklab-mean.ensures c.put.ensures
