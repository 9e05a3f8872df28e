-- `quantizer_draw::draw` meets its contract: the next sample of the order nudges a colour. Assumes nothing.
use Rattle.quantizer_draw.proofs.Asks.{nudge_asked, going_done}
use Rattle.quantizer_draw.proofs.draw.Goals as goal

pub nudge-requires : goal.nudge-requires
nudge-requires c = nudge_asked _ _ _ _ _ _ c.requires _ _ c.next-sample.ensures

pub returns : goal.returns
returns c = going_done _ _ _ _ _ _ c.requires _ _ c.next-sample.ensures _ _ _ c.nudge.ensures
