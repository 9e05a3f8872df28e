-- `put_sheet` meets its contract: the writer refuses none that can be written. Assumes nothing.
use Rattle.sheet_parts.proofs.Files.{file_stored, file_short}
use Rattle.sheet_parts.proofs.put_sheet.Goals as goal

pub returns : goal.returns
returns c = (
  file_stored _ _ _ c.requires.0 c.requires.1 _ _ c.write.ensures _ c.unwrap_or.ensures,
  file_short _ _ _ c.requires.0 c.requires.1 _ _ c.write.ensures _ c.unwrap_or.ensures,
)
