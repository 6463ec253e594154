use Rattle.loaded_sheets.proofs.LoadedParts.Readable.{all_read}
use Rattle.loaded_sheets.proofs.loaded_parts.laws.loaded_modules_can_be_read.Goals as goal

pub returns : goal.returns
returns c = all_read
