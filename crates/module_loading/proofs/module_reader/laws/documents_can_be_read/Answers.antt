use Rattle.module_loading.proofs.ModuleReader.Counted.{can_be_read}
use Rattle.module_loading.proofs.module_reader.laws.documents_can_be_read.Goals as goal

pub returns : goal.returns
returns c = can_be_read
