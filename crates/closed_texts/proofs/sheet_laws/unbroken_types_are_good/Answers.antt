use Rattle.closed_texts.proofs.SheetLaws.Types.{types_good}
use Rattle.closed_texts.proofs.sheet_laws.unbroken_types_are_good.Goals as goal

pub returns : goal.returns
returns c = types_good
