use Rattle.raw_laws.proofs.ShapedRaws.Forms.{printable_shaped}
use Rattle.raw_laws.proofs.shaped_raws.raw_values_are_shaped.Goals as goal

pub returns : goal.returns
returns c = printable_shaped
