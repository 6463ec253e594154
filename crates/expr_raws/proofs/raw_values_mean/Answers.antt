use Rattle.expr_raws.proofs.Forms.{printable_means}
use Rattle.expr_raws.proofs.raw_values_mean.Goals as goal

pub returns : goal.returns
returns c = λ s e strip. printable_means s strip e
