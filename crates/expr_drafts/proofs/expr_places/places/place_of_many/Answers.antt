use Rattle.std.proofs.Common.{arith}
use Rattle.expr_raws.specs.Raws.{form_of}
use Rattle.expr_drafts.proofs.ExprPlaces.Made.{one_of_many}
use Rattle.expr_drafts.proofs.expr_places.places.place_of_many.Goals as goal

pub returns-in-len1 : goal.returns-in-len1
returns-in-len1 c = λ p k. one_of_many (form_of p) c.args.level k c.args.items.now (omega arith)
