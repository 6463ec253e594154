use Rattle.std.proofs.Common.{arith}
use Rattle.expr_raws.specs.Raws.{form_of}
use Rattle.expr_drafts.proofs.ExprPlaces.Made.{one_listed}
use Rattle.expr_drafts.proofs.expr_places.places.place_of_list.Goals as goal

pub returns-in-len1 : goal.returns-in-len1
returns-in-len1 c = λ p. one_listed (form_of p) c.args.items.now (omega arith)
