use Rattle.std.proofs.Common.{◌∙◌}
use Rattle.xt_atoms.proofs.Utf8Order.{bytes_order}
use Rattle.xt_atoms.proofs.comparisons.text_order.Goals as goal

pub returns : goal.returns
returns c = c.cmp.ensures ∙ bytes_order _ _ c.utf8.a c.utf8.b
