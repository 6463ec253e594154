use Rattle.std.proofs.Common.{rules}
use Rattle.xt_tree.proofs.OrderLemmas.{slice_cmp-steps}
use Rattle.node_axes.proofs.step_walks.orders.order_places.Goals as goal

pub returns : goal.returns
returns c = let e = slice_cmp-steps c.args.a.now.path c.args.b.now.path c.args.a.now.attribute c.args.b.now.attribute in search rules
