-- How deep the helper functions nest.
use Rattle.std.proofs.Common.{◌≡◌}
use Rattle.xt_forms.specs.Nest.{nest_of}
use Rattle.carried_exprs.proofs.NestRolled.{nest_expr_rolled, nest_arm_rolled, nest_bind_rolled}
use Rattle.carried_exprs.proofs.NestRolled.{nest_clause_rolled, nest_flwor_rolled, nest_name_rolled}
use Rattle.query_helpers.specs.CopyBody.{copy_body}
use Rattle.query_helpers.specs.LastBody.{last_body}
use Rattle.query_helpers.specs.NodesBody.{nodes_function}
use Rattle.query_helpers.specs.SimpleBody.{simple_body}

ruleset rolled = (
  nest_expr_rolled,
  nest_arm_rolled,
  nest_bind_rolled,
  nest_clause_rolled,
  nest_flwor_rolled,
  nest_name_rolled,
)

pub nodes_nest : nest_of nodes_function.body ≡ 1
nodes_nest = simp rolled

pub copy_nest : nest_of copy_body ≡ 5
copy_nest = simp rolled

pub last_nest : nest_of last_body ≡ 10
last_nest = simp rolled

pub simple_nest : nest_of simple_body ≡ 11
simple_nest = simp rolled
