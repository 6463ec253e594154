use Rattle.std.proofs.Common.{◌≡◌, Bool, IfOk, subst}
use Rattle.item_functions.proofs.NodeFunctions.TableLemmas.{all_keys}
use Rattle.item_functions.proofs.node_functions.attribute_tables.all_in_table.Goals as goal

pub returns : goal.returns
returns c =
    let all = all_keys c.in_ok-table.table c.args.others.now c.args.attributes.now c.in_ok-table.ensures in
    subst (λ (b : Bool). IfOk c.are_all_in.result (λ r. r ≡ b)) all c.are_all_in.ensures
