use Rattle.std.proofs.Common.{◌≡◌, ◌∙◌, Ok, List, filter, true, ap, sym, rules}
use Rattle.std.specs.List.{list_all}
use Rattle.xdm_items.specs.declared.items.Item.{Item}
use Rattle.lazy_seq.specs.Orders.{in_document_order}
use Rattle.operator_values.specs.Nodes.{is_node}
use Rattle.operator_values.specs.NodeSets.{is_chosen}
use Rattle.operator_values.proofs.SetLemmas.{set_value, chosen}
use Rattle.operator_values.proofs.node_sets.selected.Goals as goal

pub returns : goal.returns
returns c =
    let xs = c.args.left.now in
    let ys = c.args.right.now in
    let value = λ (ns : List Item) (ms : List Item). filter (is_chosen c.args.among ms) ns in
    let left_nodes : list_all is_node xs ≡ true = search rules in
    let right_nodes : list_all is_node ys ≡ true = search rules in
    let same = rw c.as_slice-2.ensures at c.in_ok-nodes.ensures.same in
    let kept = rw (c.as_slice-4.ensures.value, c.as_slice-3.ensures) at c.in_ok-items.ensures in
    let is_value = kept ∙ chosen c.args.among ys c.in_ok-nodes.nodes.items same xs in
    set_value value xs ys left_nodes right_nodes
    ∙ ap Ok (ap in_document_order (sym is_value) ∙ sym c.in_ok-in_order.ensures)
