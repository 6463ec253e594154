use Rattle.std.proofs.Common.{rules, of_calls, ◌∙◌}
use Rattle.std.proofs.lemmas.Fn.{always_returns_same}
use Rattle.operator_values.specs.NodeSets.{order_of_all}
use Rattle.operator_values.proofs.SetLemmas.{found}
use Rattle.operator_values.proofs.node_sets.is_found.Goals as goal

pub returns : goal.returns
returns c =
    let facts = c.binary_search_by.ensures in
    let place = facts.position (λ p. order_of_all p c.args.node.now)
    (always_returns_same _ _ _ (λ a r f k. search (rules, of_calls))) in
    c.is_ok.ensures.value
    ∙ found c.args.node.now c.args.nodes.now c.requires c.binary_search_by.result facts.bound
    place
