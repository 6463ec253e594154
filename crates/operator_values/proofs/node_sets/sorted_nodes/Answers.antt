use Rattle.std.proofs.Common.{rules, subst, List}
use Rattle.std.specs.Ordering.{is_lt}
use Rattle.std.specs.List.Sorted.{IsPermutation}
use Rattle.std.proofs.lemmas.List.Sorted.{answers_always}
use Rattle.xt_tree.specs.Place.{Place}
use Rattle.operator_values.specs.NodeSets.{order_of_all}
use Rattle.operator_values.proofs.SetLemmas.{place_ranks}
use Rattle.operator_values.proofs.node_sets.sorted_nodes.Goals as goal

pub returns : goal.returns
returns c = record {
  sorted = c.in_ok-sort_by.ensures.sorted (λ a b. is_lt (order_of_all a b)) place_ranks
      (answers_always _ _ _ (λ f a r g h. search rules));
  same = subst (λ (ps : List Place). IsPermutation ps c.sort_by.new.self.items)
      c.in_ok-nodes.ensures c.sort_by.ensures.permutation;
}
