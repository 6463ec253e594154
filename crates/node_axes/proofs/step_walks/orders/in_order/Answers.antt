use Rattle.std.proofs.Common.{rules}
use Rattle.std.specs.Ordering.{eq_by_cmp, is_lt}
use Rattle.std.proofs.lemmas.Fn.{dedup_same}
use Rattle.std.proofs.lemmas.List.Sorted.{answers_always}
use Rattle.xt_tree.specs.Place.{Place, place_cmp}
use Rattle.node_axes.proofs.StepWalks.OrderLemmas.{sorted_once, place_ranks}
use Rattle.node_axes.proofs.step_walks.orders.in_order.Goals as goal

pub returns : goal.returns
returns c = λ n w.
    let s = c.in_ok-sort_by.ensures.sorted (λ (a b : Place). is_lt (place_cmp a b)) place_ranks (answers_always _ _ _ (λ f a r g h. search rules)) in
    let d = dedup_same _ (eq_by_cmp place_cmp) _ (λ x y b f' x' y' k. search rules) _ _ c.dedup_by.ensures.filtered in
    sorted_once n c.args.nodes.items c.sort_by.new.self.items c.dedup_by.new.self.items w s c.sort_by.ensures.permutation d
