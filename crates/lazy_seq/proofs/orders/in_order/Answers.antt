use Rattle.std.proofs.Common.{rules, subst, ◌∙◌}
use Rattle.std.specs.List.Sorted.{IsStrictlySortedBy, IsStableBy}
use Rattle.std.specs.Ordering.{eq_by_cmp}
use Rattle.std.proofs.lemmas.Fn.{dedup_same}
use Rattle.std.proofs.lemmas.List.Sorted.{answers_always}
use Rattle.xdm_items.specs.declared.items.Item.{Item}
use mathlib.Core.List.{List}
use Rattle.lazy_seq.specs.Orders.{item_cmp, stands_before}
use Rattle.lazy_seq.proofs.OrderLemmas.{already, sorted_once, item_ranks}
use Rattle.lazy_seq.proofs.orders.in_order.Goals as goal

pub returns-then-rises : goal.returns-then-rises
returns-then-rises c =
    already c.args.items
    (subst (IsStrictlySortedBy item_cmp) c.as_slice.ensures (c.rises.ensures c.if-rises.true))

pub returns : goal.returns
returns c =
    let s = c.in_ok-sort_by.ensures.sorted stands_before item_ranks
    (answers_always _ _ _ (λ f a r g h. search rules)) in
    let t = c.sort_by.ensures.stable stands_before item_ranks
    (answers_always _ _ _ (λ f a r g h. search rules)) in
    let u = subst (λ (xs : List Item). IsStableBy stands_before xs c.sort_by.new.self.items)
    c.in_ok-nodes.ensures t in
    let d = dedup_same _ (eq_by_cmp item_cmp) _ (λ x y b f' x' y' k. search rules) _ _
    c.dedup_by.ensures.filtered in
    sorted_once c.args.items c.sort_by.new.self.items c.of_vec.result s u (c.of_vec.ensures ∙ d)
