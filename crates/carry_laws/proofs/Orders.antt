-- Nodes that stand in document order stay so.
use Rattle.std.proofs.Common.{◌≡◌, List, [], ◌∷◌, refl, sym, ap, subst}
use Rattle.std.specs.Prelude.{true, Ok}
use Rattle.std.specs.List.{list_all}
use Rattle.std.specs.List.Sorted.{IsSortedBy}
use Rattle.std.specs.Ordering.{eq_by_cmp}
use Rattle.std.proofs.lemmas.List.Kept.{IsStrictlySortedBy-dedup}
use Rattle.xdm_items.specs.declared.items.Item.{Item}
use Rattle.order_group.proofs.Orders.{the_order}
use Rattle.lazy_seq.specs.Orders.{item_cmp, stands_before, in_document_order}
use Rattle.lazy_seq.proofs.OrderLemmas.{item_total, item_ranks, already}
use Rattle.lazy_seq.proofs.StableLemmas.{is_stable_order}
use Rattle.operator_values.specs.Nodes.{is_node}
use Rattle.expr_meaning.specs.Outcomes.Outcome.{Every}
use Rattle.expr_meaning.specs.Paths.{path_value}
use Rattle.meaning_laws.proofs.SoundValues.Lists.{every_dedup, every_order}
use Rattle.xt_names.specs.Lists.{stable_order as order_of_rows, stable_order}

abbrev pub IsNode : Item → Type 0
IsNode x = is_node x ≡ true

sorted : (xs : List Item) → IsSortedBy stands_before (stable_order stands_before xs)
sorted xs =
    let s = the_order stands_before item_ranks xs in
    subst (IsSortedBy stands_before)
    (is_stable_order stands_before item_ranks xs (order_of_rows stands_before xs) s.is.sorted
    s.is.stable) s.is.sorted

pub twice_ordered : (xs : List Item) →
    in_document_order (in_document_order xs) ≡ in_document_order xs
twice_ordered xs =
    sym (already (in_document_order xs)
    (IsStrictlySortedBy-dedup item_total (λ x y. refl) (stable_order stands_before xs) (sorted xs)))

pub nodes_ordered : (xs : List Item) → Every IsNode xs → Every IsNode (in_document_order xs)
nodes_ordered xs h =
    every_dedup IsNode (eq_by_cmp item_cmp) (stable_order stands_before xs)
    (every_order IsNode stands_before xs h)

pub all_nodes : (xs : List Item) → Every IsNode xs → list_all is_node xs ≡ true
all_nodes [] h = refl
all_nodes (x ∷ xs) h = rw h.0 (all_nodes xs h.1)

-- what a path makes of nodes in document order
pub path_of_ordered : (xs : List Item) → Every IsNode xs →
    path_value (in_document_order xs) ≡ Ok (in_document_order xs)
path_of_ordered xs h =
    rw (all_nodes (in_document_order xs) (nodes_ordered xs h)) (ap Ok (twice_ordered xs))
