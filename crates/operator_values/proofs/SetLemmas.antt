-- A search among sorted nodes finds what is among the items.
use Rattle.std.proofs.Common.{◌≡◌, ℕ, List, [], ◌∷◌, length, get_or, Result, Ok, Err, is_ok, inl}
use Rattle.std.proofs.Common.{inr, refl, sym, ap, ◌∙◌, arith}
use Rattle.std.specs.Prelude.{Bool, true, false, ◌||◌, Some, None, cond, filter, nat_lt, nat_eq}
use Rattle.std.specs.Prelude.{if◌then◌else◌}
use Rattle.std.specs.Cmp.{IsTotalOrder, IsStrictWeakOrder}
use Rattle.std.specs.List.{list_all, list_any}
use Rattle.std.specs.List.Sorted.{IsSorted, IsPermutation, IsSearchInRange, IsBinarySearchResult}
use Rattle.std.specs.Ordering.{is_eq, is_lt, nat_cmp, ordering_then, ordering_reverse}
use Rattle.std.specs.declared.cmp.Ordering.{Ordering}
use Rattle.std.specs.declared.cmp.Ordering.TheVariants.{Less, Equal, Greater}
use Rattle.std.proofs.lemmas.Bool.{cases_lt}
use Rattle.std.proofs.lemmas.Bool.Decides.{nat_tests}
use Rattle.std.proofs.lemmas.Cmp.{nat_cmp_total, on_total, then_total, lists_total}
use Rattle.std.proofs.lemmas.List.Elements.{All-from_all_within}
use Rattle.std.proofs.lemmas.List.Folds.{list_any_at, list_any_none}
use Rattle.std.proofs.lemmas.List.Sorted.{ranks_by, searchable_from_sorted, list_any-IsPermutation}
use Rattle.xt_tree.specs.Place.{Place, steps, step_cmp, place_cmp}
use Rattle.xdm_items.specs.declared.items.Item.{Item}
use Rattle.xdm_items.specs.declared.items.Item.TheVariants.{Node, Atom}
use Rattle.lazy_seq.specs.Orders.{in_document_order}
use Rattle.operator_values.specs.Nodes.{is_equal, same_node, is_node, is_same_item, is_among}
use Rattle.operator_values.specs.Nodes.{of_sets}
use Rattle.operator_values.specs.NodeSets.{places_of, order_of_all, is_listed, is_kept, is_chosen}

-- the value of two lists of nodes
pub set_value : (value : List Item → List Item → List Item) (xs ys : List Item)
    → list_all is_node xs ≡ true → list_all is_node ys ≡ true
    → of_sets value xs ys ≡ Ok (in_document_order (value xs ys))
set_value value xs ys p q = rw (p, q) refl

step_total : IsTotalOrder step_cmp
step_total = then_total (on_total (λ (s : ℕ × ℕ). s.0) nat_cmp_total)
    (on_total (λ (s : ℕ × ℕ). s.1) nat_cmp_total)

place_total : IsTotalOrder order_of_all
place_total = then_total (on_total (λ (p : Place). p.number) nat_cmp_total)
    (on_total (λ (p : Place). steps p.path p.attribute) (lists_total step_total))

pub place_ranks : IsStrictWeakOrder (λ (a b : Place). is_lt (order_of_all a b))
place_ranks = ranks_by place_total (λ (p : Place). p)

-- neither of two nodes comes before the other exactly where they are one node
tied : (a b : ℕ) (o : Ordering) → is_equal (if nat_eq a b then Some o else None)
    ≡ is_eq (ordering_then (nat_cmp a b) o)
tied a b o = by (nat_lt a b) (nat_eq a b) refl refl
  where
    by : (l e : Bool) → nat_lt a b ≡ l → nat_eq a b ≡ e → is_equal (if e then Some o else None)
        ≡ is_eq (ordering_then (cond l Less (cond e Equal Greater)) o)
    by true true p q = absurd (grind (arith, nat_tests))
    by true false p q = refl
    by false true p q = refl
    by false false p q = refl

turned_eq : (o : Ordering) → is_eq (ordering_reverse o) ≡ is_eq o
turned_eq Less = refl
turned_eq Equal = refl
turned_eq Greater = refl

same_is_tied : (n m : Place) → same_node n m ≡ is_eq (order_of_all m n)
unfolding same_node
same_is_tied n m = tied n.number m.number (place_cmp n m) ∙ ap is_eq (place_total.antisymm n m)
    ∙ turned_eq (order_of_all m n)

other : (n m : Place) (o : Ordering) → is_eq o ≡ false → order_of_all m n ≡ o
    → same_node n m ≡ false
other n m o u e = same_is_tied n m ∙ ap is_eq e ∙ u

-- what a binary search says
pub found : (n : Place) (xs : List Place) → IsSorted order_of_all xs → (r : Result ℕ ℕ)
    → IsSearchInRange r (length xs) → IsBinarySearchResult (λ p. order_of_all p n) xs r
    → is_ok r ≡ list_any (same_node n) xs
found n xs s (Ok i) p h =
    sym (list_any_at (same_node n) xs i n p (same_is_tied n (get_or xs i n) ∙ ap is_eq (h n)))
found n xs s (Err i) p h =
    let parts = h (searchable_from_sorted place_total (λ (q : Place). q) xs n s) in
    let none = All-from_all_within (λ (q : Place). same_node n q ≡ false) xs (λ k d a b.
    elim (cases_lt k i) [
      | inl l ↦ other n (get_or xs k d) Less refl (parts.0 k d a l)
      | inr l ↦ other n (get_or xs k d) Greater refl (parts.1 k d l b)
    ]) in
    sym (list_any_none (same_node n) xs none)

-- the nodes among the items stand for all of them
pub listed : (ys : List Item) (x : Item) → is_among ys x ≡ is_listed (places_of ys) x
unfolding is_same_item
listed [] (Node n) = refl
listed [] (Atom a) = refl
listed (Node m ∷ ys) (Node n) = ap (λ (b : Bool). same_node n m || b) (listed ys (Node n))
listed (Atom b ∷ ys) (Node n) = listed ys (Node n)
listed (Node m ∷ ys) (Atom a) = listed ys (Atom a)
listed (Atom b ∷ ys) (Atom a) = listed ys (Atom a)

-- their order tells nothing
still_listed : (ps qs : List Place) (x : Item) → IsPermutation ps qs
    → is_listed ps x ≡ is_listed qs x
still_listed ps qs (Node n) h = list_any-IsPermutation (same_node n) ps qs h
still_listed ps qs (Atom a) h = refl

pub chosen : (among : Bool) (ys : List Item) (qs : List Place) → IsPermutation (places_of ys) qs
    → (xs : List Item) → filter (is_kept among qs) xs ≡ filter (is_chosen among ys) xs
chosen among ys qs h [] = refl
chosen among ys qs h (x ∷ xs) =
    let same : is_listed qs x ≡ is_among ys x =
    sym (listed ys x ∙ still_listed (places_of ys) qs x h) in
    rw (same, chosen among ys qs h xs)
