-- Nodes of one tree in document order, as items and as places.
use Rattle.std.proofs.Common.{◌≡◌, List, [], ◌∷◌, map, refl, sym, ap, ◌∙◌, subst}
use Rattle.std.specs.Prelude.{Bool, true, false, cond, if◌then◌else◌}
use Rattle.std.specs.Cmp.{IsStrictWeakOrder}
use Rattle.std.specs.List.{dedup, dedup_from}
use Rattle.std.specs.List.Sorted.{IsPermutation}
use Rattle.std.specs.Ordering.{is_lt, is_eq, eq_by_cmp}
use Rattle.std.proofs.lemmas.Cmp.{nat_cmp_total, on_total, then_total, tied_itself}
use Rattle.std.specs.Cmp.{IsTotalOrder}
use Rattle.std.proofs.lemmas.List.Sorted.{IsPermutation-refl, IsPermutation-sym, IsPermutation-trans}
use Rattle.std.proofs.lemmas.List.Sorted.{IsPermutation-cons, IsPermutation-middle}
use Rattle.std.proofs.lemmas.Simd.{map-map}
use Rattle.std.proofs.Common.{ℕ}
use Rattle.xt_tree.specs.Place.{Place, step_cmp, place_cmp}
use Rattle.xt_tree.specs.Walk.{Spot}
use Rattle.xdm_items.specs.declared.items.Item.{Item}
use Rattle.xdm_items.specs.declared.items.Item.TheVariants.{Node}
use Rattle.order_group.proofs.Natural.{natural}
use Rattle.order_group.proofs.Orders.{the_order}
use Rattle.node_axes.specs.Axes.{spot_of, place_at}
use Rattle.node_axes.specs.StepWalks.Nodes.{in_tree_order}
use Rattle.node_axes.specs.StepWalks.Within.{IsWithin, AreWithin}
use Rattle.node_axes.proofs.StepWalks.OrderLemmas.{place_ranks, sorted_once}
use Rattle.lazy_seq.specs.Orders.{item_cmp, item_key, stands_before, in_document_order}
use Rattle.lazy_seq.proofs.OrderLemmas.{item_ranks}
use Rattle.lazy_seq.proofs.StableLemmas.{is_stable_order}
use Rattle.xt_names.specs.Lists.{put_in, stable_order, stable_order as order_of_items}

-- a stable order has the elements of the list

swapped : {X : Type 0} (x y : X) (ys : List X) → IsPermutation (x ∷ y ∷ ys) (y ∷ x ∷ ys)
swapped x y ys = IsPermutation-sym _ _ (IsPermutation-middle (y ∷ []) x ys)

put_shuffles : {X : Type 0} (below : X → X → Bool) (x : X) (ys : List X) →
    IsPermutation (x ∷ ys) (put_in below x ys)
put_shuffles below x [] = IsPermutation-refl (x ∷ [])
put_shuffles below x (y ∷ ys) = by (below y x) (put_shuffles below x ys)
  where
    by : (b : Bool) → IsPermutation (x ∷ ys) (put_in below x ys) →
        IsPermutation (x ∷ y ∷ ys) (if b then y ∷ put_in below x ys else x ∷ y ∷ ys)
    by true p = IsPermutation-trans _ _ _ (swapped x y ys) (IsPermutation-cons y _ _ p)
    by false p = IsPermutation-refl (x ∷ y ∷ ys)

order_shuffles : {X : Type 0} (below : X → X → Bool) (xs : List X) →
    IsPermutation xs (stable_order below xs)
unfolding stable_order
order_shuffles below [] = IsPermutation-refl []
order_shuffles below (x ∷ xs) =
    IsPermutation-trans _ _ _ (IsPermutation-cons x _ _ (order_shuffles below xs))
    (put_shuffles below x (stable_order below xs))

-- the two words for it
one_order : {X : Type 0} (below : X → X → Bool) (o : IsStrictWeakOrder below) (xs : List X) →
    order_of_items below xs ≡ stable_order below xs
one_order below o xs =
    let s = the_order below o xs in
    sym (is_stable_order below o xs (stable_order below xs) s.is.sorted s.is.stable)

-- what is left of a list without doubles, of elements that are made of others

from_map : {X Y : Type 0} (e : Y → Y → Bool) (f : X → Y) (k : X) (xs : List X) →
    dedup_from e (f k) (map f xs) ≡ map f (dedup_from (λ a b. e (f a) (f b)) k xs)
from_map e f k [] = refl
from_map e f k (x ∷ xs) = by (e (f x) (f k)) (from_map e f k xs) (from_map e f x xs)
  where
    by : (b : Bool) →
        dedup_from e (f k) (map f xs) ≡ map f (dedup_from (λ a b. e (f a) (f b)) k xs) →
        dedup_from e (f x) (map f xs) ≡ map f (dedup_from (λ a b. e (f a) (f b)) x xs) →
        cond b (dedup_from e (f k) (map f xs)) (f k ∷ dedup_from e (f x) (map f xs))
        ≡ map f (cond b (dedup_from (λ a b. e (f a) (f b)) k xs)
        (k ∷ dedup_from (λ a b. e (f a) (f b)) x xs))
    by true h g = h
    by false h g = ap (λ ys. f k ∷ ys) g

dedup_map : {X Y : Type 0} (e : Y → Y → Bool) (f : X → Y) (xs : List X) →
    dedup e (map f xs) ≡ map f (dedup (λ a b. e (f a) (f b)) xs)
dedup_map e f [] = refl
dedup_map e f (x ∷ xs) = from_map e f x xs

-- nodes of one tree

step_total : IsTotalOrder step_cmp
step_total = then_total (on_total (λ (s : ℕ × ℕ). s.0) nat_cmp_total)
    (on_total (λ (s : ℕ × ℕ). s.1) nat_cmp_total)

same_tree : (n : Place) (s t : Spot) →
    item_cmp (Node (place_at n s)) (Node (place_at n t)) ≡ place_cmp (place_at n s) (place_at n t)
unfolding item_cmp item_key
same_tree n s t = rw (tied_itself step_total (n.number, 0)) refl

abbrev before : Place → Place → Bool
before a b = is_lt (place_cmp a b)

abbrev spot_before : Place → Spot → Spot → Bool
spot_before n s t = before (place_at n s) (place_at n t)

abbrev spot_same : Place → Spot → Spot → Bool
spot_same n s t = is_eq (place_cmp (place_at n s) (place_at n t))

abbrev as_item : Place → Spot → Item
as_item n s = Node (place_at n s)

-- the items in a stable order are the places in a stable order
ordered_spots : (n : Place) (ss : List Spot) →
    order_of_items stands_before (map (as_item n) ss)
    ≡ map (as_item n) (stable_order (spot_before n) ss)
ordered_spots n ss =
    one_order stands_before item_ranks (map (as_item n) ss)
    ∙ natural stands_before (as_item n) ss
    ∙ ap (λ (b : Spot → Spot → Bool). map (as_item n) (stable_order b ss))
    (λ i s t. is_lt (same_tree n s t i))

once_spots : (n : Place) (ss : List Spot) →
    dedup (eq_by_cmp item_cmp) (map (as_item n) ss) ≡ map (as_item n) (dedup (spot_same n) ss)
once_spots n ss =
    dedup_map (eq_by_cmp item_cmp) (as_item n) ss
    ∙ ap (λ (e : Spot → Spot → Bool). map (as_item n) (dedup e ss))
    (λ i s t. is_eq (same_tree n s t i))

placed_once : (n : Place) (ss : List Spot) →
    map (place_at n) (dedup (spot_same n) (stable_order (spot_before n) ss))
    ≡ dedup (eq_by_cmp place_cmp) (stable_order before (map (place_at n) ss))
placed_once n ss =
    sym (dedup_map (eq_by_cmp place_cmp) (place_at n) (stable_order (spot_before n) ss))
    ∙ ap (dedup (eq_by_cmp place_cmp)) (sym (natural before (place_at n) ss))

spots_in_order : (n : Place) (ss : List Spot) → AreWithin n (map (place_at n) ss) →
    in_document_order (map Node (map (place_at n) ss))
    ≡ map Node (in_tree_order n (map (place_at n) ss))
spots_in_order n ss w =
    ap in_document_order (map-map Node (place_at n) ss)
    ∙ ap (dedup (eq_by_cmp item_cmp)) (ordered_spots n ss)
    ∙ once_spots n (stable_order (spot_before n) ss)
    ∙ sym (map-map Node (place_at n) (dedup (spot_same n) (stable_order (spot_before n) ss)))
    ∙ ap (map Node) (placed_once n ss)
    ∙ ap (map Node) (sorted_once n (map (place_at n) ss) (stable_order before (map (place_at n) ss))
    _ w (the_order before place_ranks (map (place_at n) ss)).is.sorted
    (order_shuffles before (map (place_at n) ss)) refl)

at_own_spot : (n m : Place) → IsWithin n m → place_at n (spot_of m) ≡ m
at_own_spot n m h = λ i. (let r : Place = record {
  number = sym h.number_is i;
  tree = sym h.tree_is i;
  path = m.path;
  attribute = m.attribute;
} in r)

at_own_spots : (n : Place) (ms : List Place) → AreWithin n ms →
    map (place_at n) (map spot_of ms) ≡ ms
at_own_spots n [] w = refl
at_own_spots n (m ∷ ms) w = λ i. at_own_spot n m w.0 i ∷ at_own_spots n ms w.1 i

-- the items in document order are the nodes in the order of their tree
pub in_order_of_tree : (n : Place) (ms : List Place) → AreWithin n ms →
    in_document_order (map Node ms) ≡ map Node (in_tree_order n ms)
in_order_of_tree n ms w =
    let e = at_own_spots n ms w in
    subst (λ xs. in_document_order (map Node xs) ≡ map Node (in_tree_order n xs)) e
    (spots_in_order n (map spot_of ms) (subst (AreWithin n) (sym e) w))
