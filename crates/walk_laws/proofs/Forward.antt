-- Nodes along a forward axis are in document order.
use Rattle.std.proofs.Common.{◌≡◌, ℕ, ◌+◌, List, [], ◌∷◌, map, Bool, true, false, cond, refl, ap, subst}
use Rattle.std.specs.Prelude.{if◌then◌else◌}
use Rattle.std.specs.List.{filter, AllByRecursion}
use Rattle.std.specs.List.Sorted.{IsStrictlySortedBy}
use Rattle.std.specs.declared.cmp.Ordering.TheVariants.{Less}
use Rattle.std.proofs.lemmas.List.Kept.{IsStrictlySortedBy-filter}
use Rattle.xt_types.specs.declared.axes.Axis.{Axis}
use Rattle.xt_types.specs.declared.node_tests.Test.{Test}
use Rattle.xt_tree.specs.Place.{Place, place_cmp}
use Rattle.xt_tree.specs.Walk.{spots_of}
use Rattle.node_tests.specs.Tests.{passes_at}
use Rattle.node_axes.specs.Axes.{axis_nodes, in_axis_order, is_reverse, on_axis, place_at, spot_of}
use Rattle.node_axes.specs.StepWalks.Nodes.{Focus, kept_from, kept_by, kept_by_all, in_tree_order, step_nodes}
use Rattle.node_axes.proofs.StepWalks.NodeLemmas.{found_by_step, step_found_within}
use Rattle.node_axes.proofs.StepWalks.OrderLemmas.{spots_sorted, one_sorted, tree_order_sorted, in_tree_order_from, in_tree_order_to}

-- predicates leave the order as it is

abbrev Leads : Place → List Place → Type 0
Leads x ys = AllByRecursion (λ y. place_cmp x y ≡ Less) ys

leads_kept : (x : Place) (holds : Focus → Bool) (size at : ℕ) (ys : List Place) → Leads x ys →
    Leads x (kept_from holds size at ys)
unfolding kept_from
leads_kept x holds size at [] l = tt
leads_kept x holds size at (y ∷ ys) l =
    by (holds (record { node = y; position = at; size = size })) (leads_kept x holds size (at + 1) ys l.1)
  where
    by : (b : Bool) → Leads x (kept_from holds size (at + 1) ys) →
        Leads x (if b then y ∷ kept_from holds size (at + 1) ys else kept_from holds size (at + 1) ys)
    by true r = (l.0, r)
    by false r = r

sorted_kept : (holds : Focus → Bool) (size at : ℕ) (ys : List Place) →
    IsStrictlySortedBy place_cmp ys → IsStrictlySortedBy place_cmp (kept_from holds size at ys)
unfolding kept_from IsStrictlySortedBy
sorted_kept holds size at [] s = tt
sorted_kept holds size at (y ∷ ys) s =
    by (holds (record { node = y; position = at; size = size })) (sorted_kept holds size (at + 1) ys s.1)
  where
    by : (b : Bool) → IsStrictlySortedBy place_cmp (kept_from holds size (at + 1) ys) →
        IsStrictlySortedBy place_cmp
        (if b then y ∷ kept_from holds size (at + 1) ys else kept_from holds size (at + 1) ys)
    by true r = (leads_kept y holds size (at + 1) ys s.0, r)
    by false r = r

sorted_kept_all : (tests : List (Focus → Bool)) (ys : List Place) →
    IsStrictlySortedBy place_cmp ys → IsStrictlySortedBy place_cmp (kept_by_all tests ys)
unfolding kept_by_all kept_by
sorted_kept_all [] ys s = s
sorted_kept_all (holds ∷ more) ys s =
    sorted_kept_all more (kept_by holds ys) (sorted_kept holds _ 1 ys s)

-- the axis

filter_map : {A B : Type 0} (p : B → Bool) (f : A → B) (xs : List A) →
    filter p (map f xs) ≡ map f (filter (λ x. p (f x)) xs)
filter_map p f [] = refl
filter_map p f (x ∷ xs) = by (p (f x)) (filter_map p f xs)
  where
    by : (b : Bool) → filter p (map f xs) ≡ map f (filter (λ y. p (f y)) xs) →
        cond b (f x ∷ filter p (map f xs)) (filter p (map f xs))
        ≡ map f (cond b (x ∷ filter (λ y. p (f y)) xs) (filter (λ y. p (f y)) xs))
    by true e = ap (λ ys. f x ∷ ys) e
    by false e = e

axis_sorted : (along : Axis) (n : Place) → is_reverse along ≡ false →
    IsStrictlySortedBy place_cmp (axis_nodes along n)
unfolding axis_nodes in_axis_order
axis_sorted along n h =
    let p : Place → Bool = (λ m. on_axis along (spot_of n) (spot_of m)) in
    rw h (subst (IsStrictlySortedBy place_cmp) (filter_map p (place_at n) (spots_of n.tree))
    (IsStrictlySortedBy-filter place_cmp p (map (place_at n) (spots_of n.tree)) (spots_sorted n)))

pub found_sorted : (along : Axis) (wanted : Test) (tests : List (Focus → Bool)) (n : Place) →
    is_reverse along ≡ false → IsStrictlySortedBy place_cmp (found_by_step along wanted tests n)
found_sorted along wanted tests n h =
    sorted_kept_all tests _ (IsStrictlySortedBy-filter place_cmp (passes_at along wanted)
    (axis_nodes along n) (axis_sorted along n h))

pub forward_law : (along : Axis) (wanted : Test) (tests : List (Focus → Bool)) (n : Place) →
    is_reverse along ≡ false → step_nodes along wanted tests n ≡ found_by_step along wanted tests n
unfolding step_nodes
forward_law along wanted tests n h =
    let found = found_by_step along wanted tests n in
    let within = step_found_within along wanted tests n in
    one_sorted (in_tree_order n found) found (tree_order_sorted n found)
    (found_sorted along wanted tests n h) (λ m i. in_tree_order_from n m found within i)
    (λ m i. in_tree_order_to n m found within i)
