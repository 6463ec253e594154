-- A tree has as many nodes as its size says, and no axis and no path has more.
use Rattle.std.proofs.Common.{◌≡◌, ℕ, suc, ◌+◌, ◌<◌, ◌≤◌, subst, List, [], ◌∷◌, ◌++◌, map, length, refl, ap, sym, arith}
use Rattle.std.proofs.Common.{length-append}
use Rattle.std.specs.Prelude.{Bool, true, false, cond, reverse, if◌then◌else◌}
use Rattle.std.specs.List.{filter, list_any}
use Rattle.std.proofs.lemmas.List.{length-map, length-reverse}
use Rattle.std.specs.Prelude.{◌^◌, ◌&&◌, nat_le}
use Rattle.std.proofs.lemmas.Bool.{and_parts}
use Rattle.std.proofs.lemmas.Bool.Decides.{nat_tests}
use Rattle.xt_types.specs.declared.axes.Axis.{Axis}
use Rattle.xt_tree.specs.declared.attributes.Attribute.{Attribute}
use Rattle.xt_tree.specs.declared.trees.Tree.{Tree}
use Rattle.xt_tree.specs.declared.trees.Tree.TheVariants.{Doc, Elem, Text, Comment, Pi, Attr}
use Rattle.xt_tree.specs.Forest.{Forest, end, doc, elem, text, comment, pi, attr, forest_size}
use Rattle.xt_tree.specs.Sound.{is_sound_tree, is_sound_root}
use Rattle.xt_tree.specs.TreeView.{tree_size, tree_height}
use Rattle.xt_tree.specs.Place.{Place, has_place}
use Rattle.xt_tree.specs.Walk.{Spot, under, attribute_spots, node_spots, forest_spots, spots_of}
use Rattle.node_axes.specs.Axes.{axis_nodes, in_axis_order, is_reverse, is_itself, on_axis, place_at, spot_of}
use Rattle.node_axes.specs.StepWalks.Nodes.{in_tree_order}
use Rattle.node_axes.specs.StepWalks.Within.{AreWithin}
use Rattle.walk_laws.specs.NodeOrders.Counted.{IsCountable, AreCountable}

attributes_long : (i : ℕ) (attrs : List Attribute) → length (attribute_spots i attrs) ≡ length attrs
attributes_long i [] = refl
attributes_long i (a ∷ rest) = ap suc (attributes_long (suc i) rest)

node_long : (attrs : List Attribute) (below : List Spot) →
    length (node_spots attrs below) ≡ 1 + length attrs + length below
node_long attrs below =
    let a = attributes_long 0 attrs in
    let b = length-append (attribute_spots 0 attrs) below in
    omega (arith, a, b)

kid_long : (i : ℕ) (attrs : List Attribute) (below more : List Spot) →
    length (map (under i) (node_spots attrs below) ++ more)
    ≡ 1 + length attrs + length below + length more
kid_long i attrs below more =
    let a = length-append (map (under i) (node_spots attrs below)) more in
    let b = length-map (node_spots attrs below) (under i) in
    let c = node_long attrs below in
    omega (arith, a, b, c)

forest_long : (i : ℕ) (f : Forest) → length (forest_spots i f) ≡ forest_size f
forest_long i end = refl
forest_long i (doc kids rest) =
    let a = kid_long i [] (forest_spots 0 kids) (forest_spots (suc i) rest) in
    let b = forest_long 0 kids in let c = forest_long (suc i) rest in omega (arith, a, b, c)
forest_long i (elem name attrs kids rest) =
    let a = kid_long i attrs (forest_spots 0 kids) (forest_spots (suc i) rest) in
    let b = forest_long 0 kids in let c = forest_long (suc i) rest in omega (arith, a, b, c)
forest_long i (text t rest) =
    let a = kid_long i [] [] (forest_spots (suc i) rest) in
    let c = forest_long (suc i) rest in omega (arith, a, c)
forest_long i (comment t rest) =
    let a = kid_long i [] [] (forest_spots (suc i) rest) in
    let c = forest_long (suc i) rest in omega (arith, a, c)
forest_long i (pi target t rest) =
    let a = kid_long i [] [] (forest_spots (suc i) rest) in
    let c = forest_long (suc i) rest in omega (arith, a, c)
forest_long i (attr name t rest) =
    let a = kid_long i [] [] (forest_spots (suc i) rest) in
    let c = forest_long (suc i) rest in omega (arith, a, c)

pub spots_long : (t : Tree) → length (spots_of t) ≡ tree_size t
spots_long (Doc kids) =
    let a = node_long [] (forest_spots 0 kids) in let b = forest_long 0 kids in
    omega (arith, a, b)
spots_long (Elem name attrs kids) =
    let a = node_long attrs (forest_spots 0 kids) in let b = forest_long 0 kids in
    omega (arith, a, b)
spots_long (Text t) = refl
spots_long (Comment t) = refl
spots_long (Pi target t) = refl
spots_long (Attr name t) = refl

pub filter_short : {X : Type 0} (p : X → Bool) (xs : List X) → length (filter p xs) ≤ length xs
filter_short p [] = omega arith
filter_short p (x ∷ xs) = by (p x) (filter_short p xs)
  where
    by : (b : Bool) → length (filter p xs) ≤ length xs →
        length (cond b (x ∷ filter p xs) (filter p xs)) ≤ length (x ∷ xs)
    by true h = omega (arith, h)
    by false h = omega (arith, h)

turned_long : (axis : Axis) (ss : List Spot) → length (in_axis_order axis ss) ≡ length ss
unfolding in_axis_order
turned_long axis ss = by (is_reverse axis)
  where
    by : (b : Bool) → length (if b then reverse ss else ss) ≡ length ss
    by true = length-reverse ss
    by false = refl

-- no more nodes are on an axis than the tree has
pub axis_short : (axis : Axis) (n : Place) → length (axis_nodes axis n) ≤ tree_size n.tree
unfolding axis_nodes
axis_short axis n =
    let ss = filter (on_axis axis (spot_of n)) (spots_of n.tree) in
    let a = length-map (in_axis_order axis ss) (place_at n) in
    let b = turned_long axis ss in
    let c = filter_short (on_axis axis (spot_of n)) (spots_of n.tree) in
    let d = spots_long n.tree in
    omega (arith, a, b, c, d)

-- .. nor in a list in document order
pub order_short : (n : Place) (ms : List Place) → length (in_tree_order n ms) ≤ tree_size n.tree
unfolding in_tree_order
order_short n ms =
    let p : Place → Bool = (λ m. list_any (λ x. is_itself (spot_of x) (spot_of m)) ms) in
    let a = filter_short p (map (place_at n) (spots_of n.tree)) in
    let b = length-map (spots_of n.tree) (place_at n) in
    let c = spots_long n.tree in
    omega (arith, a, b, c)

-- nodes of a tree that can be counted

pub all_countable : (n : Place) (ms : List Place) → IsCountable n → AreWithin n ms → AreCountable ms
all_countable n [] c w = tt
all_countable n (m ∷ ms) c w = (
  record {
    exists = w.0.exists;
    few = subst (λ t. tree_size t < 2 ^ 63) (sym w.0.tree_is) c.few;
  },
  all_countable n ms c w.1,
)

-- sound trees

few_by_test : (n : ℕ) → nat_le n 0x7FFF_FFFF_FFFF_FFFF ≡ true → n < 2 ^ 63
few_by_test n h =
    let e : n ≤ 0x7FFF_FFFF_FFFF_FFFF = grind (arith, nat_tests) in omega (arith, e)

pub sound_law : (n : Place) → is_sound_tree n.tree ≡ true → has_place n ≡ true → IsCountable n
sound_law n s h =
    let t = n.tree in
    let size = and_parts (is_sound_root t && nat_le (tree_height t) 2000)
    (nat_le (tree_size t) 0x7FFF_FFFF_FFFF_FFFF) s in
    record { exists = h; few = few_by_test (tree_size t) size.1 }
