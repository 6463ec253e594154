-- The axes of a path (XPath 2.0, 3.2.1.1): which nodes of the tree are on an axis of a node, and in which order.
use Rattle.std.specs.Prelude.{ℕ, ◌+◌, List, [], ◌∷◌, map, filter, reverse, length, Bool, true, false, not, ◌&&◌, ◌||◌, nat_lt, nat_eq, if◌then◌else◌, Option, Some, None, is_some}
use Rattle.std.specs.declared.cmp.Ordering.{Ordering}
use Rattle.std.specs.declared.cmp.Ordering.TheVariants.{Less, Equal, Greater}
use Rattle.xt_tree.specs.Place.{Place}
use Rattle.xt_tree.specs.Walk.{Spot, spots_of, spot_cmp}
use Rattle.xt_types.specs.declared.axes.Axis.{Axis}
use Rattle.xt_types.specs.declared.axes.Axis.TheVariants.{Child, Descendant, Attribute, Itself, DescendantOrSelf, FollowingSibling, Following, Parent, Ancestor, PrecedingSibling, Preceding, AncestorOrSelf}

-- whether the second path begins with the first
unfoldable pub begins_with : List ℕ → List ℕ → Bool
begins_with [] q = true
begins_with (i ∷ p) [] = false
begins_with (i ∷ p) (j ∷ q) = nat_eq i j && begins_with p q

unfoldable pub same_path : List ℕ → List ℕ → Bool
same_path [] [] = true
same_path [] (j ∷ q) = false
same_path (i ∷ p) [] = false
same_path (i ∷ p) (j ∷ q) = nat_eq i j && same_path p q

unfoldable pub same_attribute : Option ℕ → Option ℕ → Bool
same_attribute None None = true
same_attribute None (Some j) = false
same_attribute (Some i) None = false
same_attribute (Some i) (Some j) = nat_eq i j

-- whether the two are children of one node, and the first comes before the second
unfoldable pub is_later_sibling : List ℕ → List ℕ → Bool
is_later_sibling [] q = false
is_later_sibling (i ∷ p) [] = false
is_later_sibling (i ∷ []) (j ∷ []) = nat_lt i j
is_later_sibling (i ∷ []) (j ∷ k ∷ q) = false
is_later_sibling (i ∷ h ∷ p) (j ∷ q) = nat_eq i j && is_later_sibling (h ∷ p) q

unfoldable pub is_less : Ordering → Bool
is_less Less = true
is_less Equal = false
is_less Greater = false

-- whether the first comes before the second in document order
unfoldable pub is_before : Spot → Spot → Bool
is_before s t = is_less (spot_cmp s t)

unfoldable pub is_attribute : Spot → Bool
is_attribute s = is_some s.1

-- how many steps lead from the root to the node; the step to an attribute counts
unfoldable pub way_length : Spot → ℕ
way_length s = length s.0 + (if is_some s.1 then 1 else 0)

-- The second is on the axis of the first. No attribute is a child or a descendant, and an attribute has neither.
unfoldable pub is_child : Spot → Spot → Bool
is_child n m = not (is_attribute n) && not (is_attribute m) && begins_with n.0 m.0 && nat_eq (length m.0) (length n.0 + 1)

unfoldable pub is_descendant : Spot → Spot → Bool
is_descendant n m = not (is_attribute n) && not (is_attribute m) && begins_with n.0 m.0 && nat_lt (length n.0) (length m.0)

-- the attributes of that element
unfoldable pub is_own_attribute : Spot → Spot → Bool
is_own_attribute n m = not (is_attribute n) && is_attribute m && same_path n.0 m.0

unfoldable pub is_itself : Spot → Spot → Bool
is_itself n m = same_path n.0 m.0 && same_attribute n.1 m.1

unfoldable pub is_parent : Spot → Spot → Bool
is_parent n m = not (is_attribute m) && begins_with m.0 n.0 && nat_eq (way_length n) (way_length m + 1)

unfoldable pub is_ancestor : Spot → Spot → Bool
is_ancestor n m = not (is_attribute m) && begins_with m.0 n.0 && nat_lt (way_length m) (way_length n)

-- an attribute has no sibling
unfoldable pub is_following_sibling : Spot → Spot → Bool
is_following_sibling n m = not (is_attribute n) && not (is_attribute m) && is_later_sibling n.0 m.0

unfoldable pub is_preceding_sibling : Spot → Spot → Bool
is_preceding_sibling n m = not (is_attribute n) && not (is_attribute m) && is_later_sibling m.0 n.0

-- after the node in document order, no attribute, no descendant
unfoldable pub is_following : Spot → Spot → Bool
is_following n m = is_before n m && not (is_attribute m) && not (is_descendant n m)

-- before the node in document order, no attribute, no ancestor
unfoldable pub is_preceding : Spot → Spot → Bool
is_preceding n m = is_before m n && not (is_attribute m) && not (is_ancestor n m)

unfoldable pub on_axis : Axis → Spot → Spot → Bool
on_axis Child n m = is_child n m
on_axis Descendant n m = is_descendant n m
on_axis Attribute n m = is_own_attribute n m
on_axis Itself n m = is_itself n m
on_axis DescendantOrSelf n m = is_itself n m || is_descendant n m
on_axis FollowingSibling n m = is_following_sibling n m
on_axis Following n m = is_following n m
on_axis Parent n m = is_parent n m
on_axis Ancestor n m = is_ancestor n m
on_axis PrecedingSibling n m = is_preceding_sibling n m
on_axis Preceding n m = is_preceding n m
on_axis AncestorOrSelf n m = is_itself n m || is_ancestor n m

-- the axes that run against document order
unfoldable pub is_reverse : Axis → Bool
is_reverse Child = false
is_reverse Descendant = false
is_reverse Attribute = false
is_reverse Itself = false
is_reverse DescendantOrSelf = false
is_reverse FollowingSibling = false
is_reverse Following = false
is_reverse Parent = true
is_reverse Ancestor = true
is_reverse PrecedingSibling = true
is_reverse Preceding = true
is_reverse AncestorOrSelf = true

unfoldable pub in_axis_order : Axis → List Spot → List Spot
in_axis_order axis spots = if is_reverse axis then reverse spots else spots

abbrev pub spot_of : Place → Spot
spot_of n = (n.path, n.attribute)

-- the node at the spot of the same tree
abbrev pub place_at : Place → Spot → Place
place_at n s = record n { path = s.0; attribute = s.1 }

-- the nodes of the axis: those of all nodes of the tree that are on it
unfoldable pub axis_nodes : Axis → Place → List Place
axis_nodes axis n = map (place_at n) (in_axis_order axis (filter (on_axis axis (spot_of n)) (spots_of n.tree)))
