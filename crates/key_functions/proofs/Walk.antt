-- All nodes of a tree, each followed by its attributes, are the walk over the tree.
use Rattle.std.proofs.Common.{◌≡◌, ℕ, suc, ◌+◌, List, [], ◌∷◌, ◌++◌, map, refl, sym, ap, ◌∙◌, arith}
use Rattle.std.proofs.Common.{append_assoc, length}
use Rattle.std.proofs.lemmas.Bool.{lt-ltb}
use Rattle.std.proofs.lemmas.List.Elements.{filter-append}
use Rattle.std.proofs.lemmas.List.{map-append}
use Rattle.std.specs.Prelude.{Bool, not, Some, None, slice_get}
use Rattle.std.specs.Prelude.{if◌then◌else◌}
use Rattle.std.specs.List.{filter}
use Rattle.xt_types.specs.declared.axes.Axis.TheVariants as axis
use Rattle.xt_tree.specs.declared.trees.Tree.{Tree}
use Rattle.xt_tree.specs.declared.trees.Tree.TheVariants.{Doc, Elem, Text, Comment, Pi, Attr}
use Rattle.xt_tree.specs.Forest.{Forest, end, doc, elem, text, comment, pi, attr}
use Rattle.xt_tree.specs.Place.{Place}
use Rattle.xt_tree.specs.TreeView.{trees, kids_of, attributes_of}
use Rattle.xt_tree.specs.Walk.{Spot, under, attribute_spots, spots_of}
use Rattle.node_axes.specs.Axes.{axis_nodes, in_axis_order, is_reverse, on_axis, is_attribute}
use Rattle.node_axes.specs.Axes.{is_descendant, is_itself, is_own_attribute, begins_with, same_path}
use Rattle.node_axes.specs.Axes.{place_at, same_attribute}
use Rattle.expr_meaning.specs.Outcomes.Outcome.{Every}
use Rattle.expr_meaning.specs.Paths.{root_place}
use Rattle.transform_meaning.specs.Keys.{all_nodes}
use Rattle.query_helpers.proofs.Below.{down, list_spots, no_attributes, no_more, own_at, own_step}
use Rattle.query_helpers.proofs.Below.{own_top, root_own, some_under, spots_are}

-- lists one after another
abbrev pub gathered : {A B : Type 0} → (A → List B) → List A → List B
gathered f [] = []
gathered f (x ∷ xs) = f x ++ gathered f xs

gathered_append : {A B : Type 0} (f : A → List B) (xs ys : List A) →
    gathered f (xs ++ ys) ≡ gathered f xs ++ gathered f ys
gathered_append f [] ys = refl
gathered_append f (x ∷ xs) ys =
    ap (λ z. f x ++ z) (gathered_append f xs ys)
    ∙ sym (append_assoc (f x) (gathered f xs) (gathered f ys))

pub gathered_map : {A B C : Type 0} (f : B → List C) (g : A → B) (xs : List A) →
    gathered f (map g xs) ≡ gathered (λ x. f (g x)) xs
gathered_map f g [] = refl
gathered_map f g (x ∷ xs) = ap (λ z. f (g x) ++ z) (gathered_map f g xs)

pub gathered_same : {A B : Type 0} (f g : A → List B) → ((x : A) → f x ≡ g x) → (xs : List A) →
    gathered f xs ≡ gathered g xs
gathered_same f g h [] = refl
gathered_same f g h (x ∷ xs) = λ i. h x i ++ gathered_same f g h xs i

pub map_gathered : {A B C : Type 0} (m : B → C) (f : A → List B) (xs : List A) →
    map m (gathered f xs) ≡ gathered (λ x. map m (f x)) xs
map_gathered m f [] = refl
map_gathered m f (x ∷ xs) =
    map-append m (f x) (gathered f xs) ∙ ap (λ z. map m (f x) ++ z) (map_gathered m f xs)

filter_same : {A : Type 0} (P R : A → Bool) → ((x : A) → P x ≡ R x) → (xs : List A) →
    filter P xs ≡ filter R xs
filter_same P R h [] = refl
filter_same P R h (x ∷ xs) = λ i.
    if h x i then x ∷ filter_same P R h xs i else filter_same P R h xs i

-- nodes that are no attributes, and attributes of a node
abbrev is_plain : Spot → Bool
is_plain s = not (is_attribute s)

abbrev own : Tree → Spot → List Spot
own t s = filter (is_own_attribute s) (spots_of t)

abbrev with_own : Tree → Spot → List Spot
with_own t s = s ∷ own t s

none_own : (p : List ℕ) (k : ℕ) (xs : List Spot) → filter (is_own_attribute (p, Some k)) xs ≡ []
unfolding is_own_attribute is_attribute
none_own p k [] = refl
none_own p k (s ∷ xs) = none_own p k xs

-- one step further from the root
own_under : (t kid : Tree) (i : ℕ) → slice_get (kids_of t) i ≡ Some kid → (s : Spot) →
    own t (under i s) ≡ map (under i) (own kid s)
own_under t kid i h (p, None) = down (own_at (i ∷ p)) (own_at p) i (own_step i p) (own_top i p) t kid h
own_under t kid i h (p, Some k) =
    none_own (i ∷ p) k (spots_of t)
    ∙ ap (map (under i)) (sym (none_own p k (spots_of kid)))

gathered_under : (t kid : Tree) (i : ℕ) → slice_get (kids_of t) i ≡ Some kid → (xs : List Spot) →
    gathered (with_own t) (map (under i) xs) ≡ map (under i) (gathered (with_own kid) xs)
gathered_under t kid i h xs =
    gathered_map (with_own t) (under i) xs
    ∙ gathered_same (λ s. with_own t (under i s)) (λ s. map (under i) (with_own kid s))
    (λ s. ap (λ (z : List Spot). under i s ∷ z) (own_under t kid i h s)) xs
    ∙ sym (map_gathered (under i) (with_own kid) xs)

-- the walk over a tree, node by node
abbrev Claim : Tree → Type 0
Claim t = gathered (with_own t) (filter is_plain (spots_of t)) ≡ spots_of t

plain_under : (i : ℕ) (xs : List Spot) →
    filter is_plain (map (under i) xs) ≡ map (under i) (filter is_plain xs)
unfolding is_attribute
plain_under i xs = some_under is_plain is_plain i xs (λ s. refl)

no_plain : (m : ℕ) (t : Tree) → filter is_plain (attribute_spots m (attributes_of t)) ≡ []
unfolding is_attribute
no_plain m t = no_attributes is_plain m (attributes_of t) (λ k. refl)

kids_gathered : (t : Tree) (ts : List Tree) (j : ℕ) →
    ((d : ℕ) → slice_get (kids_of t) (j + d) ≡ slice_get ts d) → Every Claim ts →
    gathered (with_own t) (filter is_plain (list_spots j ts)) ≡ list_spots j ts
kids_gathered t [] j h all = refl
kids_gathered t (x ∷ ts) j h all =
    let zero_more : j + 0 ≡ j = omega arith in
    let here : slice_get (kids_of t) j ≡ Some x = ap (slice_get (kids_of t)) (sym zero_more) ∙ h 0 in
    ap (gathered (with_own t))
    (filter-append is_plain (map (under j) (spots_of x)) (list_spots (suc j) ts)
    ∙ ap (λ z. z ++ filter is_plain (list_spots (suc j) ts)) (plain_under j (spots_of x)))
    ∙ gathered_append (with_own t) (map (under j) (filter is_plain (spots_of x)))
    (filter is_plain (list_spots (suc j) ts))
    ∙ ap (λ z. z ++ gathered (with_own t) (filter is_plain (list_spots (suc j) ts)))
    (gathered_under t x j here (filter is_plain (spots_of x)) ∙ ap (map (under j)) all.0)
    ∙ ap (λ z. map (under j) (spots_of x) ++ z)
    (kids_gathered t ts (suc j)
    (λ d. let same : suc j + d ≡ j + suc d = omega arith in ap (slice_get (kids_of t)) same ∙ h (suc d))
    all.1)

tree_gathered : (t : Tree) → Every Claim (kids_of t) → Claim t
unfolding is_attribute
tree_gathered t all =
    let kids = list_spots 0 (kids_of t) in
    ap (λ z. gathered (with_own t) (filter is_plain z)) (spots_are t)
    ∙ ap (λ z. gathered (with_own t) (([], None) ∷ z))
    (filter-append is_plain (attribute_spots 0 (attributes_of t)) kids
    ∙ ap (λ z. z ++ filter is_plain kids) (no_plain 0 t))
    ∙ ap (λ z. ([], None) ∷ (z ++ gathered (with_own t) (filter is_plain kids))) (root_own t)
    ∙ ap (λ z. ([], None) ∷ (attribute_spots 0 (attributes_of t) ++ z))
    (kids_gathered t (kids_of t) 0 (λ d. ap (slice_get (kids_of t)) (no_more d)) all)
    ∙ sym (spots_are t)

forest_gathered : (f : Forest) → Every Claim (trees f)
forest_gathered end = tt
forest_gathered (doc kids rest) =
    (tree_gathered (Doc kids) (forest_gathered kids), forest_gathered rest)
forest_gathered (elem name attributes kids rest) =
    (tree_gathered (Elem name attributes kids) (forest_gathered kids), forest_gathered rest)
forest_gathered (text t rest) = (tree_gathered (Text t) tt, forest_gathered rest)
forest_gathered (comment t rest) = (tree_gathered (Comment t) tt, forest_gathered rest)
forest_gathered (pi target t rest) = (tree_gathered (Pi target t) tt, forest_gathered rest)
forest_gathered (attr name t rest) = (tree_gathered (Attr name t) tt, forest_gathered rest)

spots_gathered : (t : Tree) → Claim t
spots_gathered (Doc kids) = tree_gathered (Doc kids) (forest_gathered kids)
spots_gathered (Elem name attributes kids) =
    tree_gathered (Elem name attributes kids) (forest_gathered kids)
spots_gathered (Text t) = tree_gathered (Text t) tt
spots_gathered (Comment t) = tree_gathered (Comment t) tt
spots_gathered (Pi target t) = tree_gathered (Pi target t) tt
spots_gathered (Attr name t) = tree_gathered (Attr name t) tt

-- from the root all nodes are itself or descendants
below_root : (s : Spot) → on_axis axis.DescendantOrSelf ([], None) s ≡ is_plain s
unfolding on_axis is_itself is_descendant is_attribute begins_with same_path same_attribute
below_root ([], None) = refl
below_root (i ∷ p, None) = lt-ltb 0 (suc (length p)) (omega arith)
below_root ([], Some k) = refl
below_root (i ∷ p, Some k) = refl

abbrev pub with_attributes_of : Place → List Place
with_attributes_of m = m ∷ axis_nodes axis.Attribute m

pub nodes_gathered : (n : Place) →
    gathered with_attributes_of (axis_nodes axis.DescendantOrSelf (root_place n))
    ≡ all_nodes (root_place n)
unfolding axis_nodes in_axis_order is_reverse on_axis
nodes_gathered n =
    let root = root_place n in
    ap (λ z. gathered with_attributes_of (map (place_at root) z))
    (filter_same (on_axis axis.DescendantOrSelf ([], None)) is_plain below_root (spots_of n.tree))
    ∙ gathered_map with_attributes_of (place_at root) (filter is_plain (spots_of n.tree))
    ∙ sym (map_gathered (place_at root) (with_own n.tree) (filter is_plain (spots_of n.tree)))
    ∙ ap (map (place_at root)) (spots_gathered n.tree)
