-- A node is among the children or attributes of its parent.
use Rattle.std.proofs.Common.{◌≡◌, ℕ, ◌+◌, ◌<◌, List, [], ◌∷◌, ◌++◌, length, get_or, take, map, refl, ap, sym, ◌∙◌, Bool, true, false, cond, inl, inr, arith, eq-eqb, nat_eq}
use Rattle.std.specs.Prelude.{◌&&◌, Option, Some, None, option_map, slice_get, nat_lt}
use Rattle.std.specs.List.{filter}
use Rattle.std.specs.Str.{bytes_eq}
use Rattle.std.proofs.lemmas.List.{take_more}
use Rattle.std.proofs.lemmas.Option.{slice_get_within}
use Rattle.std.proofs.lemmas.Bool.Decides.{nat_tests}
use Rattle.xt_types.specs.declared.axes.Axis.{Axis}
use Rattle.xt_types.specs.declared.axes.Axis.TheVariants as axis
use Rattle.xt_types.specs.declared.node_tests.Test.{Test}
use Rattle.xt_tree.specs.declared.attributes.Attribute.{Attribute}
use Rattle.xt_tree.specs.declared.trees.Tree.{Tree}
use Rattle.xt_tree.specs.Kinds.{kind_of}
use Rattle.xt_tree.specs.TreeView.{attributes_of}
use Rattle.xt_tree.specs.Place.{Place, subtree_at, subtree_below, subtree_attributes, attribute_tree, has_attribute}
use Rattle.xt_tree.specs.Walk.{Spot, spots_of}
use Rattle.xt_tree.proofs.WalkPlaces.{walk_is_exact}
use Rattle.xt_syntax.specs.declared.patterns.PatternStep.{PatternStep}
use Rattle.node_tests.specs.Tests.{passes_at, tree_passes}
use Rattle.node_axes.specs.Axes.{same_path, spot_of, place_at, axis_nodes, in_axis_order, is_reverse, on_axis, is_child, is_own_attribute, is_attribute}
use Rattle.node_axes.proofs.FilterLemmas.{In, In-from_Contains}
use Rattle.node_axes.proofs.AxisLemmas.{child_on}
use Rattle.node_axes.proofs.StepWalks.OrderLemmas.{in_filter}
use Rattle.match_patterns.specs.Patterns.{is_child_kind, stands_for, candidates}

pub path_eq : (p q : List ℕ) → bytes_eq p q ≡ same_path p q
unfolding same_path
path_eq [] [] = refl
path_eq [] (j ∷ q) = refl
path_eq (i ∷ p) [] = refl
path_eq (i ∷ p) (j ∷ q) = ap (λ (b : Bool). nat_eq i j && b) (path_eq p q)

pub path_same : (p : List ℕ) → same_path p p ≡ true
unfolding same_path
path_same [] = refl
path_same (i ∷ p) = rw (eq-eqb i i refl, path_same p) refl

-- a node that passes a test is there

pub below_there : (o : Option Tree) (a : Option ℕ) (along : Axis) (wanted : Test) → tree_passes along wanted (subtree_below o a) ≡ true → has_attribute o a ≡ true
unfolding tree_passes
below_there None None along wanted h = absurd cc
below_there None (Some i) along wanted h = absurd cc
below_there (Some t) None along wanted h = refl
below_there (Some t) (Some i) along wanted h = by (slice_get (attributes_of t) i) refl h
  where
    by : (o : Option Attribute) → slice_get (attributes_of t) i ≡ o → tree_passes along wanted (option_map attribute_tree o) ≡ true → nat_lt i (length (attributes_of t)) ≡ true
    by None e g = absurd cc
    by (Some a) e g = let l = slice_get_within (attributes_of t) i a e in grind (arith, nat_tests, l)

-- a node on the axis is among those of the axis

spot_kept : (q : Spot → Bool) (s : Spot) (ss : List Spot) → In s ss → q s ≡ true → In s (filter q ss)
spot_kept q s [] i h = absurd i
spot_kept q s (t ∷ ts) (inl e) h = let g : q t ≡ true = ap q e ∙ h in rw g (inl e)
spot_kept q s (t ∷ ts) (inr i) h = by (q t) (spot_kept q s ts i h)
  where
    by : (b : Bool) → In s (filter q ts) → In s (cond b (t ∷ filter q ts) (filter q ts))
    by true j = inr j
    by false j = j

spot_mapped : (n : Place) (s : Spot) (ss : List Spot) → In s ss → In (place_at n s) (map (place_at n) ss)
spot_mapped n s [] i = absurd i
spot_mapped n s (t ∷ ts) (inl e) = inl (ap (place_at n) e)
spot_mapped n s (t ∷ ts) (inr i) = inr (spot_mapped n s ts i)

on_forward_axis : (along : Axis) (p : Place) (s : Spot) → is_reverse along ≡ false → has_attribute (subtree_at p.tree s.0) s.1 ≡ true → on_axis along (spot_of p) s ≡ true → In (place_at p s) (axis_nodes along p)
unfolding axis_nodes in_axis_order
on_forward_axis along p s r h o =
    rw r (spot_mapped p s (filter (on_axis along (spot_of p)) (spots_of p.tree)) (spot_kept (on_axis along (spot_of p)) s (spots_of p.tree) (In-from_Contains s (spots_of p.tree) ((walk_is_exact p.tree s.0 s.1).1 h)) o))

-- the last step of the way down

pub take_all : {X : Type 0} (xs : List X) → take (length xs) xs ≡ xs
take_all [] = refl
take_all (x ∷ xs) = ap (λ z. x ∷ z) (take_all xs)

pub last_of : (i : ℕ) (path : List ℕ) → i ∷ path ≡ take (length path) (i ∷ path) ++ get_or (i ∷ path) (length path) 0 ∷ []
last_of i path =
    let l : length path < length (i ∷ path) = omega arith in
    let e : length path + 1 ≡ length (i ∷ path) = omega arith in
    sym (take_all (i ∷ path)) ∙ ap (λ (n : ℕ). take n (i ∷ path)) (sym e) ∙ take_more (i ∷ path) (length path) 0 l

child_of_above : (i : ℕ) (path : List ℕ) → is_child (take (length path) (i ∷ path), None) (i ∷ path, None) ≡ true
child_of_above i path = ap (λ (q : List ℕ). is_child (take (length path) (i ∷ path), None) (q, None)) (last_of i path) ∙ child_on (take (length path) (i ∷ path)) (get_or (i ∷ path) (length path) 0)

own_attribute : (path : List ℕ) (i : ℕ) → is_own_attribute (path, None) (path, Some i) ≡ true
unfolding is_own_attribute is_attribute
own_attribute path i = path_same path

-- the node among those beside it

no_child : {G : Type 0} (o : Option Attribute) → is_child_kind (option_map kind_of (option_map attribute_tree o)) ≡ true → G
unfolding is_child_kind
no_child None h = absurd cc
no_child (Some a) h = absurd cc

pub member_of : (along : Axis) (wanted : Test) (number : ℕ) (tree : Tree) (path : List ℕ) (attribute : Option ℕ)
    → stands_for along (record { number = number; tree = tree; path = path; attribute = attribute }) ≡ true
    → passes_at along wanted (record { number = number; tree = tree; path = path; attribute = attribute }) ≡ true
    → (s : PatternStep) → s.axis ≡ along → s.test ≡ wanted
    → In (record { number = number; tree = tree; path = path; attribute = attribute }) (candidates s (record { number = number; tree = tree; path = path; attribute = attribute }))
unfolding stands_for on_axis is_reverse
member_of axis.Attribute wanted number tree path (Some i) h p s a t =
    let parent : Place = record { number = number; tree = tree; path = path; attribute = None } in
    let n : Place = record { number = number; tree = tree; path = path; attribute = Some i } in
    rw (a, t) (in_filter (passes_at axis.Attribute wanted) n (axis_nodes axis.Attribute parent)
    (on_forward_axis axis.Attribute parent (path, Some i) refl (below_there (subtree_at tree path) (Some i) axis.Attribute wanted p) (own_attribute path i)) p)
member_of axis.Child wanted number tree path (Some i) h p s a t = no_child (slice_get (subtree_attributes (subtree_at tree path)) i) h
member_of along wanted number tree [] None h p s a t = inl refl
member_of axis.Child wanted number tree (i ∷ path) None h p s a t =
    let parent : Place = record { number = number; tree = tree; path = take (length path) (i ∷ path); attribute = None } in
    let n : Place = record { number = number; tree = tree; path = i ∷ path; attribute = None } in
    rw (a, t) (in_filter (passes_at axis.Child wanted) n (axis_nodes axis.Child parent)
    (on_forward_axis axis.Child parent (i ∷ path, None) refl (below_there (subtree_at tree (i ∷ path)) None axis.Child wanted p) (child_of_above i path)) p)
member_of along wanted number tree path attribute h p s a t = absurd cc
