-- Whether some node of an axis upwards passes.
use Rattle.std.proofs.Common.{◌≡◌, ℕ, List, [], ◌∷◌, ◌++◌, length, map, take, reverse, refl, ap}
use Rattle.std.proofs.Common.{sym, ◌∙◌}
use Rattle.std.proofs.Common.{Bool, true, false, inl, inr, get_or}
use Rattle.std.specs.Prelude.{◌&&◌, ◌||◌, if◌then◌else◌, Option, Some, None, is_some}
use Rattle.std.specs.List.{filter, list_any}
use Rattle.std.specs.Option.{option_to_list}
use Rattle.std.proofs.lemmas.List.Sorted.{IsPermutation-reverse, list_any-IsPermutation}
use Rattle.xt_types.specs.declared.axes.Axis.{Axis}
use Rattle.xt_types.specs.declared.axes.Axis.TheVariants as axis
use Rattle.xt_types.specs.declared.node_tests.Test.TheVariants as test
use Rattle.xt_tree.specs.declared.trees.Tree.{Tree}
use Rattle.xt_tree.specs.Place.{Place, has_attribute, has_place, parent_of, subtree_at}
use Rattle.xt_tree.specs.Walk.{Spot, spots_of}
use Rattle.xt_tree.proofs.PlaceLemmas.{above_exists}
use Rattle.xt_tree.proofs.WalkPlaces.{walk_is_exact}
use Rattle.node_tests.specs.Tests.{passes_at, passes_test, tree_passes}
use Rattle.node_axes.specs.Axes.{axis_nodes, in_axis_order, is_attribute, is_itself, is_parent}
use Rattle.node_axes.specs.Axes.{is_reverse}
use Rattle.node_axes.specs.Axes.{on_axis, place_at, spot_of}
use Rattle.node_axes.proofs.AxisLemmas.{parent_parts, parent_on, owner_parts, owner_on}
use Rattle.node_axes.proofs.FilterLemmas.{In, In-from_Contains}
use Rattle.node_axes.proofs.UpLemmas.{itself_is, itself_on}
use Rattle.node_axes.specs.StepWalks.Within.{IsWithin, AreWithin}
use Rattle.node_axes.proofs.StepWalks.NodeLemmas.{axis_within}
use Rattle.walk_laws.proofs.QuietValues.Names.{tree_there}
use Rattle.match_patterns.specs.Patterns.{above}
use Rattle.match_patterns.proofs.MemberLemmas.{last_of}
use Rattle.pattern_paths.specs.Upwards.{towards}
use Rattle.xt_names.proofs.ListLemmas.{any_filter, any_map, any_same}
use Rattle.std.proofs.Math.Bool.{or-false, or-true}
use Rattle.match_patterns.proofs.AboveLemmas.{owner_there}

-- lists of which some element passes

pub any_within : (p q : Place → Bool) (n : Place) (ms : List Place) → AreWithin n ms →
    ((m : Place) → IsWithin n m → p m ≡ q m) → list_any p ms ≡ list_any q ms
any_within p q n [] w h = refl
any_within p q n (m ∷ ms) w h = rw (h m w.0, any_within p q n ms w.1 h) refl

pub none_any : {X : Type 0} (xs : List X) → list_any (λ (x : X). false) xs ≡ false
none_any [] = refl
none_any (x ∷ xs) = none_any xs

pub agree : (a b : Bool) → (a ≡ true → b ≡ true) → (b ≡ true → a ≡ true) → a ≡ b
agree true b f g = sym (f refl)
agree false true f g = g refl
agree false false f g = refl

-- an axis, as those of all spots of the tree that are on it

on : (Place → Bool) → Axis → Place → Spot → Bool
on P along n s = on_axis along (spot_of n) s && P (place_at n s)

in_order_any : (P : Place → Bool) (n : Place) (b : Bool) (ss : List Spot) →
    list_any P (map (place_at n) (if b then reverse ss else ss)) ≡ list_any (λ s. P (place_at n s))
    ss
in_order_any P n true ss =
    any_map P (place_at n) (reverse ss)
    ∙ sym (list_any-IsPermutation (λ s. P (place_at n s)) ss (reverse ss)
    (IsPermutation-reverse ss))
in_order_any P n false ss = any_map P (place_at n) ss

axis_any : (P : Place → Bool) (along : Axis) (n : Place) →
    list_any P (axis_nodes along n) ≡ list_any (on P along n) (spots_of n.tree)
unfolding axis_nodes in_axis_order on
axis_any P along n =
    in_order_any P n (is_reverse along) (filter (on_axis along (spot_of n)) (spots_of n.tree))
    ∙ any_filter (λ s. P (place_at n s)) (on_axis along (spot_of n)) (spots_of n.tree)

-- one spot among all

not_here : (Q : Spot → Bool) (u : Spot) (ss : List Spot) → Q u ≡ false →
    list_any (λ s. is_itself u s && Q s) ss ≡ false
not_here Q u ss h = any_same (λ s. is_itself u s && Q s) (λ s. false) ss each ∙ none_any ss
  where
    by : (s : Spot) (b : Bool) → is_itself u s ≡ b → (b && Q s) ≡ false
    by s true e = ap Q (sym (itself_is u s e)) ∙ h
    by s false e = refl

    each : (s : Spot) → (is_itself u s && Q s) ≡ false
    each s = by s (is_itself u s) refl

is_here : (Q : Spot → Bool) (u : Spot) (ss : List Spot) → In u ss → Q u ≡ true →
    list_any (λ s. is_itself u s && Q s) ss ≡ true
is_here Q u [] i h = absurd i
is_here Q u (s ∷ ss) (inl e) h =
    let a : is_itself u s ≡ true = ap (is_itself u) e ∙ itself_on u in
    let b : Q s ≡ true = ap Q e ∙ h in
    rw (a, b) refl
is_here Q u (s ∷ ss) (inr i) h =
    ap (λ (z : Bool). (is_itself u s && Q s) || z) (is_here Q u ss i h)
    ∙ or-true (is_itself u s && Q s)

one_spot : (Q : Spot → Bool) (u : Spot) (ss : List Spot) → In u ss →
    list_any (λ s. is_itself u s && Q s) ss ≡ Q u
one_spot Q u ss i = by (Q u) refl
  where
    by : (b : Bool) → Q u ≡ b → list_any (λ s. is_itself u s && Q s) ss ≡ b
    by true h = is_here Q u ss i h
    by false h = not_here Q u ss h

there : (t : Tree) (p : List ℕ) (a : Option ℕ) → has_attribute (subtree_at t p) a ≡ true →
    In (p, a) (spots_of t)
there t p a h = In-from_Contains (p, a) (spots_of t) ((walk_is_exact t p a).1 h)

-- an axis with one node
axis_of_one : (P : Place → Bool) (along : Axis) (n : Place) (u : Spot) → In u (spots_of n.tree) →
    ((s : Spot) → on_axis along (spot_of n) s ≡ is_itself u s) →
    list_any P (axis_nodes along n) ≡ P (place_at n u)
unfolding on
axis_of_one P along n u i h =
    axis_any P along n
    ∙ any_same (on P along n) (λ s. is_itself u s && P (place_at n s)) (spots_of n.tree)
    (λ s. ap (λ (b : Bool). b && P (place_at n s)) (h s))
    ∙ one_spot (λ s. P (place_at n s)) u (spots_of n.tree) i

-- .. and one with none
axis_of_none : (P : Place → Bool) (along : Axis) (n : Place) →
    ((s : Spot) → on_axis along (spot_of n) s ≡ false) → list_any P (axis_nodes along n) ≡ false
unfolding on
axis_of_none P along n h =
    axis_any P along n
    ∙ any_same (on P along n) (λ s. false) (spots_of n.tree)
    (λ s. ap (λ (b : Bool). b && P (place_at n s)) (h s))
    ∙ none_any (spots_of n.tree)

-- the node itself
itself_axis : (n s : Spot) → on_axis axis.Itself n s ≡ is_itself n s
unfolding on_axis
itself_axis n s = refl

pub itself_any : (P : Place → Bool) (n : Place) → has_place n ≡ true →
    list_any P (axis_nodes axis.Itself n) ≡ P n
itself_any P n h =
    axis_of_one P axis.Itself n (spot_of n) (there n.tree n.path n.attribute h)
    (itself_axis (spot_of n))

-- the parent

parent_axis : (n s : Spot) → on_axis axis.Parent n s ≡ is_parent n s
unfolding on_axis
parent_axis n s = refl

not_both : (b : Bool) → false ≡ (b && false)
not_both true = refl
not_both false = refl

attribute_parent : (n : Spot) (q : List ℕ) (j : ℕ) → is_parent n (q, Some j) ≡ false
unfolding is_parent is_attribute
attribute_parent n q j = refl

attribute_itself : (p q : List ℕ) (j : ℕ) → is_itself (p, None) (q, Some j) ≡ false
attribute_itself p q j = by (is_itself (p, None) (q, Some j)) refl
  where
    by : (b : Bool) → is_itself (p, None) (q, Some j) ≡ b → is_itself (p, None) (q, Some j) ≡ false
    by true e =
        let g : false ≡ true = ap (λ (s : Spot). is_some s.1)
        (itself_is (p, None) (q, Some j) e) in absurd cc
    by false e = e

owner_spot : (p : List ℕ) (k : ℕ) (s : Spot) → is_parent (p, Some k) s ≡ is_itself (p, None) s
owner_spot p k (q, Some j) = attribute_parent (p, Some k) q j ∙ sym (attribute_itself p q j)
owner_spot p k (q, None) =
    agree (is_parent (p, Some k) (q, None)) (is_itself (p, None) (q, None))
    (λ h. ap (λ (z : List ℕ). is_itself (p, None) (z, None)) (owner_parts p q k h)
    ∙ itself_on (p, None))
    (λ h. (let e : p ≡ q = ap (λ (s : Spot). s.0) (itself_is (p, None) (q, None) h) in
    ap (λ (z : List ℕ). is_parent (p, Some k) (z, None)) (sym e) ∙ owner_on p k))

last_apart : (p q : List ℕ) (i j : ℕ) → p ++ i ∷ [] ≡ q ++ j ∷ [] → p ≡ q
last_apart [] [] i j e = refl
last_apart [] (y ∷ []) i j e = absurd cc
last_apart [] (y ∷ z ∷ q) i j e = absurd cc
last_apart (x ∷ []) [] i j e = absurd cc
last_apart (x ∷ z ∷ p) [] i j e = absurd cc
last_apart (x ∷ p) (y ∷ q) i j e =
    let a : x ≡ y = cc in
    let b : p ++ i ∷ [] ≡ q ++ j ∷ [] = cc in
    ap (λ z. z ∷ p) a ∙ ap (λ z. y ∷ z) (last_apart p q i j b)

longer_spot : (p : List ℕ) (z : ℕ) (s : Spot) → is_parent (p ++ z ∷ [], None) s
    ≡ is_itself (p, None) s
longer_spot p z (q, Some j) = attribute_parent (p ++ z ∷ [], None) q j
    ∙ sym (attribute_itself p q j)
longer_spot p z (q, None) =
    agree (is_parent (p ++ z ∷ [], None) (q, None)) (is_itself (p, None) (q, None))
    (λ h. (let r = parent_parts (p ++ z ∷ []) q h in
    ap (λ (y : List ℕ). is_itself (p, None) (y, None)) (sym (last_apart p q z r.0 r.1))
    ∙ itself_on (p, None)))
    (λ h. (let e : p ≡ q = ap (λ (s : Spot). s.0) (itself_is (p, None) (q, None) h) in
    ap (λ (y : List ℕ). is_parent (p ++ z ∷ [], None) (y, None)) (sym e) ∙ parent_on p z))

root_spot : (s : Spot) → is_parent ([], None) s ≡ false
root_spot (q, Some j) = attribute_parent ([], None) q j
root_spot (q, None) = by (is_parent ([], None) (q, None)) refl
  where
    empty : (q : List ℕ) (j : ℕ) → [] ≡ q ++ j ∷ [] → ⊥
    empty [] j e = absurd cc
    empty (x ∷ q) j e = absurd cc

    by : (b : Bool) → is_parent ([], None) (q, None) ≡ b → is_parent ([], None) (q, None) ≡ false
    by true e = let r = parent_parts [] q e in absurd (empty q r.0 r.1)
    by false e = e

parent_parts_any : (P : Place → Bool) (number : ℕ) (tree : Tree) (path : List ℕ)
    (attribute : Option ℕ) →
    has_attribute (subtree_at tree path) attribute ≡ true →
    list_any P (axis_nodes axis.Parent
    (record { number = number; tree = tree; path = path; attribute = attribute }))
    ≡ list_any P (option_to_list (parent_of
    (record { number = number; tree = tree; path = path; attribute = attribute })))
parent_parts_any P number tree path (Some k) h =
    let n : Place = record { number = number; tree = tree; path = path; attribute = Some k } in
    axis_of_one P axis.Parent n (path, None)
    (there tree path None (owner_there (subtree_at tree path) k h))
    (λ s. parent_axis (path, Some k) s ∙ owner_spot path k s)
    ∙ sym (or-false (P (record { number = number; tree = tree; path = path; attribute = None })))
parent_parts_any P number tree [] None h =
    axis_of_none P axis.Parent (record {
      number = number;
      tree = tree;
      path = [];
      attribute = None;
    })
    (λ s. parent_axis ([], None) s ∙ root_spot s)
parent_parts_any P number tree (i ∷ path) None h =
    let n : Place = record { number = number; tree = tree; path = i ∷ path; attribute = None } in
    let u : List ℕ = take (length path) (i ∷ path) in
    let z : ℕ = get_or (i ∷ path) (length path) 0 in
    let e : i ∷ path ≡ u ++ z ∷ [] = last_of i path in
    axis_of_one P axis.Parent n (u, None)
    (there tree u None (above_exists tree (i ∷ path) (length path) None h))
    (λ s. parent_axis (i ∷ path, None) s
    ∙ ap (λ (y : List ℕ). is_parent (y, None) s) e ∙ longer_spot u z s)
    ∙ sym (or-false (P (record { number = number; tree = tree; path = u; attribute = None })))

pub parent_any : (P : Place → Bool) (n : Place) → has_place n ≡ true →
    list_any P (axis_nodes axis.Parent n) ≡ list_any P (option_to_list (parent_of n))
parent_any P n h = parent_parts_any P n.number n.tree n.path n.attribute h

-- the nodes above

pub node_passes : (along : Axis) (n : Place) → has_place n ≡ true → passes_at along test.Node n
    ≡ true
unfolding tree_passes passes_test
node_passes along n h = let t = tree_there n h in rw t.1 refl

towards_parent : (P : Place → Bool) (n : Place) → has_place n ≡ true →
    list_any P (axis_nodes (towards false) n) ≡ list_any P (above false n)
unfolding towards above
towards_parent P n h = parent_any P n h

towards_ancestor : (P : Place → Bool) (n : Place) →
    list_any P (axis_nodes (towards true) n) ≡ list_any P (above true n)
unfolding towards above
towards_ancestor P n =
    any_within P (λ m. passes_at axis.Ancestor test.Node m && P m) n (axis_nodes axis.Ancestor n)
    (axis_within axis.Ancestor n)
    (λ m w. sym (ap (λ (b : Bool). b && P m) (node_passes axis.Ancestor m w.exists)))
    ∙ sym (any_filter P (passes_at axis.Ancestor test.Node) (axis_nodes axis.Ancestor n))

pub towards_any : (P : Place → Bool) (deep : Bool) (n : Place) → has_place n ≡ true →
    list_any P (axis_nodes (towards deep) n) ≡ list_any P (above deep n)
towards_any P true n h = towards_ancestor P n
towards_any P false n h = towards_parent P n h

pub towards_within : (deep : Bool) (n : Place) → AreWithin n (axis_nodes (towards deep) n)
towards_within deep n = axis_within (towards deep) n
