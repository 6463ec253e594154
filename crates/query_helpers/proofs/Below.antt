-- What stands below a node: its children and its attributes, in order.
use Rattle.std.proofs.Common.{◌≡◌, ℕ, zero, suc, ◌+◌, ◌<◌, List, [], ◌∷◌, ◌++◌, map, length, refl, sym, ap, ◌∙◌, arith}
use Rattle.std.proofs.Math.Dec.{eqb-suc-suc}
use Rattle.std.proofs.lemmas.Bool.{ne_eqb, eq-eqb}
use Rattle.std.proofs.lemmas.List.{append-nil}
use Rattle.std.proofs.lemmas.List.Elements.{filter-append}
use Rattle.std.specs.Prelude.{Bool, true, false, ◌&&◌, nat_eq, Option, Some, None, slice_get}
use Rattle.std.specs.Prelude.{option_and_then, if◌then◌else◌}
use Rattle.std.specs.List.{filter}
use Rattle.xt_types.specs.declared.axes.Axis.{Axis}
use Rattle.xt_types.specs.declared.axes.Axis.TheVariants as axis
use Rattle.xt_types.specs.declared.node_tests.Test.TheVariants as test
use Rattle.xt_tree.specs.declared.attributes.Attribute.{Attribute}
use Rattle.xt_tree.specs.declared.trees.Tree.{Tree}
use Rattle.xt_tree.specs.declared.trees.Tree.TheVariants.{Doc, Elem, Text, Comment, Pi, Attr}
use Rattle.xt_tree.specs.Forest.{Forest, end, doc, elem, text, comment, pi, attr}
use Rattle.xt_tree.specs.Place.{Place, subtree_at, subtree_below, subtree_of, attribute_tree}
use Rattle.xt_tree.specs.TreeView.{trees, kids_of, attributes_of}
use Rattle.xt_tree.specs.Walk.{Spot, under, attribute_spots, forest_spots, spots_of}
use Rattle.node_tests.specs.Tests.{passes_at, tree_passes, passes_test}
use Rattle.node_axes.specs.Axes.{axis_nodes, in_axis_order, is_reverse, on_axis, is_child}
use Rattle.node_axes.specs.Axes.{is_own_attribute, is_attribute, begins_with, same_path, place_at}

-- a forest as a list
abbrev pub list_spots : ℕ → List Tree → List Spot
list_spots i [] = []
list_spots i (t ∷ ts) = map (under i) (spots_of t) ++ list_spots (suc i) ts

listed : (i : ℕ) (f : Forest) → forest_spots i f ≡ list_spots i (trees f)
listed i end = refl
listed i (doc kids rest) = ap (λ z. map (under i) (spots_of (Doc kids)) ++ z) (listed (suc i) rest)
listed i (elem name attributes kids rest) =
    ap (λ z. map (under i) (spots_of (Elem name attributes kids)) ++ z) (listed (suc i) rest)
listed i (text t rest) = ap (λ z. map (under i) (spots_of (Text t)) ++ z) (listed (suc i) rest)
listed i (comment t rest) = ap (λ z. map (under i) (spots_of (Comment t)) ++ z) (listed (suc i) rest)
listed i (pi target t rest) = ap (λ z. map (under i) (spots_of (Pi target t)) ++ z) (listed (suc i) rest)
listed i (attr name t rest) = ap (λ z. map (under i) (spots_of (Attr name t)) ++ z) (listed (suc i) rest)

pub spots_are : (t : Tree) →
    spots_of t ≡ ([], None) ∷ (attribute_spots 0 (attributes_of t) ++ list_spots 0 (kids_of t))
spots_are (Doc kids) = ap (λ (z : List Spot). ([], None) ∷ z) (listed 0 kids)
spots_are (Elem name attributes kids) =
    ap (λ (z : List Spot). ([], None) ∷ (attribute_spots 0 attributes ++ z)) (listed 0 kids)
spots_are (Text t) = refl
spots_are (Comment t) = refl
spots_are (Pi target t) = refl
spots_are (Attr name t) = refl

-- spots of one kind

none_under : (P : Spot → Bool) (i : ℕ) (xs : List Spot) → ((s : Spot) → P (under i s) ≡ false) →
    filter P (map (under i) xs) ≡ []
none_under P i [] h = refl
none_under P i (s ∷ xs) h = rw (h s) (none_under P i xs h)

pub some_under : (P R : Spot → Bool) (i : ℕ) (xs : List Spot) → ((s : Spot) → P (under i s) ≡ R s) →
    filter P (map (under i) xs) ≡ map (under i) (filter R xs)
some_under P R i [] h = refl
some_under P R i (s ∷ xs) h = rw (h s) (by (R s) (some_under P R i xs h))
  where
    by : (b : Bool) → filter P (map (under i) xs) ≡ map (under i) (filter R xs) →
        (if b then under i s ∷ filter P (map (under i) xs) else filter P (map (under i) xs))
        ≡ map (under i) (if b then s ∷ filter R xs else filter R xs)
    by true e = ap (λ (z : List Spot). under i s ∷ z) e
    by false e = e

pub no_attributes : (P : Spot → Bool) (m : ℕ) (xs : List Attribute) →
    ((k : ℕ) → P ([], Some k) ≡ false) → filter P (attribute_spots m xs) ≡ []
no_attributes P m [] h = refl
no_attributes P m (a ∷ xs) h = rw (h m) (no_attributes P (suc m) xs h)

pub all_attributes : (P : Spot → Bool) (m : ℕ) (xs : List Attribute) →
    ((k : ℕ) → P ([], Some k) ≡ true) → filter P (attribute_spots m xs) ≡ attribute_spots m xs
all_attributes P m [] h = refl
all_attributes P m (a ∷ xs) h =
    rw (h m) (ap (λ (z : List Spot). ([], Some m) ∷ z) (all_attributes P (suc m) xs h))

pub no_lists : (P : Spot → Bool) (m : ℕ) (ts : List Tree) →
    ((l : ℕ) (s : Spot) → P (under l s) ≡ false) → filter P (list_spots m ts) ≡ []
no_lists P m [] h = refl
no_lists P m (t ∷ ts) h =
    filter-append P (map (under m) (spots_of t)) (list_spots (suc m) ts)
    ∙ rw (none_under P m (spots_of t) (h m)) (no_lists P (suc m) ts h)

-- a test of spots one step further down

module _ (P R : Spot → Bool) (i : ℕ) (step : (j : ℕ) (s : Spot) → P (under j s) ≡ (nat_eq i j && R s)) where
  missed : (j : ℕ) (s : Spot) → (i ≡ j → ⊥) → P (under j s) ≡ false
  missed j s n = step j s ∙ ap (λ b. b && R s) (ne_eqb i j n)

  reached : (j : ℕ) (s : Spot) → i ≡ j → P (under j s) ≡ R s
  reached j s e = step j s ∙ ap (λ b. b && R s) (eq-eqb i j e)

  later : (ts : List Tree) (j : ℕ) → i < j → filter P (list_spots j ts) ≡ []
  later [] j l = refl
  later (t ∷ ts) j l =
      filter-append P (map (under j) (spots_of t)) (list_spots (suc j) ts)
      ∙ rw (none_under P j (spots_of t) (λ s. missed j s (λ e. absurd (omega (arith, l, e)))))
      (later ts (suc j) (omega (arith, l)))

  at_kid : (ts : List Tree) (j d : ℕ) (kid : Tree) → i ≡ j + d → slice_get ts d ≡ Some kid →
      filter P (list_spots j ts) ≡ map (under i) (filter R (spots_of kid))
  at_kid [] j d kid e h = absurd cc
  at_kid (t ∷ ts) j zero kid e h =
      let same : t ≡ kid = cc in
      let here : i ≡ j = omega (arith, e) in
      filter-append P (map (under j) (spots_of t)) (list_spots (suc j) ts)
      ∙ ap (λ z. filter P (map (under j) (spots_of t)) ++ z) (later ts (suc j) (omega (arith, e)))
      ∙ append-nil (filter P (map (under j) (spots_of t)))
      ∙ some_under P R j (spots_of t) (λ s. reached j s here)
      ∙ ap (λ x. map (under j) (filter R (spots_of x))) same
      ∙ ap (λ x. map (under x) (filter R (spots_of kid))) (sym here)
  at_kid (t ∷ ts) j (suc d) kid e h =
      filter-append P (map (under j) (spots_of t)) (list_spots (suc j) ts)
      ∙ ap (λ z. z ++ filter P (list_spots (suc j) ts))
      (none_under P j (spots_of t) (λ s. missed j s (λ f. absurd (omega (arith, e, f)))))
      ∙ at_kid ts (suc j) d kid (omega (arith, e)) h

  pub down : ((o : Option ℕ) → P ([], o) ≡ false) → (t kid : Tree) → slice_get (kids_of t) i ≡ Some kid →
      filter P (spots_of t) ≡ map (under i) (filter R (spots_of kid))
  down top t kid h =
      ap (filter P) (spots_are t)
      ∙ rw (top None)
      (filter-append P (attribute_spots 0 (attributes_of t)) (list_spots 0 (kids_of t))
      ∙ ap (λ z. z ++ filter P (list_spots 0 (kids_of t)))
      (no_attributes P 0 (attributes_of t) (λ k. top (Some k)))
      ∙ at_kid (kids_of t) 0 i kid (omega arith) h)

-- the tree at a spot
abbrev pub tree_at : Tree → Spot → Option Tree
tree_at t s = subtree_below (subtree_at t s.0) s.1

trees_under : (t kid : Tree) (i : ℕ) → slice_get (kids_of t) i ≡ Some kid → (xs : List Spot) →
    map (tree_at t) (map (under i) xs) ≡ map (tree_at kid) xs
trees_under t kid i h [] = refl
trees_under t kid i h (s ∷ xs) =
    rw (h, trees_under t kid i h xs) refl

-- a test of spots by a path to a node
module _ (Q : List ℕ → Spot → Bool)
    (step : (i : ℕ) (p : List ℕ) (j : ℕ) (s : Spot) → Q (i ∷ p) (under j s) ≡ (nat_eq i j && Q p s))
    (top : (i : ℕ) (p : List ℕ) (o : Option ℕ) → Q (i ∷ p) ([], o) ≡ false)
    (G : Tree → List (Option Tree))
    (base : (t : Tree) → map (tree_at t) (filter (Q []) (spots_of t)) ≡ G t) where
  found : (p : List ℕ) (t x : Tree) → subtree_at t p ≡ Some x →
      map (tree_at t) (filter (Q p) (spots_of t)) ≡ G x
  found [] t x h = let same : t ≡ x = cc in base t ∙ ap G same
  found (i ∷ p) t x h = by (slice_get (kids_of t) i) refl h (λ kid. found p kid x)
    where
      by : (o : Option Tree) → slice_get (kids_of t) i ≡ o →
          option_and_then (λ kid. subtree_at kid p) o ≡ Some x →
          ((kid : Tree) → subtree_at kid p ≡ Some x →
          map (tree_at kid) (filter (Q p) (spots_of kid)) ≡ G x) →
          map (tree_at t) (filter (Q (i ∷ p)) (spots_of t)) ≡ G x
      by None e f more = absurd cc
      by (Some kid) e f more =
          ap (map (tree_at t)) (down (Q (i ∷ p)) (Q p) i (step i p) (top i p) t kid e)
          ∙ trees_under t kid i e (filter (Q p) (spots_of kid)) ∙ more kid f

-- children

and_parted : (a b c : Bool) → ((a && b) && c) ≡ (a && (b && c))
and_parted true b c = refl
and_parted false b c = refl

and_false : (b : Bool) → (b && false) ≡ false
and_false true = refl
and_false false = refl

child_step : (i : ℕ) (p : List ℕ) (j : ℕ) (s : Spot) →
    is_child (i ∷ p, None) (under j s) ≡ (nat_eq i j && is_child (p, None) s)
unfolding is_child is_attribute begins_with
child_step i p j (q, Some k) = sym (and_false (nat_eq i j))
child_step i p j (q, None) =
    let longer : suc (length p) + 1 ≡ suc (length p + 1) = omega arith in
    ap (λ n. (nat_eq i j && begins_with p q) && nat_eq (suc (length q)) n) longer
    ∙ ap (λ b. (nat_eq i j && begins_with p q) && b) (eqb-suc-suc (length q) (length p + 1))
    ∙ and_parted (nat_eq i j) (begins_with p q) (nat_eq (length q) (length p + 1))

child_top : (i : ℕ) (p : List ℕ) (o : Option ℕ) → is_child (i ∷ p, None) ([], o) ≡ false
unfolding is_child is_attribute begins_with
child_top i p None = refl
child_top i p (Some k) = refl

pub no_more : (d : ℕ) → 0 + d ≡ d
no_more d = omega arith

abbrev first_steps : ℕ → List Tree → List Spot
first_steps j [] = []
first_steps j (t ∷ ts) = (j ∷ [], None) ∷ first_steps (suc j) ts

no_grandchild : (j l : ℕ) (s : Spot) → is_child ([], None) (under j (under l s)) ≡ false
unfolding is_child is_attribute begins_with
no_grandchild j l (q, Some k) = refl
no_grandchild j l (q, None) = ne_eqb (suc (suc (length q))) 1 (λ e. absurd (omega (arith, e)))

root_no_child : is_child ([], None) ([], None) ≡ false
unfolding is_child is_attribute begins_with
root_no_child = refl

no_attribute_child : (k : ℕ) → is_child ([], None) ([], Some k) ≡ false
unfolding is_child is_attribute begins_with
no_attribute_child k = refl

kid_here : (j : ℕ) (t : Tree) →
    filter (is_child ([], None)) (map (under j) (spots_of t)) ≡ (j ∷ [], None) ∷ []
unfolding is_child is_attribute begins_with
kid_here j t =
    let P : Spot → Bool = λ s. is_child ([], None) (under j s) in
    some_under (is_child ([], None)) P j (spots_of t) (λ s. refl)
    ∙ ap (λ z. map (under j) (filter P z)) (spots_are t)
    ∙ ap (λ (z : List Spot). (j ∷ [], None) ∷ map (under j) z)
    (filter-append P (attribute_spots 0 (attributes_of t)) (list_spots 0 (kids_of t))
    ∙ ap (λ z. z ++ filter P (list_spots 0 (kids_of t)))
    (no_attributes P 0 (attributes_of t) (λ k. refl))
    ∙ no_lists P 0 (kids_of t) (no_grandchild j))

kids_here : (ts : List Tree) (j : ℕ) →
    filter (is_child ([], None)) (list_spots j ts) ≡ first_steps j ts
kids_here [] j = refl
kids_here (t ∷ ts) j =
    filter-append (is_child ([], None)) (map (under j) (spots_of t)) (list_spots (suc j) ts)
    ∙ rw (kid_here j t, kids_here ts (suc j)) refl

trees_at : (t : Tree) (ts : List Tree) (j : ℕ) →
    ((d : ℕ) → slice_get (kids_of t) (j + d) ≡ slice_get ts d) →
    map (tree_at t) (first_steps j ts) ≡ map Some ts
trees_at t [] j h = refl
trees_at t (x ∷ ts) j h =
    let zero_more : j + 0 ≡ j = omega arith in
    let here : slice_get (kids_of t) j ≡ Some x = ap (slice_get (kids_of t)) (sym zero_more) ∙ h 0 in
    rw (
      here,
      trees_at t ts (suc j)
          (λ d. let same : suc j + d ≡ j + suc d = omega arith in ap (slice_get (kids_of t)) same ∙ h (suc d)),
    )
    refl

kids_base : (t : Tree) →
    map (tree_at t) (filter (is_child ([], None)) (spots_of t)) ≡ map Some (kids_of t)
kids_base t =
    ap (λ z. map (tree_at t) (filter (is_child ([], None)) z)) (spots_are t)
    ∙ ap (map (tree_at t)) (below (kids_here (kids_of t) 0))
    ∙ trees_at t (kids_of t) 0 (λ d. ap (slice_get (kids_of t)) (no_more d))
  where
    below : filter (is_child ([], None)) (list_spots 0 (kids_of t)) ≡ first_steps 0 (kids_of t) →
        filter (is_child ([], None))
        (([], None) ∷ (attribute_spots 0 (attributes_of t) ++ list_spots 0 (kids_of t)))
        ≡ first_steps 0 (kids_of t)
    below h =
        rw (root_no_child)
        (filter-append (is_child ([], None)) (attribute_spots 0 (attributes_of t)) (list_spots 0 (kids_of t))
        ∙ ap (λ z. z ++ filter (is_child ([], None)) (list_spots 0 (kids_of t)))
        (no_attributes (is_child ([], None)) 0 (attributes_of t) no_attribute_child)
        ∙ h)

abbrev kids_at : List ℕ → Spot → Bool
kids_at p = is_child (p, None)

pub kids_found : (p : List ℕ) (t x : Tree) → subtree_at t p ≡ Some x →
    map (tree_at t) (filter (kids_at p) (spots_of t)) ≡ map Some (kids_of x)
kids_found = found kids_at child_step child_top (λ x. map Some (kids_of x)) kids_base

-- attributes

pub own_step : (i : ℕ) (p : List ℕ) (j : ℕ) (s : Spot) →
    is_own_attribute (i ∷ p, None) (under j s) ≡ (nat_eq i j && is_own_attribute (p, None) s)
unfolding is_own_attribute is_attribute same_path
own_step i p j (q, Some k) = refl
own_step i p j (q, None) = sym (and_false (nat_eq i j))

pub own_top : (i : ℕ) (p : List ℕ) (o : Option ℕ) → is_own_attribute (i ∷ p, None) ([], o) ≡ false
unfolding is_own_attribute is_attribute same_path
own_top i p None = refl
own_top i p (Some k) = refl

pub own_here : (k : ℕ) → is_own_attribute ([], None) ([], Some k) ≡ true
unfolding is_own_attribute is_attribute same_path
own_here k = refl

pub own_root : is_own_attribute ([], None) ([], None) ≡ false
unfolding is_own_attribute is_attribute same_path
own_root = refl

pub own_below : (l : ℕ) (s : Spot) → is_own_attribute ([], None) (under l s) ≡ false
unfolding is_own_attribute is_attribute same_path
own_below l (q, Some k) = refl
own_below l (q, None) = refl

abbrev attribute_trees : List Attribute → List Tree
attribute_trees xs = map attribute_tree xs

attributes_at_root : (t : Tree) (xs : List Attribute) (m : ℕ) →
    ((d : ℕ) → slice_get (attributes_of t) (m + d) ≡ slice_get xs d) →
    map (tree_at t) (attribute_spots m xs) ≡ map Some (map attribute_tree xs)
attributes_at_root t [] m h = refl
attributes_at_root t (a ∷ xs) m h =
    let zero_more : m + 0 ≡ m = omega arith in
    let here : slice_get (attributes_of t) m ≡ Some a = ap (slice_get (attributes_of t)) (sym zero_more) ∙ h 0 in
    rw (
      here,
      attributes_at_root t xs (suc m)
          (λ d. let same : suc m + d ≡ m + suc d = omega arith in
          ap (slice_get (attributes_of t)) same ∙ h (suc d)),
    )
    refl

pub root_own : (t : Tree) → filter (is_own_attribute ([], None)) (spots_of t)
    ≡ attribute_spots 0 (attributes_of t)
root_own t =
    ap (filter (is_own_attribute ([], None))) (spots_are t)
    ∙ rw (own_root)
    (filter-append (is_own_attribute ([], None)) (attribute_spots 0 (attributes_of t)) (list_spots 0 (kids_of t))
    ∙ ap (λ z. filter (is_own_attribute ([], None)) (attribute_spots 0 (attributes_of t)) ++ z)
    (no_lists (is_own_attribute ([], None)) 0 (kids_of t) own_below)
    ∙ append-nil (filter (is_own_attribute ([], None)) (attribute_spots 0 (attributes_of t)))
    ∙ all_attributes (is_own_attribute ([], None)) 0 (attributes_of t) own_here)

attributes_base : (t : Tree) → map (tree_at t) (filter (is_own_attribute ([], None)) (spots_of t))
    ≡ map Some (map attribute_tree (attributes_of t))
attributes_base t =
    ap (map (tree_at t)) (root_own t)
    ∙ attributes_at_root t (attributes_of t) 0 (λ d. ap (slice_get (attributes_of t)) (no_more d))

abbrev pub own_at : List ℕ → Spot → Bool
own_at p = is_own_attribute (p, None)

pub attributes_found : (p : List ℕ) (t x : Tree) → subtree_at t p ≡ Some x →
    map (tree_at t) (filter (own_at p) (spots_of t)) ≡ map Some (map attribute_tree (attributes_of x))
attributes_found =
    found own_at own_step own_top (λ x. map Some (map attribute_tree (attributes_of x))) attributes_base

-- nodes

trees_of_places : (n : Place) (xs : List Spot) →
    map subtree_of (map (place_at n) xs) ≡ map (tree_at n.tree) xs
trees_of_places n [] = refl
trees_of_places n (s ∷ xs) = ap (λ (z : List (Option Tree)). tree_at n.tree s ∷ z) (trees_of_places n xs)

pub kids_along : (n : Place) (x : Tree) → n.attribute ≡ None → subtree_at n.tree n.path ≡ Some x →
    map subtree_of (axis_nodes axis.Child n) ≡ map Some (kids_of x)
unfolding axis_nodes in_axis_order is_reverse on_axis
kids_along n x a h =
    ap (λ o. map subtree_of (map (place_at n) (filter (is_child (n.path, o)) (spots_of n.tree)))) a
    ∙ trees_of_places n (filter (kids_at n.path) (spots_of n.tree)) ∙ kids_found n.path n.tree x h

pub attributes_along : (n : Place) (x : Tree) → n.attribute ≡ None →
    subtree_at n.tree n.path ≡ Some x →
    map subtree_of (axis_nodes axis.Attribute n) ≡ map Some (map attribute_tree (attributes_of x))
unfolding axis_nodes in_axis_order is_reverse on_axis
attributes_along n x a h =
    ap (λ o. map subtree_of (map (place_at n) (filter (is_own_attribute (n.path, o)) (spots_of n.tree)))) a
    ∙ trees_of_places n (filter (own_at n.path) (spots_of n.tree)) ∙ attributes_found n.path n.tree x h

-- all of them pass
pub all_pass : (along : Axis) (ns : List Place) (ts : List Tree) → map subtree_of ns ≡ map Some ts →
    filter (passes_at along test.Node) ns ≡ ns
unfolding tree_passes passes_test
all_pass along [] ts h = refl
all_pass along (n ∷ ns) [] h = absurd cc
all_pass along (n ∷ ns) (t ∷ ts) h =
    let e : subtree_of n ≡ Some t = cc in let f : map subtree_of ns ≡ map Some ts = cc in
    rw (e) (ap (λ (z : List Place). n ∷ z) (all_pass along ns ts f))
