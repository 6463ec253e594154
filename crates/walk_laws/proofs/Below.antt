-- The children of a node and of all nodes below it are its descendants.
use Rattle.std.proofs.Common.{◌≡◌, ℕ, List, [], ◌∷◌, ◌++◌, map, Bool, true, false, refl, sym, ap, ◌∙◌, subst}
use Rattle.std.specs.Prelude.{◌&&◌, ◌||◌, Option, Some, None, option_and_then, slice_get}
use Rattle.std.specs.Ordering.{nat_cmp}
use Rattle.std.specs.declared.cmp.Ordering.{Ordering}
use Rattle.std.specs.declared.cmp.Ordering.TheVariants.{Less, Equal, Greater}
use Rattle.std.specs.List.{list_all}
use Rattle.xt_types.specs.declared.axes.Axis.{Axis}
use Rattle.xt_types.specs.declared.axes.Axis.TheVariants as axis
use Rattle.xt_types.specs.declared.node_tests.Test.{Test}
use Rattle.xt_types.specs.declared.node_tests.Test.TheVariants as test
use Rattle.xt_tree.specs.declared.trees.Tree.{Tree}
use Rattle.xt_tree.specs.TreeView.{kids_of}
use Rattle.xt_tree.specs.Place.{Place, has_attribute, subtree_at, subtree_below, subtree_of}
use Rattle.xt_tree.specs.Walk.{Spot, spots_of}
use Rattle.xt_tree.proofs.WalkPlaces.{walk_is_exact}
use Rattle.xt_syntax.specs.declared.exprs.Expr.{Expr}
use Rattle.node_tests.specs.Tests.{passes_at, passes_test, passes_principal, tree_passes}
use Rattle.node_axes.specs.Axes.{axis_nodes, is_reverse, on_axis, is_child, is_descendant, is_itself}
use Rattle.node_axes.specs.Axes.{is_attribute, same_attribute, same_path, place_at, spot_of}
use Rattle.node_axes.specs.Paths.{Stands, before, above, same, below, after, then_stands, stands, is_over}
use Rattle.node_axes.proofs.AxisLemmas.{is_up, is_one, descendant_is, same_path_is, child_parts, child_on}
use Rattle.node_axes.proofs.FilterLemmas.{In, In-from_Contains, Contains-from_In}
use Rattle.node_axes.specs.StepWalks.Within.{AreWithin}
use Rattle.node_axes.specs.StepWalks.Nodes.{Nodes, kept_by_all, step_nodes, slash_nodes, nodes_of_each}
use Rattle.node_axes.proofs.StepWalks.NodeLemmas.{found_by_step, step_found_within, step_within, each_within}
use Rattle.node_axes.proofs.StepWalks.OrderLemmas.{one_sorted, tree_order_sorted, in_tree_order_from, in_tree_order_to}
use Rattle.node_axes.proofs.StepWalks.OrderLemmas.{in_filter, from_filter}
use Rattle.quiet_meaning.specs.Quietly.{Quietly, quietly_of}
use Rattle.quiet_meaning.specs.Paths.{keeps}
use Rattle.quiet_eval.specs.QuietPlaces.Free.{is_place_free_expr}
use Rattle.walk_laws.proofs.Forward.{found_sorted}
use Rattle.walk_laws.proofs.Members.{from_each, to_each, OnAxis, from_axis, to_axis}
use Rattle.walk_laws.proofs.Members.{AllSame, each_same, hold_here, from_all, to_all}
use Rattle.std.proofs.Math.Bool.{and-false}

-- paths that are one step longer

over_cases : (s : Stands) → is_over s ≡ (is_one s || is_up s)
over_cases before = refl
over_cases above = refl
over_cases same = refl
over_cases below = refl
over_cases after = refl

past_end : (o : Ordering) (q : List ℕ) → is_up (then_stands o (stands q [])) ≡ false
unfolding stands
past_end Less q = refl
past_end Equal [] = refl
past_end Equal (i ∷ q) = refl
past_end Greater q = refl

further_step : (o : Ordering) (s t : Stands) → is_up s ≡ is_over t →
    is_up (then_stands o s) ≡ is_over (then_stands o t)
further_step Less s t e = refl
further_step Equal s t e = e
further_step Greater s t e = refl

one_longer : (q p : List ℕ) (z : ℕ) → is_up (stands q (p ++ z ∷ [])) ≡ is_over (stands q p)
unfolding stands
one_longer [] [] z = refl
one_longer [] (j ∷ p) z = refl
one_longer (i ∷ q) [] z = past_end (nat_cmp i z) q
one_longer (i ∷ q) (j ∷ p) z = further_step (nat_cmp i j) (stands q (p ++ z ∷ [])) (stands q p) (one_longer q p z)

and_all : (b : Bool) → b ≡ (b && true)
and_all true = refl
and_all false = refl

-- what is below a node is a child of it or of a node below it
below_child : (s : Spot) (p : List ℕ) (z : ℕ) →
    on_axis axis.DescendantOrSelf s (p, None) ≡ on_axis axis.Descendant s (p ++ z ∷ [], None)
unfolding on_axis is_itself is_descendant is_attribute same_attribute
below_child (q, None) p z =
    sym (descendant_is q (p ++ z ∷ []) ∙ one_longer q p z ∙ over_cases (stands q p)
    ∙ ap (λ (b : Bool). b || is_up (stands q p)) (sym (same_path_is q p) ∙ and_all (same_path q p))
    ∙ ap (λ (b : Bool). (same_path q p && true) || b) (sym (descendant_is q p)))
below_child (q, Some k) p z = ap (λ (b : Bool). b || false) (and-false (same_path q p))

-- trees

front_there : (t : Tree) (p : List ℕ) (z : ℕ) →
    has_attribute (subtree_at t (p ++ z ∷ [])) None ≡ true → has_attribute (subtree_at t p) None ≡ true
front_there t [] z h = refl
front_there t (i ∷ p) z h = by (slice_get (kids_of t) i) h (λ kid g. front_there kid p z g)
  where
    by : (o : Option Tree) →
        has_attribute (option_and_then (λ kid. subtree_at kid (p ++ z ∷ [])) o) None ≡ true →
        ((kid : Tree) → has_attribute (subtree_at kid (p ++ z ∷ [])) None ≡ true →
        has_attribute (subtree_at kid p) None ≡ true) →
        has_attribute (option_and_then (λ kid. subtree_at kid p) o) None ≡ true
    by None g more = g
    by (Some kid) g more = more kid g

front_spot : (t : Tree) (p : List ℕ) (z : ℕ) → In (p ++ z ∷ [], None) (spots_of t) →
    In (p, None) (spots_of t)
front_spot t p z i =
    In-from_Contains (p, None) (spots_of t) ((walk_is_exact t p None).1
    (front_there t p z ((walk_is_exact t (p ++ z ∷ []) None).0
    (Contains-from_In (p ++ z ∷ [], None) (spots_of t) i))))

spot_there : (t : Tree) (p : List ℕ) → In (p, None) (spots_of t) →
    has_attribute (subtree_at t p) None ≡ true
spot_there t p i = (walk_is_exact t p None).0 (Contains-from_In (p, None) (spots_of t) i)

-- tests

node_passes : (along : Axis) (o : Option Tree) → has_attribute o None ≡ true →
    tree_passes along test.Node (subtree_below o None) ≡ true
unfolding tree_passes passes_test
node_passes along None h = absurd cc
node_passes along (Some t) h = refl

same_test : (wanted : Test) (o : Option Tree) →
    tree_passes axis.Child wanted o ≡ tree_passes axis.Descendant wanted o
unfolding tree_passes passes_test passes_principal
same_test wanted None = refl
same_test (test.Named names) (Some t) = refl
same_test test.Node (Some t) = refl
same_test test.Text (Some t) = refl
same_test test.Comment (Some t) = refl
same_test (test.Pi target) (Some t) = refl
same_test test.Doc (Some t) = refl
same_test (test.Elem names) (Some t) = refl
same_test (test.Attr names) (Some t) = refl

forward_child : is_reverse axis.Child ≡ false
unfolding is_reverse
forward_child = refl

forward_below : is_reverse axis.Descendant ≡ false
unfolding is_reverse
forward_below = refl

forward_all : is_reverse axis.DescendantOrSelf ≡ false
unfolding is_reverse
forward_all = refl

-- a child, by its spot
record IsKid (s t : Spot) : Type 0 where
  path : List ℕ
  place : ℕ
  parent : s ≡ (path, None)
  kid : t ≡ (path ++ place ∷ [], None)

kid_parts : (s t : Spot) → on_axis axis.Child s t ≡ true → IsKid s t
unfolding on_axis is_child is_attribute
kid_parts (p, Some k) t h = absurd cc
kid_parts (p, None) (q, Some k) h = absurd cc
kid_parts (p, None) (q, None) h =
    let c = child_parts p q h in
    record { path = p; place = c.0; parent = refl; kid = ap (λ r. (r, None)) c.1 }

record IsBelow (t : Spot) : Type 0 where
  path : List ℕ
  place : ℕ
  kid : t ≡ (path ++ place ∷ [], None)

last_step : (i : ℕ) (q : List ℕ) → IsBelow (i ∷ q, None)
last_step i [] = record { path = []; place = i; kid = refl }
last_step i (j ∷ q) =
    let v = last_step j q in
    record { path = i ∷ v.path; place = v.place; kid = ap (λ (t : Spot). (i ∷ t.0, t.1)) v.kid }

root_not_below : (p : List ℕ) → is_up (stands p []) ≡ false
unfolding stands
root_not_below [] = refl
root_not_below (i ∷ p) = refl

no_parent : {G : Type 0} (p : List ℕ) (k : ℕ) → is_descendant (p, Some k) ([], None) ≡ true → G
unfolding is_descendant is_attribute
no_parent p k h = absurd cc

no_attribute : {G : Type 0} (s : Spot) (q : List ℕ) (k : ℕ) → is_descendant s (q, Some k) ≡ true → G
unfolding is_descendant is_attribute
no_attribute (p, None) q k h = absurd cc
no_attribute (p, Some j) q k h = absurd cc

root_below : {G : Type 0} (p : List ℕ) → is_descendant (p, None) ([], None) ≡ true → G
root_below p h = let e : false ≡ true = sym (root_not_below p) ∙ sym (descendant_is p []) ∙ h in absurd cc

below_parts : (s t : Spot) → on_axis axis.Descendant s t ≡ true → IsBelow t
unfolding on_axis
below_parts s (i ∷ q, None) h = last_step i q
below_parts (p, None) ([], None) h = root_below p h
below_parts (p, Some k) ([], None) h = no_parent p k h
below_parts s (q, Some k) h = no_attribute s q k h

module _ (wanted : Test) (tests : List Expr) (free : list_all is_place_free_expr tests ≡ true)
    (n : Place) where
  abbrev qs : List Quietly
  qs = map quietly_of tests

  abbrev kids : Nodes
  kids = step_nodes axis.Child wanted (keeps tests)

  abbrev all_below : List Place
  all_below = step_nodes axis.DescendantOrSelf test.Node [] n

  abbrev further : List Place
  further = nodes_of_each kids all_below

  abbrev found : List Place
  found = found_by_step axis.Descendant wanted (keeps tests) n

  same_all : AllSame qs
  same_all = each_same tests free

  further_within : AreWithin n further
  further_within =
      each_within n kids all_below (λ d. step_within axis.Child wanted (keeps tests) d)
      (step_within axis.DescendantOrSelf test.Node [] n)

  -- nodes below, and the node itself

  from_below : (d : Place) → In d all_below → OnAxis axis.DescendantOrSelf n d
  unfolding step_nodes kept_by_all
  from_below d i =
      let j = in_tree_order_from n d _ (step_found_within axis.DescendantOrSelf test.Node [] n) i in
      let k = from_filter (passes_at axis.DescendantOrSelf test.Node) d
      (axis_nodes axis.DescendantOrSelf n) j in
      from_axis axis.DescendantOrSelf n d forward_all k.0

  to_below : (p : List ℕ) → In (p, None) (spots_of n.tree) →
      on_axis axis.DescendantOrSelf (spot_of n) (p, None) ≡ true →
      In (place_at n (p, None)) all_below
  unfolding step_nodes kept_by_all
  to_below p i o =
      let d = place_at n (p, None) in
      in_tree_order_to n d _ (step_found_within axis.DescendantOrSelf test.Node [] n)
      (in_filter (passes_at axis.DescendantOrSelf test.Node) d (axis_nodes axis.DescendantOrSelf n)
      (to_axis axis.DescendantOrSelf n (p, None) forward_all i o)
      (node_passes axis.DescendantOrSelf (subtree_at n.tree p) (spot_there n.tree p i)))

  -- children

  record IsFound (along : Axis) (d m : Place) : Type 0 where
    on : OnAxis along d m
    passes : passes_at along wanted m ≡ true
    kept : hold_here qs m ≡ true

  from_found : (along : Axis) (d m : Place) → is_reverse along ≡ false →
      In m (found_by_step along wanted (keeps tests) d) → IsFound along d m
  from_found along d m r i =
      let f = from_all qs same_all m _ i in
      let g = from_filter (passes_at along wanted) m (axis_nodes along d) f.0 in
      record { on = from_axis along d m r g.0; passes = g.1; kept = f.1 }

  to_found : (along : Axis) (d m : Place) → In m (axis_nodes along d) →
      passes_at along wanted m ≡ true → hold_here qs m ≡ true →
      In m (found_by_step along wanted (keeps tests) d)
  to_found along d m i p h =
      to_all qs same_all m _ (in_filter (passes_at along wanted) m (axis_nodes along d) i p) h

  from_kids : (d m : Place) → In m (kids d) → IsFound axis.Child d m
  unfolding step_nodes
  from_kids d m i =
      from_found axis.Child d m forward_child
      (in_tree_order_from d m _ (step_found_within axis.Child wanted (keeps tests) d) i)

  to_kids : (d m : Place) → In m (found_by_step axis.Child wanted (keeps tests) d) → In m (kids d)
  unfolding step_nodes
  to_kids d m i = in_tree_order_to d m _ (step_found_within axis.Child wanted (keeps tests) d) i

  -- both ways

  below_all : (d m : Place) → OnAxis axis.DescendantOrSelf n d → IsFound axis.Child d m → In m found
  below_all d m a f =
      let b = f.on in
      let k = kid_parts (spot_of d) b.spot b.on in
      let at : a.spot ≡ (k.path, None) = ap spot_of a.is ∙ k.parent in
      let o : on_axis axis.DescendantOrSelf (spot_of n) (k.path, None) ≡ true =
      subst (λ s. on_axis axis.DescendantOrSelf (spot_of n) s ≡ true) at a.on in
      let u : on_axis axis.Descendant (spot_of n) b.spot ≡ true =
      subst (λ s. on_axis axis.Descendant (spot_of n) s ≡ true) (sym k.kid)
      (sym (below_child (spot_of n) k.path k.place) ∙ o) in
      let e : place_at n b.spot ≡ m = ap (λ x. place_at x b.spot) a.is ∙ b.is in
      let i : In b.spot (spots_of n.tree) =
      subst (λ (x : Place). In b.spot (spots_of x.tree)) (sym a.is) b.exists in
      to_found axis.Descendant n m
      (subst (λ x. In x (axis_nodes axis.Descendant n)) e
      (to_axis axis.Descendant n b.spot forward_below i u))
      (sym (same_test wanted (subtree_of m)) ∙ f.passes) f.kept

  all_reached : (m : Place) → IsFound axis.Descendant n m → In m further
  unfolding on_axis
  all_reached m f =
      let a = f.on in
      let c = below_parts (spot_of n) a.spot a.on in
      let d = place_at n (c.path, None) in
      let i = front_spot n.tree c.path c.place
      (subst (λ s. In s (spots_of n.tree)) c.kid a.exists) in
      let o : on_axis axis.DescendantOrSelf (spot_of n) (c.path, None) ≡ true =
      below_child (spot_of n) c.path c.place
      ∙ subst (λ s. on_axis axis.Descendant (spot_of n) s ≡ true) c.kid a.on in
      let u : on_axis axis.Child (spot_of d) a.spot ≡ true =
      subst (λ s. on_axis axis.Child (spot_of d) s ≡ true) (sym c.kid) (child_on c.path c.place) in
      to_each m d kids all_below (to_below c.path i o)
      (to_kids d m (to_found axis.Child d m
      (subst (λ x. In x (axis_nodes axis.Child d)) a.is
      (to_axis axis.Child d a.spot forward_child a.exists u))
      (same_test wanted (subtree_of m) ∙ f.passes) f.kept))

  pub below_law : slash_nodes (step_nodes axis.DescendantOrSelf test.Node []) kids n ≡ found
  unfolding slash_nodes
  below_law =
      one_sorted _ found (tree_order_sorted n further)
      (found_sorted axis.Descendant wanted (keeps tests) n forward_below)
      (λ m i. (let f = from_each m kids all_below (in_tree_order_from n m further further_within i)
      in below_all f.from m (from_below f.from f.is_in) (from_kids f.from m f.leads)))
      (λ m i. in_tree_order_to n m further further_within
      (all_reached m (from_found axis.Descendant n m forward_below i)))
