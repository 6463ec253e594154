-- The nodes above a node: its parent, and those above its parent.
use Rattle.std.proofs.Common.{◌≡◌, ℕ, zero, suc, ◌≤◌, ◌+◌, ◌-◌, ◌<◌, List, [], ◌∷◌, ◌++◌, length, get_or, take, map, reverse, refl, ap}
use Rattle.std.proofs.Common.{sym, ◌∙◌, subst, Bool, true, false, cond, arith, eq-eqb}
use Rattle.std.specs.Prelude.{◌&&◌, ◌||◌, nat_eq, nat_lt, slice_get, Option, Some, None, option_map}
use Rattle.std.specs.List.{filter, list_any, Contains}
use Rattle.std.specs.Bool.{IsTrue}
use Rattle.std.specs.Option.{option_to_list, SomeIff}
use Rattle.std.proofs.lemmas.Bool.{and_parts, eqb-true, lt-ltb, ltb-true, false_from_ne_true}
use Rattle.std.proofs.lemmas.List.Folds.{list_any_at}
use Rattle.std.proofs.lemmas.Option.{slice_get_within}
use Rattle.std.proofs.lemmas.List.Sorted.{IsPermutation-reverse, list_any-IsPermutation}
use Rattle.std.specs.declared.cmp.Ordering.{Ordering}
use Rattle.std.specs.declared.cmp.Ordering.TheVariants.{Less, Equal, Greater}
use Rattle.std.specs.Ordering.{nat_cmp}
use Rattle.xt_types.specs.declared.axes.Axis.TheVariants as axis
use Rattle.xt_types.specs.declared.node_tests.Test.TheVariants as test
use Rattle.xt_tree.specs.declared.trees.Tree.{Tree}
use Rattle.xt_tree.specs.declared.attributes.Attribute.{Attribute}
use Rattle.xt_tree.specs.declared.kinds.Kind.{Kind}
use Rattle.xt_tree.specs.Kinds.{kind_of}
use Rattle.xt_tree.specs.TreeView.{attributes_of}
use Rattle.xt_tree.specs.Place.{Place, above_place, attribute_tree, has_attribute, has_place, parent_of, subtree_at, subtree_below}
use Rattle.xt_tree.specs.Place.{subtree_of}
use Rattle.xt_tree.specs.Walk.{Spot, spots_of}
use Rattle.xt_tree.proofs.PlaceLemmas.{above_exists}
use Rattle.xt_tree.proofs.WalkPlaces.{walk_is_exact}
use Rattle.node_tests.specs.Tests.{passes_at, passes_test, tree_passes}
use Rattle.node_axes.specs.Axes.{axis_nodes, begins_with, in_axis_order, is_ancestor, is_attribute, is_itself, is_reverse, on_axis}
use Rattle.node_axes.specs.Axes.{place_at, same_attribute, same_path, spot_of, way_length}
use Rattle.node_axes.specs.Paths.{Stands, before, above as over, same, below, after, then_stands, stands, is_over}
use Rattle.node_axes.proofs.AxisLemmas.{is_up, is_one, ancestor_is, attribute_ancestor_is, same_path_is}
use Rattle.node_axes.proofs.PathLemmas.{same_is}
use Rattle.match_patterns.specs.Findings.{count_above, count_of}
use Rattle.match_patterns.specs.Patterns.{above}
use Rattle.match_patterns.proofs.MemberLemmas.{below_there, last_of, path_same, take_all}
use Rattle.std.proofs.Math.Bool.{and-false}

-- lists of which some element passes

any_filter : {X : Type 0} (p q : X → Bool) (xs : List X) → list_any p (filter q xs) ≡ list_any (λ x. q x && p x) xs
any_filter p q [] = refl
any_filter p q (x ∷ xs) = by (q x) (any_filter p q xs)
  where
    by : (b : Bool) → list_any p (filter q xs) ≡ list_any (λ x. q x && p x) xs
        → list_any p (cond b (x ∷ filter q xs) (filter q xs)) ≡ ((b && p x) || list_any (λ x. q x && p x) xs)
    by true e = ap (λ (z : Bool). p x || z) e
    by false e = e

any_map : {X Y : Type 0} (p : X → Bool) (h : Y → X) (ys : List Y) → list_any p (map h ys) ≡ list_any (λ y. p (h y)) ys
any_map p h [] = refl
any_map p h (y ∷ ys) = ap (λ (z : Bool). p (h y) || z) (any_map p h ys)

pub any_same : {X : Type 0} (p q : X → Bool) (xs : List X) → ((x : X) → p x ≡ q x) → list_any p xs ≡ list_any q xs
any_same p q [] h = refl
any_same p q (x ∷ xs) h = rw (h x, any_same p q xs h) refl

pub any_more : {X : Type 0} (p q : X → Bool) (xs : List X) → ((x : X) → p x ≡ true → q x ≡ true) → list_any p xs ≡ true
    → list_any q xs ≡ true
any_more p q [] h e = e
any_more p q (x ∷ xs) h e = by (p x) refl e (any_more p q xs h)
  where
    either : (b : Bool) → list_any q xs ≡ true → (b || list_any q xs) ≡ true
    either true f = refl
    either false f = f

    by : (b : Bool) → p x ≡ b → (b || list_any p xs) ≡ true → (list_any p xs ≡ true → list_any q xs ≡ true) → (q x || list_any q xs) ≡ true
    by true f g more = rw (h x f) refl
    by false f g more = either (q x) (more g)

any_then : {X : Type 0} (p : X → Bool) (xs : List X) (b : Bool) → ((x : X) → p x ≡ true → b ≡ true) → list_any p xs ≡ true → b ≡ true
any_then p [] b h e = absurd cc
any_then p (x ∷ xs) b h e = by (p x) refl e (any_then p xs b h)
  where
    by : (c : Bool) → p x ≡ c → (c || list_any p xs) ≡ true → (list_any p xs ≡ true → b ≡ true) → b ≡ true
    by true f g more = h x f
    by false f g more = more g

pub true_or_false : {G : Type 0} (b : Bool) → b ≡ true → b ≡ false → G
true_or_false b e f = cc

pub none_more : {X : Type 0} (p q : X → Bool) (xs : List X) → ((x : X) → q x ≡ true → p x ≡ true) → list_any p xs ≡ false
    → list_any q xs ≡ false
none_more p q xs h e = false_from_ne_true (list_any q xs) (λ f. true_or_false (list_any p xs) (any_more q p xs h f) e)

-- the nodes above, as those of all nodes of the tree that are

abbrev is_found : (Place → Bool) → Place → Spot → Bool
is_found f n s = is_ancestor (spot_of n) s && (passes_at axis.Ancestor test.Node (place_at n s) && f (place_at n s))

above_any : (f : Place → Bool) (n : Place) → list_any f (above true n) ≡ list_any (is_found f n) (spots_of n.tree)
unfolding above axis_nodes in_axis_order is_reverse on_axis
above_any f n =
    let ss : List Spot = filter (λ s. is_ancestor (spot_of n) s) (spots_of n.tree) in
    let p : Place → Bool = λ m. passes_at axis.Ancestor test.Node m && f m in
    let q : Spot → Bool = λ s. p (place_at n s) in
    any_filter f (passes_at axis.Ancestor test.Node) (map (place_at n) (reverse ss))
    ∙ any_map p (place_at n) (reverse ss)
    ∙ sym (list_any-IsPermutation q ss (reverse ss) (IsPermutation-reverse ss))
    ∙ any_filter q (λ s. is_ancestor (spot_of n) s) (spots_of n.tree)

-- ways that are one step longer

over_cases : (s : Stands) → is_over s ≡ (is_one s || is_up s)
over_cases before = refl
over_cases over = refl
over_cases same = refl
over_cases below = refl
over_cases after = refl

past_end : (o : Ordering) (q : List ℕ) → is_up (then_stands o (stands q [])) ≡ false
unfolding stands
past_end Less q = refl
past_end Equal [] = refl
past_end Equal (i ∷ q) = refl
past_end Greater q = refl

further_step : (o : Ordering) (s t : Stands) → is_up s ≡ is_over t → is_up (then_stands o s) ≡ is_over (then_stands o t)
further_step Less s t e = refl
further_step Equal s t e = e
further_step Greater s t e = refl

one_longer : (q p : List ℕ) (z : ℕ) → is_up (stands q (p ++ z ∷ [])) ≡ is_over (stands q p)
unfolding stands
one_longer [] [] z = refl
one_longer [] (j ∷ p) z = refl
one_longer (i ∷ q) [] z = past_end (nat_cmp i z) q
one_longer (i ∷ q) (j ∷ p) z = further_step (nat_cmp i j) (stands q (p ++ z ∷ [])) (stands q p) (one_longer q p z)

same_turned : (p q : List ℕ) → same_path p q ≡ true → same_path q p ≡ true
unfolding same_path
same_turned [] [] h = refl
same_turned [] (j ∷ q) h = absurd cc
same_turned (i ∷ p) [] h = absurd cc
same_turned (i ∷ p) (j ∷ q) h =
    let g = and_parts (nat_eq i j) (same_path p q) h in
    rw (eq-eqb j i (sym (eqb-true i j g.0)), same_turned p q g.1) refl

same_both : (p q : List ℕ) → same_path p q ≡ same_path q p
same_both p q = agree (same_path p q) (same_path q p) (same_turned p q) (same_turned q p)
  where
    agree : (a b : Bool) → (a ≡ true → b ≡ true) → (b ≡ true → a ≡ true) → a ≡ b
    agree true b f g = sym (f refl)
    agree false true f g = g refl
    agree false false f g = refl

and_all : (b : Bool) → b ≡ (b && true)
and_all true = refl
and_all false = refl

-- above or the node itself, as the ways stand
it_or_above : (p q : List ℕ) → is_over (stands q p) ≡ (is_itself (p, None) (q, None) || is_ancestor (p, None) (q, None))
unfolding is_itself same_attribute
it_or_above p q =
    over_cases (stands q p)
    ∙ ap (λ (b : Bool). b || is_up (stands q p)) (sym (same_path_is q p) ∙ same_both q p ∙ and_all (same_path p q))
    ∙ ap (λ (b : Bool). is_itself (p, None) (q, None) || b) (sym (ancestor_is p q))

no_attribute_above : (p : Spot) (u q : List ℕ) (k : ℕ)
    → is_ancestor p (q, Some k) ≡ (is_itself (u, None) (q, Some k) || is_ancestor (u, None) (q, Some k))
unfolding is_itself same_attribute is_ancestor is_attribute
no_attribute_above p u q k = ap (λ (b : Bool). b || false) (sym (and-false (same_path u q)))

-- what is above a node is its parent, or above that
abbrev IsNext : Spot → Spot → Type 0
IsNext n u = (s : Spot) → is_ancestor n s ≡ (is_itself u s || is_ancestor u s)

next_of_attribute : (p : List ℕ) (k : ℕ) → IsNext (p, Some k) (p, None)
next_of_attribute p k (q, None) = attribute_ancestor_is p q k ∙ it_or_above p q
next_of_attribute p k (q, Some j) = no_attribute_above (p, Some k) p q j

next_of_longer : (p : List ℕ) (z : ℕ) → IsNext (p ++ z ∷ [], None) (p, None)
next_of_longer p z (q, None) = ancestor_is (p ++ z ∷ []) q ∙ one_longer q p z ∙ it_or_above p q
next_of_longer p z (q, Some j) = no_attribute_above (p ++ z ∷ [], None) p q j

next_of_path : (i : ℕ) (path : List ℕ) → IsNext (i ∷ path, None) (take (length path) (i ∷ path), None)
next_of_path i path =
    subst (λ (p : List ℕ). IsNext (p, None) (take (length path) (i ∷ path), None)) (sym (last_of i path))
    (next_of_longer (take (length path) (i ∷ path)) (get_or (i ∷ path) (length path) 0))

-- the parent
abbrev at : Place → List ℕ → Place
at n up = record { number = n.number; tree = n.tree; path = up; attribute = None }

record IsParent (n u : Place) : Type 0 where
  up : List ℕ
  is : u ≡ at n up
  next : IsNext (spot_of n) (up, None)
  exists : has_place n ≡ true → has_place (at n up) ≡ true

pub owner_there : (o : Option Tree) (k : ℕ) → has_attribute o (Some k) ≡ true → has_attribute o None ≡ true
owner_there None k h = h
owner_there (Some t) k h = refl

same_inside : (v u : Place) → Some v ≡ Some u → u ≡ v
same_inside v u e = cc

parent_parts : (number : ℕ) (tree : Tree) (path : List ℕ) (attribute : Option ℕ) (u : Place)
    → parent_of (record { number = number; tree = tree; path = path; attribute = attribute }) ≡ Some u
    → IsParent (record { number = number; tree = tree; path = path; attribute = attribute }) u
parent_parts number tree path (Some k) u e =
    record { up = path; is = same_inside _ u e; next = next_of_attribute path k; exists = owner_there (subtree_at tree path) k }
parent_parts number tree [] None u e = absurd cc
parent_parts number tree (i ∷ path) None u e =
    let there = above_exists tree (i ∷ path) (length path) None in
    record { up = take (length path) (i ∷ path); is = same_inside _ u e; next = next_of_path i path; exists = there }

parent_is : (n u : Place) → parent_of n ≡ Some u → IsParent n u
parent_is n u e = parent_parts n.number n.tree n.path n.attribute u e

-- a node that is there passes the test of all nodes
there_passes : (tree : Tree) (path : List ℕ) → has_attribute (subtree_at tree path) None ≡ true
    → tree_passes axis.Ancestor test.Node (subtree_below (subtree_at tree path) None) ≡ true
unfolding tree_passes passes_test
there_passes tree path h = by (subtree_at tree path) h
  where
    by : (o : Option Tree) → has_attribute o None ≡ true → tree_passes axis.Ancestor test.Node (subtree_below o None) ≡ true
    by None g = absurd cc
    by (Some t) g = refl

same_path_one : (p q : List ℕ) → same_path p q ≡ true → p ≡ q
same_path_one p q h = same_is p q (one (stands p q) (sym (same_path_is p q) ∙ h))
  where
    one : (s : Stands) → is_one s ≡ true → s ≡ same
    one before g = absurd cc
    one over g = absurd cc
    one same g = refl
    one below g = absurd cc
    one after g = absurd cc

itself_one : (p : List ℕ) (s : Spot) → is_itself (p, None) s ≡ true → s ≡ (p, None)
unfolding is_itself same_attribute
itself_one p (q, None) h = ap (λ (z : List ℕ). (z, None)) (sym (same_path_one p q (and_parts (same_path p q) true h).0))
itself_one p (q, Some k) h = absurd (true_or_false (same_path p q && false) h (and-false (same_path p q)))

itself_passes : (p : List ℕ) → is_itself (p, None) (p, None) ≡ true
unfolding is_itself same_attribute
itself_passes p = sym (and_all (same_path p p)) ∙ path_same p

all_three : (a b c : Bool) → a ≡ true → b ≡ true → c ≡ true → (a && (b && c)) ≡ true
all_three a b c e f g = rw (e, f, g) refl

-- a test holds above a node where it holds at the parent, or above that

parent_fails : (f : Place → Bool) (n : Place) (up : List ℕ) → IsNext (spot_of n) (up, None) → f (at n up) ≡ false
    → list_any f (above true n) ≡ list_any f (above true (at n up))
parent_fails f n up next h =
    above_any f n ∙ any_same (is_found f n) (is_found f (at n up)) (spots_of n.tree) each ∙ sym (above_any f (at n up))
  where
    each : (s : Spot) → is_found f n s ≡ is_found f (at n up) s
    each s = ap (λ (b : Bool). b && rest) (next s) ∙ by (is_itself (up, None) s) refl
      where
        rest : Bool
        rest = passes_at axis.Ancestor test.Node (place_at n s) && f (place_at n s)

        by : (b : Bool) → is_itself (up, None) s ≡ b → ((b || is_ancestor (up, None) s) && rest) ≡ (is_ancestor (up, None) s && rest)
        by true e =
            let g : rest ≡ false =
            ap (λ (t : Spot). passes_at axis.Ancestor test.Node (place_at n s) && f (place_at n t)) (itself_one up s e)
            ∙ ap (λ (b : Bool). passes_at axis.Ancestor test.Node (place_at n s) && b) h ∙ and-false _
            in
            g ∙ sym (ap (λ (b : Bool). is_ancestor (up, None) s && b) g ∙ and-false (is_ancestor (up, None) s))
        by false e = refl

parent_holds : (f : Place → Bool) (n : Place) (up : List ℕ) → IsNext (spot_of n) (up, None) → has_place (at n up) ≡ true
    → f (at n up) ≡ true → list_any f (above true n) ≡ true
parent_holds f n up next there h =
    let c : Contains (spots_of n.tree) (up, None) = (walk_is_exact n.tree up None).1 there in
    let a : is_ancestor (spot_of n) (up, None) ≡ true =
    next (up, None) ∙ ap (λ (b : Bool). b || is_ancestor (up, None) (up, None)) (itself_passes up)
    in
    let g : is_found f n (up, None) ≡ true = all_three _ _ _ a (there_passes n.tree up there) h in
    above_any f n ∙ list_any_at (is_found f n) (spots_of n.tree) c.0 (up, None) c.1 (ap (is_found f n) c.2 ∙ g)

pub up_fails : (f : Place → Bool) (n u : Place) → parent_of n ≡ Some u → f u ≡ false → list_any f (above true n) ≡ list_any f (above true u)
up_fails f n u e h =
    let p = parent_is n u e in
    subst (λ (z : Place). f z ≡ false → list_any f (above true n) ≡ list_any f (above true z)) (sym p.is) (parent_fails f n p.up p.next) h

pub up_holds : (f : Place → Bool) (n u : Place) → parent_of n ≡ Some u → has_place n ≡ true → f u ≡ true → list_any f (above true n) ≡ true
up_holds f n u e there h =
    let p = parent_is n u e in
    parent_holds f n p.up p.next (p.exists there) (ap f (sym p.is) ∙ h)

-- nothing is above a root

root_way : (s : Spot) → is_ancestor ([], None) s ≡ false
unfolding is_ancestor is_attribute
root_way (q, None) = ancestor_is [] q ∙ past_end Equal q
root_way (q, Some k) = refl

none_of_none : {X : Type 0} (xs : List X) → list_any (λ (x : X). false) xs ≡ false
none_of_none [] = refl
none_of_none (x ∷ xs) = none_of_none xs

none_above_root : (f : Place → Bool) (number : ℕ) (tree : Tree) (path : List ℕ) (attribute : Option ℕ)
    → parent_of (record { number = number; tree = tree; path = path; attribute = attribute }) ≡ None
    → list_any f (above true (record { number = number; tree = tree; path = path; attribute = attribute })) ≡ false
none_above_root f number tree path (Some k) e = absurd cc
none_above_root f number tree (i ∷ path) None e = absurd cc
none_above_root f number tree [] None e =
    let n : Place = record { number = number; tree = tree; path = []; attribute = None } in
    above_any f n
    ∙ any_same (is_found f n) (λ s. false) (spots_of tree)
    (λ s. ap (λ (b : Bool). b && (passes_at axis.Ancestor test.Node (place_at n s) && f (place_at n s))) (root_way s))
    ∙ none_of_none (spots_of tree)

pub none_up : (f : Place → Bool) (n : Place) → parent_of n ≡ None → list_any f (above true n) ≡ false
none_up f n e = none_above_root f n.number n.tree n.path n.attribute e

-- the nodes above, from the nearest on

up_more : (f : Place → Bool) (n u : Place) → parent_of n ≡ Some u → has_place n ≡ true
    → list_any f (above true n) ≡ (f u || list_any f (above true u))
up_more f n u e there = by (f u) refl
  where
    by : (b : Bool) → f u ≡ b → list_any f (above true n) ≡ (b || list_any f (above true u))
    by true h = up_holds f n u e there h
    by false h = up_fails f n u e h

-- whether a test holds at one of the first so many nodes on the way from the root
abbrev pub upper : (Place → Bool) → Place → ℕ → Bool
upper f n zero = false
upper f n (suc d) = f (above_place n d) || upper f n d

take_short : (d : ℕ) (xs : List ℕ) → d ≤ length xs → length (take d xs) ≡ d
take_short zero xs h = refl
take_short (suc d) [] h = absurd (omega arith)
take_short (suc d) (x ∷ xs) h = ap suc (take_short d xs (omega arith))

take_twice : (d : ℕ) (xs : List ℕ) → d ≤ length xs → take d (take (suc d) xs) ≡ take d xs
take_twice zero xs h = refl
take_twice (suc d) [] h = absurd (omega arith)
take_twice (suc d) (x ∷ xs) h = ap (λ (z : List ℕ). x ∷ z) (take_twice d xs (omega arith))

parent_on_way : (number : ℕ) (tree : Tree) (path : List ℕ) (attribute : Option ℕ) (d : ℕ) → suc d ≤ length path
    → parent_of (above_place (record { number = number; tree = tree; path = path; attribute = attribute }) (suc d))
    ≡ Some (above_place (record { number = number; tree = tree; path = path; attribute = attribute }) d)
parent_on_way number tree [] attribute d h = absurd (omega arith)
parent_on_way number tree (i ∷ path) attribute d h =
    ap (λ (k : ℕ). Some (record { number = number; tree = tree; path = take k (i ∷ take d path); attribute = None }))
    (take_short d path (omega arith))
    ∙ ap (λ (p : List ℕ). Some (record { number = number; tree = tree; path = p; attribute = None }))
    (take_twice d (i ∷ path) (omega arith))

on_way_there : (n : Place) (d : ℕ) → has_place n ≡ true → has_place (above_place n d) ≡ true
on_way_there n d h = above_exists n.tree n.path d n.attribute h

pub upper_on_way : (f : Place → Bool) (n : Place) (d : ℕ) → d ≤ length n.path → has_place n ≡ true
    → list_any f (above true (above_place n d)) ≡ upper f n d
upper_on_way f n zero h there = none_up f (above_place n 0) refl
upper_on_way f n (suc d) h there =
    up_more f (above_place n (suc d)) (above_place n d) (parent_on_way n.number n.tree n.path n.attribute d h)
    (on_way_there n (suc d) there)
    ∙ ap (λ (b : Bool). f (above_place n d) || b) (upper_on_way f n d (omega arith) there)

upper_parts : (f : Place → Bool) (number : ℕ) (tree : Tree) (path : List ℕ) (attribute : Option ℕ)
    → has_place (record { number = number; tree = tree; path = path; attribute = attribute }) ≡ true
    → list_any f (above true (record { number = number; tree = tree; path = path; attribute = attribute }))
    ≡ upper f (record { number = number; tree = tree; path = path; attribute = attribute }) (count_of (length path) attribute)
upper_parts f number tree path None there =
    let n : Place = record { number = number; tree = tree; path = path; attribute = None } in
    ap (λ (p : List ℕ). list_any f (above true (record { number = number; tree = tree; path = p; attribute = None })))
    (sym (take_all path)) ∙ upper_on_way f n (length path) (omega arith) there
upper_parts f number tree path (Some i) there =
    let n : Place = record { number = number; tree = tree; path = path; attribute = Some i } in
    let u : Place = record { number = number; tree = tree; path = path; attribute = None } in
    let same : above_place n (length path) ≡ u =
    ap (λ (p : List ℕ). (let r : Place = record { number = number; tree = tree; path = p; attribute = None } in r)) (take_all path)
    in
    let e : length path + 1 ≡ suc (length path) = omega arith in
    up_more f n u refl there
    ∙ ap (λ (m : Place). f m || list_any f (above true m)) (sym same)
    ∙ ap (λ (b : Bool). f (above_place n (length path)) || b) (upper_on_way f n (length path) (omega arith) there)
    ∙ ap (upper f n) (sym e)

pub upper_is : (f : Place → Bool) (n : Place) → has_place n ≡ true → list_any f (above true n) ≡ upper f n (count_above n)
upper_is f n there = upper_parts f n.number n.tree n.path n.attribute there

pub there_of_kind : (n : Place) (k : Kind) → option_map kind_of (subtree_of n) ≡ Some k → has_place n ≡ true
there_of_kind n k h = by (subtree_at n.tree n.path) n.attribute h
  where
    by : (o : Option Tree) (a : Option ℕ) → option_map kind_of (subtree_below o a) ≡ Some k → has_attribute o a ≡ true
    by None None g = absurd cc
    by None (Some i) g = absurd cc
    by (Some t) None g = refl
    by (Some t) (Some i) g = inside (slice_get (attributes_of t) i) refl g
      where
        inside : (o : Option Attribute) → slice_get (attributes_of t) i ≡ o → option_map kind_of (option_map attribute_tree o) ≡ Some k
            → nat_lt i (length (attributes_of t)) ≡ true
        inside None e g = absurd cc
        inside (Some a) e g = lt-ltb i (length (attributes_of t)) (slice_get_within (attributes_of t) i a e)

pub ancestor_made : (o : Option Place) (n : Place) (d number : ℕ) (tree : Tree) (path : List ℕ) → number ≡ n.number → tree ≡ n.tree
    → path ≡ take d n.path → has_place n ≡ true
    → SomeIff o (IsTrue (has_place (record { number = number; tree = tree; path = path; attribute = None })))
    (record { number = number; tree = tree; path = path; attribute = None }) → o ≡ Some (above_place n d)
ancestor_made None n d number tree path e f g there s =
    absurd
    (s (ap (λ (t : Tree). has_attribute (subtree_at t path) None) f
    ∙ ap (λ (p : List ℕ). has_attribute (subtree_at n.tree p) None) g ∙ on_way_there n d there))
ancestor_made (Some x) n d number tree path e f g there s =
    ap (λ (z : Place). Some z) (s.1 ∙ made)
  where
    made : (let r : Place = record { number = number; tree = tree; path = path; attribute = None } in r ≡ above_place n d)
    made = cc

pub within_path : (n : Place) (d : ℕ) → d ≤ count_above n → d - 1 ≤ length n.path
within_path n d h = by n.attribute h
  where
    by : (a : Option ℕ) → d ≤ count_of (length n.path) a → d - 1 ≤ length n.path
    by None g = omega arith
    by (Some i) g = omega arith

-- what is above a node above is above

begins_further : (t s n : List ℕ) → begins_with t s ≡ true → begins_with s n ≡ true → begins_with t n ≡ true
unfolding begins_with
begins_further [] s n h g = refl
begins_further (i ∷ t) [] n h g = absurd cc
begins_further (i ∷ t) (j ∷ s) [] h g = absurd cc
begins_further (i ∷ t) (j ∷ s) (k ∷ n) h g =
    let x = and_parts (nat_eq i j) (begins_with t s) h in
    let y = and_parts (nat_eq j k) (begins_with s n) g in
    rw (eq-eqb i k (eqb-true i j x.0 ∙ eqb-true j k y.0), begins_further t s n x.1 y.1) refl

further_above : (n s t : Spot) → is_ancestor n s ≡ true → is_ancestor s t ≡ true → is_ancestor n t ≡ true
unfolding is_ancestor is_attribute way_length
further_above n (p, Some k) t h g = absurd cc
further_above n (p, None) (q, Some k) h g = absurd cc
further_above (r, a) (p, None) (q, None) h g =
    let x = and_parts (begins_with p r) (nat_lt (length p + 0) (way_length (r, a))) h in
    let y = and_parts (begins_with q p) (nat_lt (length q + 0) (length p + 0)) g in
    let l : length p + 0 < way_length (r, a) = ltb-true (length p + 0) (way_length (r, a)) x.1 in
    let m : length q + 0 < length p + 0 = ltb-true (length q + 0) (length p + 0) y.1 in
    rw (begins_further q p r y.0 x.0, lt-ltb (length q + 0) (way_length (r, a)) (omega arith)) refl

-- a test that holds at the parent holds above
led_above : (deep : Bool) (f : Place → Bool) (m : Place) → has_place m ≡ true → list_any f (above deep m) ≡ true
    → list_any f (above true m) ≡ true
unfolding above
led_above true f m there h = h
led_above false f m there h = by (parent_of m) refl h
  where
    by : (o : Option Place) → parent_of m ≡ o → list_any f (option_to_list o) ≡ true
        → list_any f (filter (passes_at axis.Ancestor test.Node) (axis_nodes axis.Ancestor m)) ≡ true
    by None e g = absurd cc
    by (Some v) e g = up_holds f m v e there (first (f v) g)
      where
        first : (b : Bool) → (b || false) ≡ true → b ≡ true
        first true k = refl
        first false k = k

-- Where a test holds at no node above, what needs it at the parent or above holds at none either.
pub none_led : (deep : Bool) (f : Place → Bool) (n : Place) → list_any f (above true n) ≡ false
    → list_any (λ m. list_any f (above deep m)) (above true n) ≡ false
none_led deep f n h = false_from_ne_true _ (λ e. true_or_false (list_any f (above true n)) (above_any f n ∙ inner (sym (above_any led n) ∙ e)) h)
  where
    led : Place → Bool
    led m = list_any f (above deep m)

    each : (s : Spot) → is_found led n s ≡ true → list_any (is_found f n) (spots_of n.tree) ≡ true
    each s e =
        let m : Place = place_at n s in
        let x = and_parts (is_ancestor (spot_of n) s) (passes_at axis.Ancestor test.Node m && led m) e in
        let y = and_parts (passes_at axis.Ancestor test.Node m) (led m) x.1 in
        let there : has_place m ≡ true = below_there (subtree_at n.tree s.0) s.1 axis.Ancestor test.Node y.0 in
        any_more (is_found f m) (is_found f n) (spots_of n.tree) (λ t g. further s t x.0 g)
        (sym (above_any f m) ∙ led_above deep f m there y.1)
      where
        further : (s t : Spot) → is_ancestor (spot_of n) s ≡ true → is_found f (place_at n s) t ≡ true → is_found f n t ≡ true
        further s t h g =
            let x = and_parts (is_ancestor s t) (passes_at axis.Ancestor test.Node (place_at n t) && f (place_at n t)) g in
            rw (further_above (spot_of n) s t h x.0, x.1) refl

    inner : list_any (is_found led n) (spots_of n.tree) ≡ true → list_any (is_found f n) (spots_of n.tree) ≡ true
    inner e = any_then (is_found led n) (spots_of n.tree) (list_any (is_found f n) (spots_of n.tree)) each e
