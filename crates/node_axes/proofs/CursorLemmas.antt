-- Cursors.
use Rattle.std.proofs.Common.{◌≡◌, ℕ, zero, suc, ◌<◌, ◌≤◌, List, [], ◌∷◌, ◌++◌, length, Bool, true, false, Option, Some, None, is_some, option_map, slice_get, IsTrue, refl, sym, ap, subst, ◌∙◌, arith}
use Rattle.std.proofs.lemmas.Bool.{lt-ltb}
use Rattle.std.specs.Option.{option_to_list, SomeIff}
use Rattle.xt_tree.specs.declared.attributes.Attribute.{Attribute}
use Rattle.xt_tree.specs.declared.kinds.Kind.{Kind}
use Rattle.xt_tree.specs.declared.trees.Tree.{Tree}
use Rattle.xt_tree.specs.Kinds.{kind_of}
use Rattle.xt_tree.specs.Place.{Place, subtree_at, subtree_below, subtree_of, attribute_tree, has_attribute, has_place}
use Rattle.xt_tree.specs.TreeView.{attributes_of, tree_depth}
use Rattle.xt_types.specs.declared.axes.Axis.{Axis}
use Rattle.xt_types.specs.declared.node_tests.Test.{Test}
use Rattle.node_tests.specs.Tests.{tree_passes, passes_at}
use Rattle.node_axes.specs.Axes.{place_at, axis_nodes}
use Rattle.node_axes.specs.Course.{Course, present_at, to_come, come_after, is_at_hit}
use Rattle.node_axes.specs.Moves.{has_spot, IsSteady}
use Rattle.xt_names.proofs.BoolLemmas.{never}

got_one : (xs : List Attribute) (i : ℕ) (k : Kind) → option_map kind_of (option_map attribute_tree (slice_get xs i)) ≡ Some k → i < length xs
got_one [] i k e = cc
got_one (x ∷ xs) zero k e = omega arith
got_one (x ∷ xs) (suc i) k e = let h = got_one xs i k e in omega arith

placed : (o : Option Tree) (a : Option ℕ) (k : Kind) → option_map kind_of (subtree_below o a) ≡ Some k → has_attribute o a ≡ true
placed None None k e = cc
placed None (Some i) k e = cc
placed (Some s) None k e = refl
placed (Some s) (Some i) k e = lt-ltb i (length (attributes_of s)) (got_one (attributes_of s) i k e)

-- a node has its place
spot_placed : (n : Place) (k : Kind) → option_map kind_of (subtree_of n) ≡ Some k → has_spot n.tree (n.path, n.attribute) ≡ true
unfolding has_spot
spot_placed n k e = placed (subtree_at n.tree n.path) n.attribute k e

steady_begin : (axis : Axis) (n : Place) (path : List ℕ) (attribute : Option ℕ) (room : ℕ) (k : Kind) → option_map kind_of (subtree_of n) ≡ Some k → path ≡ n.path → attribute ≡ n.attribute
    → tree_depth n.tree ≤ room → IsSteady axis n false false path attribute room
steady_begin axis n path attribute room k e f g r = record {
  start = spot_placed n k e;
  room_is = r;
  ahead = λ _. refl;
  path_is = λ _. f;
  attribute_is = λ _. g;
  exists = λ h. never h;
  on = λ h. never h;
}

pub steady_new : (axis : Axis) (n m : Place) (path : List ℕ) (attribute : Option ℕ) (room : ℕ) (k : Kind) → m ≡ n → option_map kind_of (subtree_of n) ≡ Some k → path ≡ n.path
    → attribute ≡ n.attribute → tree_depth n.tree ≤ room → IsSteady axis m false false path attribute room
steady_new axis n m path attribute room k s e f g r =
    subst (λ z. IsSteady axis z false false path attribute room) (sym s) (steady_begin axis n path attribute room k e f g r)

pub new_is : (axis : Axis) (test : Test) (n m : Place) (path : List ℕ) (attribute : Option ℕ) → m ≡ n
    → (let made : Course = record { start = m; axis = axis; test = test; begun = false; present = present_at false m path attribute } in
    let want : Course = record { start = n; axis = axis; test = test; begun = false; present = None } in made ≡ want)
unfolding present_at
new_is axis test n m path attribute e = ap (λ (z : Place). (let made : Course = record { start = z; axis = axis; test = test; begun = false; present = None } in made)) e

pub present_some : (b : Bool) (n : Place) (p : List ℕ) (a : Option ℕ) → b ≡ is_some (present_at b n p a)
unfolding present_at
present_some true n p a = refl
present_some false n p a = refl

pub come_of : (x : Course) (c : Course) (later : List Place) → x ≡ c → come_after c.axis c.start c.begun c.present ≡ later → to_come x ≡ later
unfolding to_come
come_of x c later e h = ap to_come e ∙ h

pub come_is : (c : Course) → come_after c.axis c.start c.begun c.present ≡ to_come c
unfolding to_come
come_is c = refl

pub present_true : (b : Bool) (n : Place) (p : List ℕ) (a : Option ℕ) → b ≡ true → present_at b n p a ≡ Some (place_at n (p, a))
unfolding present_at
present_true true n p a h = refl
present_true false n p a h = never h

pub present_false : (b : Bool) (n : Place) (p : List ℕ) (a : Option ℕ) → b ≡ false → present_at b n p a ≡ None
unfolding present_at
present_false true n p a h = never (sym h)
present_false false n p a h = refl

pub hit_here : (axis : Axis) (test : Test) (o : Option Place) (m : Place) (r : Bool) → o ≡ Some m → r ≡ passes_at axis test m → r ≡ is_at_hit axis test o
unfolding is_at_hit
hit_here axis test o m r e h = h ∙ sym (ap (is_at_hit axis test) e)

pub hit_nowhere : (axis : Axis) (test : Test) (o : Option Place) (r : Bool) → o ≡ None → r ≡ false → r ≡ is_at_hit axis test o
unfolding is_at_hit
hit_nowhere axis test o r e h = h ∙ sym (ap (is_at_hit axis test) e)

pub hit_view : (x v : Course) (r : Bool) → v ≡ x → r ≡ is_at_hit v.axis v.test v.present → r ≡ is_at_hit x.axis x.test x.present
hit_view x v r e h = h ∙ ap (λ (z : Course). is_at_hit z.axis z.test z.present) e

pub passes_spot : (axis : Axis) (test : Test) (n : Place) (t : Tree) (p q : List ℕ) (a : Option ℕ) (r : Bool) → t ≡ n.tree → q ≡ p
    → r ≡ tree_passes axis test (subtree_below (subtree_at t q) a) → r ≡ passes_at axis test (place_at n (p, a))
passes_spot axis test n t p q a r e f h =
    h ∙ ap (λ z. tree_passes axis test (subtree_below (subtree_at z q) a)) e ∙ ap (λ z. tree_passes axis test (subtree_below (subtree_at n.tree z) a)) f

got_place : (o : Option Place) (m : Place) → has_place m ≡ true → SomeIff o (IsTrue (has_place m)) m → o ≡ Some m
got_place None m h s = absurd (s h)
got_place (Some x) m h s = ap (λ (z : Place). Some z) s.1

-- the node that is found at the place is the present one
pub node_is : (o want : Option Place) (n m : Place) (p : List ℕ) (a : Option ℕ) → m ≡ place_at n (p, a) → has_spot n.tree (p, a) ≡ true → want ≡ Some (place_at n (p, a))
    → SomeIff o (IsTrue (has_place m)) m → o ≡ want
unfolding has_spot
node_is o want n m p a e h w s =
    let s' : SomeIff o (IsTrue (has_place (place_at n (p, a)))) (place_at n (p, a)) = subst (λ z. SomeIff o (IsTrue (has_place z)) z) e s in
    got_place o (place_at n (p, a)) h s' ∙ sym w

pub place_is : (n : Place) (number : ℕ) (t : Tree) (p q : List ℕ) (a : Option ℕ) → number ≡ n.number → t ≡ n.tree → q ≡ p
    → (let made : Place = record { number = number; tree = t; path = q; attribute = a } in made ≡ place_at n (p, a))
place_is n number t p q a e f g = cc

pub present_view : (x v : Course) → v ≡ x → x.present ≡ v.present
present_view x v e = sym (ap (λ (z : Course). z.present) e)

pub all_to_come : (axis : Axis) (test : Test) (n m : Place) (path : List ℕ) (attribute : Option ℕ) → m ≡ n
    → (let made : Course = record { start = m; axis = axis; test = test; begun = false; present = present_at false m path attribute } in to_come made ≡ axis_nodes axis n)
unfolding to_come come_after
all_to_come axis wanted n m path attribute e = ap (axis_nodes axis) e

no_more : (b : Bool) (axis : Axis) (n : Place) (p : List ℕ) (a : Option ℕ) (before : List Place) → b ≡ false
    → before ≡ option_to_list (present_at b n p a) ++ come_after axis n true (present_at b n p a) → before ≡ []
unfolding come_after present_at
no_more true axis n p a before h e = never (sym h)
no_more false axis n p a before h e = e

pub ends_walk : (x v : Course) (b : Bool) (axis : Axis) (n : Place) (p : List ℕ) (a : Option ℕ) → v ≡ x → come_after v.axis v.start v.begun v.present ≡ option_to_list (present_at b n p a) ++ come_after axis n true (present_at b n p a)
    → b ≡ false → to_come x ≡ []
unfolding to_come
ends_walk x v b axis n p a e h f = sym (ap to_come e) ∙ no_more b axis n p a (come_after v.axis v.start v.begun v.present) f h
