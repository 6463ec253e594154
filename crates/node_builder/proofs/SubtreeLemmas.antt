-- What stands below a node of a sound tree is sound.
use Rattle.std.proofs.Common.{◌≡◌, ℕ, zero, suc, List, [], ◌∷◌, Bool, true, false, not, ◌&&◌, Option, Some, None, refl, subst, slice_get}
use Rattle.std.proofs.lemmas.Bool.{and_parts}
use Rattle.std.specs.Prelude.{nat_le, option_and_then, option_map}
use Rattle.std.specs.List.{list_all}
use Rattle.xt_names.specs.Allowed.{is_empty_text}
use Rattle.xt_names.specs.Classes.{is_xml_text}
use Rattle.xt_tree.specs.Forest.{Forest, end, doc, elem, text, comment, pi, attr}
use Rattle.xt_tree.specs.Place.{Place, subtree_at, subtree_attributes, subtree_below, subtree_of, attribute_tree}
use Rattle.xt_tree.specs.Sound.{is_sound_name, is_sound_attribute, names_differ, are_sound_attributes, is_sound_comment, is_sound_pi, are_sound_behind, is_sound_root, is_sound_tree}
use Rattle.xt_tree.specs.TreeView.{trees, kids_of, attributes_of, tree_height, tree_size}
use Rattle.xt_tree.specs.declared.attributes.Attribute.{Attribute}
use Rattle.xt_tree.specs.declared.trees.Tree.{Tree}
use Rattle.xt_tree.specs.declared.trees.Tree.TheVariants.{Doc, Elem, Text, Comment, Pi, Attr}

-- a child of a sound node
pub kid_sound : (f : Forest) (after : Bool) (i : ℕ) (k : Tree) → are_sound_behind after f ≡ true → slice_get (trees f) i ≡ Some k → is_sound_root k ≡ true
kid_sound end after i k h e = absurd cc
kid_sound (doc kids rest) after i k h e = absurd cc
kid_sound (elem name attributes kids rest) after zero k h e =
    let p = and_parts (is_sound_name name && are_sound_attributes attributes && are_sound_behind false kids) (are_sound_behind false rest) h in
    let same : Elem name attributes kids ≡ k = cc in subst (λ x. is_sound_root x ≡ true) same p.0
kid_sound (elem name attributes kids rest) after (suc i) k h e =
    let p = and_parts (is_sound_name name && are_sound_attributes attributes && are_sound_behind false kids) (are_sound_behind false rest) h in
    kid_sound rest false i k p.1 e
kid_sound (text t rest) after zero k h e =
    let p = and_parts (not after && not (is_empty_text t) && is_xml_text t) (are_sound_behind true rest) h in
    let q = and_parts (not after && not (is_empty_text t)) (is_xml_text t) p.0 in
    let same : Text t ≡ k = cc in subst (λ x. is_sound_root x ≡ true) same q.1
kid_sound (text t rest) after (suc i) k h e =
    let p = and_parts (not after && not (is_empty_text t) && is_xml_text t) (are_sound_behind true rest) h in kid_sound rest true i k p.1 e
kid_sound (comment t rest) after zero k h e =
    let p = and_parts (is_sound_comment t) (are_sound_behind false rest) h in
    let same : Comment t ≡ k = cc in subst (λ x. is_sound_root x ≡ true) same p.0
kid_sound (comment t rest) after (suc i) k h e = let p = and_parts (is_sound_comment t) (are_sound_behind false rest) h in kid_sound rest false i k p.1 e
kid_sound (pi target t rest) after zero k h e =
    let p = and_parts (is_sound_pi target t) (are_sound_behind false rest) h in
    let same : Pi target t ≡ k = cc in subst (λ x. is_sound_root x ≡ true) same p.0
kid_sound (pi target t rest) after (suc i) k h e = let p = and_parts (is_sound_pi target t) (are_sound_behind false rest) h in kid_sound rest false i k p.1 e
kid_sound (attr name t rest) after i k h e = absurd cc

step_sound : (t k : Tree) (i : ℕ) → is_sound_root t ≡ true → slice_get (kids_of t) i ≡ Some k → is_sound_root k ≡ true
step_sound (Doc kids) k i h e = kid_sound kids false i k h e
step_sound (Elem name attributes kids) k i h e =
    let p = and_parts (is_sound_name name && are_sound_attributes attributes) (are_sound_behind false kids) h in kid_sound kids false i k p.1 e
step_sound (Text t) k i h e = absurd cc
step_sound (Comment t) k i h e = absurd cc
step_sound (Pi target t) k i h e = absurd cc
step_sound (Attr name t) k i h e = absurd cc

-- the tree below a path
pub below_sound : (path : List ℕ) (t s : Tree) → is_sound_root t ≡ true → subtree_at t path ≡ Some s → is_sound_root s ≡ true
below_sound [] t s h e = let same : t ≡ s = cc in subst (λ x. is_sound_root x ≡ true) same h
below_sound (i ∷ path) t s h e = by_kid (slice_get (kids_of t) i) (λ k f g. below_sound path k s (step_sound t k i h f) g) e where
  by_kid : (o : Option Tree) → ((k : Tree) → o ≡ Some k → subtree_at k path ≡ Some s → is_sound_root s ≡ true) → option_and_then (λ k. subtree_at k path) o ≡ Some s → is_sound_root s ≡ true
  by_kid None f g = absurd cc
  by_kid (Some k) f g = f k refl g

attribute_sound : (attributes : List Attribute) (i : ℕ) (a : Attribute) → list_all (λ x. is_sound_attribute x.name x.value) attributes ≡ true → slice_get attributes i ≡ Some a → is_sound_attribute a.name a.value ≡ true
attribute_sound [] i a h e = absurd cc
attribute_sound (x ∷ xs) zero a h e =
    let p = and_parts (is_sound_attribute x.name x.value) (list_all (λ y. is_sound_attribute y.name y.value) xs) h in
    let same : x ≡ a = cc in subst (λ y. is_sound_attribute y.name y.value ≡ true) same p.0
attribute_sound (x ∷ xs) (suc i) a h e =
    let p = and_parts (is_sound_attribute x.name x.value) (list_all (λ y. is_sound_attribute y.name y.value) xs) h in attribute_sound xs i a p.1 e

pub own_attributes : (attributes : List Attribute) → are_sound_attributes attributes ≡ true → (list_all (λ x. is_sound_attribute x.name x.value) attributes ≡ true) × (names_differ attributes ≡ true)
unfolding are_sound_attributes
own_attributes attributes h = and_parts (list_all (λ x. is_sound_attribute x.name x.value) attributes) (names_differ attributes) h

attributes_sound : (t : Tree) (i : ℕ) (a : Attribute) → is_sound_root t ≡ true → slice_get (attributes_of t) i ≡ Some a → is_sound_attribute a.name a.value ≡ true
attributes_sound (Doc kids) i a h e = absurd cc
attributes_sound (Elem name attributes kids) i a h e =
    let p = and_parts (is_sound_name name && are_sound_attributes attributes) (are_sound_behind false kids) h in
    let q = and_parts (is_sound_name name) (are_sound_attributes attributes) p.0 in
    attribute_sound attributes i a (own_attributes attributes q.1).0 e
attributes_sound (Text t) i a h e = absurd cc
attributes_sound (Comment t) i a h e = absurd cc
attributes_sound (Pi target t) i a h e = absurd cc
attributes_sound (Attr name t) i a h e = absurd cc

lone_sound : (o : Option Attribute) (x : Tree) → ((a : Attribute) → o ≡ Some a → is_sound_attribute a.name a.value ≡ true) → option_map attribute_tree o ≡ Some x → is_sound_root x ≡ true
lone_sound None x h e = absurd cc
lone_sound (Some a) x h e = let same : attribute_tree a ≡ x = cc in subst (λ y. is_sound_root y ≡ true) same (h a refl)

place_sound : (o : Option Tree) (attribute : Option ℕ) (x : Tree) → ((s : Tree) → o ≡ Some s → is_sound_root s ≡ true) → subtree_below o attribute ≡ Some x → is_sound_root x ≡ true
place_sound o None x h e = h x e
place_sound None (Some i) x h e = lone_sound (slice_get (subtree_attributes None) i) x (λ a f. absurd cc) e
place_sound (Some s) (Some i) x h e = lone_sound (slice_get (attributes_of s) i) x (λ a f. attributes_sound s i a (h s refl) f) e

pub root_part : (t : Tree) → is_sound_tree t ≡ true → is_sound_root t ≡ true
root_part t h =
    let p = and_parts (is_sound_root t && nat_le (tree_height t) 2000) (nat_le (tree_size t) 0x7FFF_FFFF_FFFF_FFFF) h in
    (and_parts (is_sound_root t) (nat_le (tree_height t) 2000) p.0).0

pub subtree_sound : (n : Place) (x : Tree) → is_sound_tree n.tree ≡ true → subtree_of n ≡ Some x → is_sound_root x ≡ true
subtree_sound n x h e = place_sound (subtree_at n.tree n.path) n.attribute x (λ s f. below_sound n.path n.tree s (root_part n.tree h) f) e
