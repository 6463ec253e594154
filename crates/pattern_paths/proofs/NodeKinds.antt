-- Documents and attributes stand at the root of a sound tree, or as attributes of elements.
use Rattle.std.proofs.Common.{◌≡◌, ℕ, zero, suc, List, [], ◌∷◌, refl, ap, sym, ◌∙◌, Bool, true}
use Rattle.std.proofs.Common.{false}
use Rattle.std.proofs.lemmas.Bool.{and_parts}
use Rattle.std.specs.Prelude.{not, ◌&&◌, ◌||◌, Option, Some, None, is_some, option_map}
use Rattle.std.specs.Prelude.{option_and_then, slice_get}
use Rattle.xt_names.specs.Allowed.{is_empty_text}
use Rattle.xt_names.specs.Classes.{is_xml_text}
use Rattle.xt_tree.specs.declared.attributes.Attribute.{Attribute}
use Rattle.xt_tree.specs.declared.trees.Tree.{Tree}
use Rattle.xt_tree.specs.declared.trees.Tree.TheVariants.{Doc, Elem, Text, Comment, Pi, Attr}
use Rattle.xt_tree.specs.Forest.{Forest, end, doc, elem, text, comment, pi, attr}
use Rattle.xt_tree.specs.Kinds.{kind_of}
use Rattle.xt_tree.specs.Place.{Place, attribute_tree, has_place, subtree_at, subtree_attributes}
use Rattle.xt_tree.specs.Place.{subtree_of}
use Rattle.xt_tree.specs.Sound.{is_sound_name, are_sound_attributes, are_sound_behind}
use Rattle.xt_tree.specs.Sound.{is_sound_comment, is_sound_pi}
use Rattle.xt_tree.specs.Sound.{is_sound_root, is_sound_tree}
use Rattle.xt_tree.specs.TreeView.{trees, kids_of}
use Rattle.node_builder.proofs.SubtreeLemmas.{below_sound, root_part}
use Rattle.node_axes.specs.StepWalks.Within.{IsWithin}
use Rattle.match_patterns.specs.Patterns.{is_attribute_kind, is_document_kind, is_parentless}
use Rattle.match_patterns.specs.Patterns.{is_root_document, kind_at}

-- a node that is in a sound tree
pub record IsSoundPlace (n : Place) : Type 0 where
  pub tree : is_sound_tree n.tree ≡ true
  pub exists : has_place n ≡ true

pub sound_within : (n m : Place) → IsSoundPlace n → IsWithin n m → IsSoundPlace m
sound_within n m s w = record {
  tree = ap is_sound_tree w.tree_is ∙ s.tree;
  exists = w.exists;
}

-- what may stand below another node
unfoldable is_inner : Tree → Bool
is_inner (Doc kids) = false
is_inner (Elem name attributes kids) = true
is_inner (Text t) = true
is_inner (Comment t) = true
is_inner (Pi target t) = true
is_inner (Attr name t) = false

some_is : (s t : Tree) → Some s ≡ Some t → s ≡ t
some_is s t e = cc

kid_inner : (f : Forest) (after : Bool) (i : ℕ) (k : Tree) → are_sound_behind after f ≡ true →
    slice_get (trees f) i ≡ Some k → is_inner k ≡ true
unfolding is_inner
kid_inner end after i k h e = absurd cc
kid_inner (doc kids rest) after i k h e = absurd cc
kid_inner (elem name attributes kids rest) after zero k h e =
    ap is_inner (sym (some_is (Elem name attributes kids) k e))
kid_inner (elem name attributes kids rest) after (suc i) k h e =
    let p = and_parts (is_sound_name name && are_sound_attributes attributes && are_sound_behind
    false kids)
    (are_sound_behind false rest) h in
    kid_inner rest false i k p.1 e
kid_inner (text t rest) after zero k h e = ap is_inner (sym (some_is (Text t) k e))
kid_inner (text t rest) after (suc i) k h e =
    let p = and_parts (not after && not (is_empty_text t) && is_xml_text t)
    (are_sound_behind true rest) h in
    kid_inner rest true i k p.1 e
kid_inner (comment t rest) after zero k h e = ap is_inner (sym (some_is (Comment t) k e))
kid_inner (comment t rest) after (suc i) k h e =
    let p = and_parts (is_sound_comment t) (are_sound_behind false rest) h in kid_inner rest false
    i k p.1 e
kid_inner (pi target t rest) after zero k h e = ap is_inner (sym (some_is (Pi target t) k e))
kid_inner (pi target t rest) after (suc i) k h e =
    let p = and_parts (is_sound_pi target t) (are_sound_behind false rest) h in kid_inner rest
    false i k p.1 e
kid_inner (attr name t rest) after i k h e = absurd cc

child_inner : (t k : Tree) (i : ℕ) → is_sound_root t ≡ true → slice_get (kids_of t) i ≡ Some k →
    is_inner k ≡ true
child_inner (Doc kids) k i h e = kid_inner kids false i k h e
child_inner (Elem name attributes kids) k i h e =
    let p = and_parts (is_sound_name name && are_sound_attributes attributes)
    (are_sound_behind false kids) h in
    kid_inner kids false i k p.1 e
child_inner (Text t) k i h e = absurd cc
child_inner (Comment t) k i h e = absurd cc
child_inner (Pi target t) k i h e = absurd cc
child_inner (Attr name t) k i h e = absurd cc

abbrev Below : Option Tree → List ℕ → Tree → Type 0
Below o path x = option_and_then (λ kid. subtree_at kid path) o ≡ Some x

path_inner : (path : List ℕ) (i : ℕ) (t x : Tree) → is_sound_root t ≡ true →
    subtree_at t (i ∷ path) ≡ Some x → is_inner x ≡ true
path_inner [] i t x h e = by (slice_get (kids_of t) i) refl e
  where
    by : (o : Option Tree) → slice_get (kids_of t) i ≡ o → Below o [] x → is_inner x ≡ true
    by None f g = absurd cc
    by (Some k) f g = ap is_inner (sym (some_is k x g)) ∙ child_inner t k i h f
path_inner (j ∷ path) i t x h e =
    by (slice_get (kids_of t) i) refl e (λ k s g. path_inner path j k x s g)
  where
    by : (o : Option Tree) → slice_get (kids_of t) i ≡ o → Below o (j ∷ path) x →
        ((k : Tree) → is_sound_root k ≡ true → subtree_at k (j ∷ path) ≡ Some x → is_inner x
        ≡ true) →
        is_inner x ≡ true
    by None f g more = absurd cc
    by (Some k) f g more = more k (below_sound (i ∷ []) t k h (one f)) g
      where
        one : slice_get (kids_of t) i ≡ Some k → subtree_at t (i ∷ []) ≡ Some k
        one u = ap (λ o. option_and_then (λ kid. subtree_at kid []) o) u

-- attributes and documents by the tree below them

abbrev pub is_attribute_tree : Tree → Bool
is_attribute_tree t = is_attribute_kind (Some (kind_of t))

abbrev pub is_document_tree : Tree → Bool
is_document_tree t = is_document_kind (Some (kind_of t))

abbrev place : ℕ → Tree → List ℕ → Option ℕ → Place
place number tree path attribute =
    record { number = number; tree = tree; path = path; attribute = attribute }

attribute_alone : (o : Option Attribute) (t : Tree) → option_map attribute_tree o ≡ Some t →
    (is_attribute_tree t ≡ true) × (is_document_tree t ≡ false)
unfolding is_attribute_kind is_document_kind
attribute_alone None t e = absurd cc
attribute_alone (Some a) t e =
    let f = some_is (attribute_tree a) t e in
    (ap is_attribute_tree (sym f), ap is_document_tree (sym f))

inner_kind : (t : Tree) → is_inner t ≡ true →
    (is_attribute_tree t ≡ false) × (is_document_tree t ≡ false)
unfolding is_inner is_attribute_kind is_document_kind
inner_kind (Doc kids) h = absurd cc
inner_kind (Elem name attributes kids) h = (refl, refl)
inner_kind (Text t) h = (refl, refl)
inner_kind (Comment t) h = (refl, refl)
inner_kind (Pi target t) h = (refl, refl)
inner_kind (Attr name t) h = absurd cc

attribute_parts : (number : ℕ) (tree : Tree) (path : List ℕ) (attribute : Option ℕ) (t : Tree) →
    is_sound_root tree ≡ true → subtree_of (place number tree path attribute) ≡ Some t →
    (is_some attribute
    || (is_parentless (place number tree path attribute) && is_attribute_kind (Some (kind_of t))))
    ≡ is_attribute_tree t
attribute_parts number tree path (Some i) t s e =
    sym (attribute_alone (slice_get (subtree_attributes (subtree_at tree path)) i) t e).0
attribute_parts number tree [] None t s e = refl
attribute_parts number tree (i ∷ path) None t s e = sym
    (inner_kind t (path_inner path i tree t s e)).0

document_parts : (number : ℕ) (tree : Tree) (path : List ℕ) (attribute : Option ℕ) (t : Tree) →
    is_sound_root tree ≡ true → subtree_of (place number tree path attribute) ≡ Some t →
    (is_parentless (place number tree path attribute) && is_document_kind (Some (kind_of t)))
    ≡ is_document_tree t
document_parts number tree path (Some i) t s e =
    sym (attribute_alone (slice_get (subtree_attributes (subtree_at tree path)) i) t e).1
document_parts number tree [] None t s e = refl
document_parts number tree (i ∷ path) None t s e = sym
    (inner_kind t (path_inner path i tree t s e)).1

kind_below : (n : Place) (t : Tree) → subtree_of n ≡ Some t → kind_at n ≡ Some (kind_of t)
kind_below n t e = ap (λ o. option_map kind_of o) e

pub attribute_stands : (n : Place) (t : Tree) → IsSoundPlace n → subtree_of n ≡ Some t →
    (is_some n.attribute || (is_parentless n && is_attribute_kind (kind_at n)))
    ≡ is_attribute_tree t
attribute_stands n t s e =
    ap (λ k. is_some n.attribute || (is_parentless n && is_attribute_kind k)) (kind_below n t e)
    ∙ attribute_parts n.number n.tree n.path n.attribute t (root_part n.tree s.tree) e

pub document_stands : (n : Place) (t : Tree) → IsSoundPlace n → subtree_of n ≡ Some t →
    is_root_document n ≡ is_document_tree t
document_stands n t s e =
    ap (λ k. is_parentless n && is_document_kind k) (kind_below n t e)
    ∙ document_parts n.number n.tree n.path n.attribute t (root_part n.tree s.tree) e
