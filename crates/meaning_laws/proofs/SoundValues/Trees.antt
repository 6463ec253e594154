-- What is read of sound trees is sound: string values, typed values and names.
use Rattle.std.proofs.Common.{◌≡◌, ℕ, List, [], ◌∷◌, ◌++◌, Bool, true, false, not, ◌&&◌, refl}
use Rattle.std.proofs.Common.{codes}
use Rattle.std.proofs.lemmas.Bool.{and_parts, and_from}
use Rattle.std.specs.Prelude.{Option, Some, None, option_and_then, if◌then◌else◌}
use Rattle.xt_names.specs.Allowed.{is_allowed_name, is_prefix_of, is_empty_text, keeps_xml}
use Rattle.xt_names.specs.Allowed.{keeps_xmlns}
use Rattle.xt_names.specs.Classes.{is_in_ranges, is_xml_text, is_ncname_text}
use Rattle.xt_names.specs.Marks.{has_pair, ends_with, begins_white}
use Rattle.xt_names.specs.declared.names.Name.{Name}
use Rattle.xt_tree.specs.Forest.{Forest, end, doc, elem, text, comment, pi, attr, texts}
use Rattle.xt_tree.specs.Kinds.{name_of, target_of}
use Rattle.xt_tree.specs.Place.{Place, subtree_of, has_place}
use Rattle.xt_tree.specs.Sound.{is_sound_name, is_named_xmlns, is_sound_attribute}
use Rattle.xt_tree.specs.Sound.{are_sound_attributes, is_sound_comment, is_sound_pi}
use Rattle.xt_tree.specs.Sound.{is_xml_in_any_case, are_sound_behind, is_sound_root, is_sound_tree}
use Rattle.xt_tree.specs.TreeView as tree_view
use Rattle.xt_tree.specs.declared.trees.Tree.{Tree}
use Rattle.xt_tree.specs.declared.trees.Tree.TheVariants.{Doc, Elem, Text, Comment, Pi, Attr}
use Rattle.xt_atoms.specs.AtomTexts.{text_of, boolean_text, lexical_qname}
use Rattle.xt_atoms.specs.declared.atoms.Atom.{Atom as AtomValue}
use Rattle.xt_atoms.specs.declared.atoms.Atom.TheVariants as atom
use Rattle.xdm_items.specs.Values.{string_value_below, string_value_of, typed_value}
use Rattle.xdm_items.specs.Values.{typed_value_below, atomized_item, atomized}
use Rattle.xdm_items.specs.declared.items.Item.{Item}
use Rattle.xdm_items.specs.declared.items.Item.TheVariants.{Node, Atom}
use Rattle.node_builder.proofs.SubtreeLemmas.{subtree_sound}
use Rattle.text_functions.specs.NameFunctions.NodeNames.{target_name, name_or_target, place_name}
use Rattle.operator_values.specs.Operands.{atom_of}
use Rattle.expr_meaning.specs.Outcomes.Outcome.{Every}
use Rattle.meaning_laws.specs.SoundValues.Sound.{is_sound_atom, IsSound}
use Rattle.meaning_laws.proofs.SoundValues.Lists.{OnSome}
use Rattle.meaning_laws.proofs.SoundValues.Texts.{IsXml, no_text, xml_append, name_is_text, number_text}
use Rattle.meaning_laws.proofs.SoundValues.Texts.{colon_text}

abbrev pub IsName : Name → Type 0
IsName n = is_sound_name n ≡ true

abbrev pub IsSoundAtom : AtomValue → Type 0
IsSoundAtom a = is_sound_atom a ≡ true

-- the texts of a name
pub record NameTexts (n : Name) : Type 0 where
  pub prefix : IsXml n.prefix
  pub uri : IsXml n.uri
  pub local : IsXml n.local

prefix_text : (prefix uri : List ℕ) → is_prefix_of prefix uri ≡ true → IsXml prefix
unfolding is_prefix_of is_empty_text
prefix_text [] uri h = no_text
prefix_text (c ∷ cs) uri h =
    name_is_text (c ∷ cs)
    (and_parts (is_ncname_text (c ∷ cs)) (not (is_empty_text uri)) h).0

pub name_texts : (n : Name) → IsName n → NameTexts n
unfolding is_sound_name is_allowed_name
name_texts n h =
    let local = is_ncname_text n.local in let prefix = is_prefix_of n.prefix n.uri in
    let xml = keeps_xml n.prefix n.uri in let xmlns = keeps_xmlns n.prefix n.uri in
    let a = and_parts (local && prefix && xml && xmlns) (is_xml_text n.uri) h in
    let b = and_parts (local && prefix && xml) xmlns a.0 in
    let c = and_parts (local && prefix) xml b.0 in
    let d = and_parts local prefix c.0 in
    record {
      prefix = prefix_text n.prefix n.uri d.1;
      uri = a.1;
      local = name_is_text n.local d.0;
    }

-- a target alone is a name
pub target_is_name : (target : List ℕ) → is_ncname_text target ≡ true →
    IsName (target_name target)
unfolding is_sound_name is_allowed_name is_prefix_of is_empty_text keeps_xml keeps_xmlns
target_is_name target h =
    and_from _ _ (and_from _ _ (and_from _ _ (and_from _ _ h refl) refl) refl) no_text

-- the text of an atom
lexical_text : (prefix local : List ℕ) → IsXml prefix → IsXml local →
    IsXml (lexical_qname prefix local)
unfolding lexical_qname
lexical_text prefix local p l = by (is_empty_text prefix)
  where
    by : (b : Bool) → IsXml (if b then local else prefix ++ codes ":" ++ local)
    by true = l
    by false =
        xml_append (prefix ++ codes ":") local (xml_append prefix (codes ":") p colon_text) l

truth_text : (t : Bool) → IsXml (boolean_text t)
unfolding boolean_text is_xml_text is_in_ranges
truth_text true = refl
truth_text false = refl

pub atom_text : (a : AtomValue) → IsSoundAtom a → IsXml (text_of a)
unfolding text_of
atom_text (atom.Str t) h = h
atom_text (atom.Untyped t) h = h
atom_text (atom.Int n) h = number_text n
atom_text (atom.Bool t) h = truth_text t
atom_text (atom.QName n) h =
    let x = name_texts n h in lexical_text n.prefix n.local x.prefix x.local

-- the texts of a sound forest
pub texts_known : (f : Forest) (after : Bool) → are_sound_behind after f ≡ true → IsXml (texts f)
texts_known end after h = no_text
texts_known (doc kids rest) after h = absurd cc
texts_known (elem name attributes kids rest) after h =
    let own = is_sound_name name && are_sound_attributes attributes in
    let p = and_parts (own && are_sound_behind false kids) (are_sound_behind false rest) h in
    let q = and_parts own (are_sound_behind false kids) p.0 in
    xml_append (texts kids) (texts rest) (texts_known kids false q.1) (texts_known rest false p.1)
texts_known (text t rest) after h =
    let some = not after && not (is_empty_text t) in
    let p = and_parts (some && is_xml_text t) (are_sound_behind true rest) h in
    let q = and_parts some (is_xml_text t) p.0 in
    xml_append t (texts rest) q.1 (texts_known rest true p.1)
texts_known (comment t rest) after h =
    texts_known rest false (and_parts (is_sound_comment t) (are_sound_behind false rest) h).1
texts_known (pi target t rest) after h =
    texts_known rest false (and_parts (is_sound_pi target t) (are_sound_behind false rest) h).1
texts_known (attr name t rest) after h = absurd cc

comment_text : (t : List ℕ) → is_sound_comment t ≡ true → IsXml t
unfolding is_sound_comment
comment_text t h =
    let p = and_parts (is_xml_text t && not (has_pair 45 45 t)) (not (ends_with 45 t)) h in
    (and_parts (is_xml_text t) (not (has_pair 45 45 t)) p.0).0

-- the target and the text of a processing instruction
pi_parts : (target t : List ℕ) → is_sound_pi target t ≡ true →
    (is_ncname_text target ≡ true) × IsXml t
unfolding is_sound_pi
pi_parts target t h =
    let name = is_ncname_text target && not (is_xml_in_any_case target) in
    let pair = not (has_pair 63 62 t) in
    let a = and_parts (name && is_xml_text t && pair) (not (begins_white t)) h in
    let b = and_parts (name && is_xml_text t) pair a.0 in
    let c = and_parts name (is_xml_text t) b.0 in
    ((and_parts (is_ncname_text target) (not (is_xml_in_any_case target)) c.0).0, c.1)

pub attribute_parts : (n : Name) (t : List ℕ) → is_sound_attribute n t ≡ true → IsName n × IsXml t
unfolding is_sound_attribute
attribute_parts n t h =
    let a = and_parts (is_sound_name n && not (is_named_xmlns n)) (is_xml_text t) h in
    ((and_parts (is_sound_name n) (not (is_named_xmlns n)) a.0).0, a.1)

-- the parts of an element
pub element_parts : (n : Name) (rest kids : Bool) → (is_sound_name n && rest && kids) ≡ true →
    IsName n × (kids ≡ true)
element_parts n rest kids h =
    let a = and_parts (is_sound_name n && rest) kids h in
    ((and_parts (is_sound_name n) rest a.0).0, a.1)

pub tree_text : (t : Tree) → is_sound_root t ≡ true → IsXml (tree_view.string_value_of t)
tree_text (Doc kids) h = texts_known kids false h
tree_text (Elem n attributes kids) h =
    texts_known kids false
    (element_parts n (are_sound_attributes attributes) (are_sound_behind false kids) h).1
tree_text (Text t) h = h
tree_text (Comment t) h = comment_text t h
tree_text (Pi target t) h = (pi_parts target t h).1
tree_text (Attr n t) h = (attribute_parts n t h).1

tree_atom : (t : Tree) → is_sound_root t ≡ true → IsSoundAtom (typed_value t)
tree_atom (Doc kids) h = texts_known kids false h
tree_atom (Elem n attributes kids) h =
    texts_known kids false
    (element_parts n (are_sound_attributes attributes) (are_sound_behind false kids) h).1
tree_atom (Text t) h = h
tree_atom (Comment t) h = comment_text t h
tree_atom (Pi target t) h = (pi_parts target t h).1
tree_atom (Attr n t) h = (attribute_parts n t h).1

tree_name : (t : Tree) → is_sound_root t ≡ true →
    OnSome IsName (name_or_target (name_of t) (target_of t))
tree_name (Doc kids) h = tt
tree_name (Elem n attributes kids) h =
    (element_parts n (are_sound_attributes attributes) (are_sound_behind false kids) h).0
tree_name (Text t) h = tt
tree_name (Comment t) h = tt
tree_name (Pi target t) h = target_is_name target (pi_parts target t h).0
tree_name (Attr n t) h = (attribute_parts n t h).0

-- a node of a sound tree
abbrev IsBelow : Option Tree → Type 0
IsBelow o = OnSome (λ t. is_sound_root t ≡ true) o

below_known : (n : Place) → is_sound_tree n.tree ≡ true → IsBelow (subtree_of n)
below_known n h = by (subtree_of n) (λ x e. subtree_sound n x h e)
  where
    by : (o : Option Tree) → ((x : Tree) → o ≡ Some x → is_sound_root x ≡ true) → IsBelow o
    by None g = tt
    by (Some t) g = g t refl

below_text : (o : Option Tree) → IsBelow o → IsXml (string_value_below o)
below_text None h = no_text
below_text (Some t) h = tree_text t h

below_atom : (o : Option Tree) → IsBelow o → IsSoundAtom (typed_value_below o)
below_atom None h = no_text
below_atom (Some t) h = tree_atom t h

below_name : (o : Option Tree) → IsBelow o →
    OnSome IsName (name_or_target (option_and_then name_of o) (option_and_then target_of o))
below_name None h = tt
below_name (Some t) h = tree_name t h

pub place_named : (n : Place) → is_sound_tree n.tree ≡ true → OnSome IsName (place_name n)
unfolding place_name
place_named n h = below_name (subtree_of n) (below_known n h)

pub tree_part : (n : Place) → IsSound (Node n) → is_sound_tree n.tree ≡ true
tree_part n h = (and_parts (is_sound_tree n.tree) (has_place n) h).0

pub value_text : (x : Item) → IsSound x → IsXml (string_value_of x)
value_text (Node n) h = below_text (subtree_of n) (below_known n (tree_part n h))
value_text (Atom a) h = atom_text a h

pub value_atom : (x : Item) → IsSound x → IsSoundAtom (atom_of x)
value_atom (Node n) h = below_atom (subtree_of n) (below_known n (tree_part n h))
value_atom (Atom a) h = h

one_atomized : (x : Item) → IsSound x → IsSound (atomized_item x)
one_atomized (Node n) h = below_atom (subtree_of n) (below_known n (tree_part n h))
one_atomized (Atom a) h = h

pub all_atomized : (xs : List Item) → Every IsSound xs → Every IsSound (atomized xs)
unfolding atomized
all_atomized [] h = tt
all_atomized (x ∷ xs) h = (one_atomized x h.0, all_atomized xs h.1)
