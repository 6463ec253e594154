-- What constructors make of sound content is sound.
use Rattle.std.proofs.Common.{◌≡◌, ℕ, ◌+◌, List, [], ◌∷◌, ◌++◌, map, refl}
use Rattle.std.proofs.Common.{true, false, not, ◌&&◌}
use Rattle.std.proofs.lemmas.Bool.{and_from}
use Rattle.std.specs.Prelude.{Option, Some, None, Ok}
use Rattle.xt_names.specs.Classes.{is_ncname_text}
use Rattle.xt_names.specs.declared.names.Name.{Name}
use Rattle.xt_atoms.specs.AtomTexts.{text_of}
use Rattle.xt_tree.specs.Sound.{is_sound_name, is_named_xmlns, is_sound_attribute}
use Rattle.xt_tree.specs.Sound.{is_xml_in_any_case, is_sound_root, is_sound_tree}
use Rattle.xt_tree.specs.declared.trees.Tree.{Tree}
use Rattle.xt_tree.specs.declared.trees.Tree.TheVariants as tree
use Rattle.xdm_items.specs.declared.items.Item.{Item}
use Rattle.xdm_items.specs.declared.items.Item.TheVariants.{Node, Atom}
use Rattle.node_builder.specs.Answers.{Builds, root_place}
use Rattle.node_builder.specs.Made.{Made, Gives, Fails as Refuses}
use Rattle.node_builder.specs.Simple.{joined_behind as behind, joined_with}
use Rattle.node_builder.specs.SoundItems.{is_sound_item, are_sound_items}
use Rattle.node_builder.specs.Trees.{numbered, element_of, document_of, comment_of, pi_of}
use Rattle.node_builder.specs.declared.kinds.Duplicates.TheVariants.{Refuse}
use Rattle.node_builder.proofs.SoundTrees.{element_sound, document_sound, given_sound}
use Rattle.node_builder.proofs.SoundTrees.{comment_sound, pi_sound}
use Rattle.operator_values.specs.Operands.{atom_of}
use Rattle.expr_meaning.specs.Outcomes.Outcome.{Every}
use Rattle.expr_meaning.proofs.OutcomesLemmas.Relations.{every_append}
use Rattle.expr_meaning.specs.Making.{made, made_outcome, spaced_text, literal_node, with_text}
use Rattle.expr_meaning.specs.Making.{text_item, joined_behind, joined_atoms}
use Rattle.meaning_laws.specs.SoundValues.Sound.{IsSound}
use Rattle.meaning_laws.proofs.SoundValues.Lists.{OnSome}
use Rattle.meaning_laws.proofs.SoundValues.Texts.{IsXml, no_text, xml_append, xml_space}
use Rattle.meaning_laws.proofs.SoundValues.Trees.{IsName, atom_text, tree_part, value_atom}
use Rattle.meaning_laws.proofs.SoundValues.Arguments.{AllSound}
use Rattle.meaning_laws.specs.SoundRuns.Sound.{EndsSound}

-- sound values are what constructors take
one_taken : (x : Item) → IsSound x → is_sound_item x ≡ true
one_taken (Node n) h = tree_part n h
one_taken (Atom a) h = atom_text a h

pub all_taken : (xs : List Item) → AllSound xs → are_sound_items xs ≡ true
unfolding are_sound_items
all_taken [] h = refl
all_taken (x ∷ xs) h =
    and_from (is_sound_item x) (are_sound_items xs) (one_taken x h.0) (all_taken xs h.1)

-- the text of values
behind_known : (ts : List (List ℕ)) → Every IsXml ts → IsXml (behind (32 ∷ []) ts)
behind_known [] h = no_text
behind_known (t ∷ ts) h =
    xml_append (32 ∷ []) (t ++ behind (32 ∷ []) ts) xml_space
    (xml_append t (behind (32 ∷ []) ts) h.0 (behind_known ts h.1))

joined_known : (ts : List (List ℕ)) → Every IsXml ts → IsXml (joined_with (32 ∷ []) ts)
joined_known [] h = no_text
joined_known (t ∷ ts) h = xml_append t (behind (32 ∷ []) ts) h.0 (behind_known ts h.1)

texts_known : (xs : List Item) → AllSound xs → Every IsXml (map (λ x. text_of (atom_of x)) xs)
texts_known [] h = tt
texts_known (x ∷ xs) h = (atom_text (atom_of x) (value_atom x h.0), texts_known xs h.1)

pub spaced_known : (xs : List Item) → AllSound xs → IsXml (spaced_text xs)
unfolding spaced_text
spaced_known xs h = joined_known (map (λ x. text_of (atom_of x)) xs) (texts_known xs h)

-- literal content

pub literal_text : (t : List ℕ) → IsXml t → IsSound (literal_node (tree.Text t))
literal_text t h = and_from _ _ (and_from _ _ (and_from _ _ h refl) refl) refl

attribute_root : (n : Name) (t : List ℕ) → (is_sound_name n && not (is_named_xmlns n)) ≡ true →
    IsXml t → is_sound_attribute n t ≡ true
unfolding is_sound_attribute
attribute_root n t h g = and_from _ _ h g

pub literal_attribute : (n : Name) (t : List ℕ) →
    (is_sound_name n && not (is_named_xmlns n)) ≡ true → IsXml t →
    IsSound (literal_node (tree.Attr n t))
literal_attribute n t h g =
    and_from _ _ (and_from _ _ (and_from _ _ (attribute_root n t h g) refl) refl) refl

-- runs of atoms as one text
run_known : (run : Option (List ℕ)) → OnSome IsXml run → AllSound (text_item run)
run_known None h = tt
run_known (Some t) h = (literal_text t h, tt)

more_known : (run : Option (List ℕ)) (t : List ℕ) → OnSome IsXml run → IsXml t →
    OnSome IsXml (with_text run t)
more_known None t h g = g
more_known (Some u) t h g = xml_append u (32 ∷ t) h (xml_append (32 ∷ []) t xml_space g)

atoms_known : (run : Option (List ℕ)) (xs : List Item) → OnSome IsXml run → AllSound xs →
    AllSound (joined_behind run xs)
atoms_known run [] h g = run_known run h
atoms_known run (Atom a ∷ xs) h g =
    atoms_known (with_text run (text_of a)) xs (more_known run (text_of a) h (atom_text a g.0)) g.1
atoms_known run (Node n ∷ xs) h g =
    every_append IsSound (text_item run) (Node n ∷ joined_behind None xs) (run_known run h)
    (g.0, atoms_known None xs tt g.1)

pub joined_sound : (xs : List Item) → AllSound xs → AllSound (joined_atoms xs)
unfolding joined_atoms
joined_sound xs h = atoms_known None xs tt h

-- trees with the next number
pub new_root : (k : ℕ) (o : Made Tree) (t : Tree) → o ≡ Gives t →
    Builds k (k + 1) (Ok (root_place k t)) o
new_root k o t e = record { made = e; root = refl; raised = refl }

pub ends_by : (k : ℕ) (o : Made Tree) →
    ((t : Tree) → numbered k o ≡ Gives t → is_sound_tree t ≡ true) → EndsSound (made o k)
ends_by k o h = by (numbered k o) h
  where
    by : (m : Made Tree) → ((t : Tree) → m ≡ Gives t → is_sound_tree t ≡ true) →
        EndsSound (made_outcome k m)
    by (Gives t) g = (and_from _ _ (g t refl) refl, tt)
    by (Refuses code) g = tt

pub element_ends : (n : Name) (xs : List Item) → IsName n → AllSound xs → (k : ℕ) →
    EndsSound (made (element_of Refuse n xs) k)
element_ends n xs h g k =
    ends_by k (element_of Refuse n xs) (λ t e. element_sound k (k + 1) (Ok (root_place k t)) Refuse
    n xs (new_root k (numbered k (element_of Refuse n xs)) t e) h (all_taken xs g))

pub document_ends : (xs : List Item) → AllSound xs → (k : ℕ) →
    EndsSound (made (document_of Refuse xs) k)
document_ends xs g k =
    ends_by k (document_of Refuse xs) (λ t e. document_sound k (k + 1) (Ok (root_place k t)) Refuse
    xs (new_root k (numbered k (document_of Refuse xs)) t e) (all_taken xs g))

pub given_ends : (t : Tree) → is_sound_root t ≡ true → (k : ℕ) → EndsSound (made (Gives t) k)
given_ends t h k =
    ends_by k (Gives t) (λ u e. given_sound k (k + 1) (Ok (root_place k u)) t
    (new_root k (numbered k (Gives t)) u e) h)

pub attribute_ends : (n : Name) (t : List ℕ) →
    (is_sound_name n && not (is_named_xmlns n)) ≡ true → IsXml t → (k : ℕ) →
    EndsSound (made (Gives (tree.Attr n t)) k)
attribute_ends n t h g k = given_ends (tree.Attr n t) (attribute_root n t h g) k

pub text_ends : (t : List ℕ) → IsXml t → (k : ℕ) → EndsSound (made (Gives (tree.Text t)) k)
text_ends t h k = given_ends (tree.Text t) h k

pub comment_ends : (t : List ℕ) → IsXml t → (k : ℕ) → EndsSound (made (comment_of t) k)
comment_ends t h k =
    ends_by k (comment_of t) (λ u e. comment_sound k (k + 1) (Ok (root_place k u)) t
    (new_root k (numbered k (comment_of t)) u e) h)

pub pi_ends : (target t : List ℕ) →
    (is_ncname_text target ≡ true) × (is_xml_in_any_case target ≡ false) → IsXml t → (k : ℕ) →
    EndsSound (made (pi_of target t) k)
pi_ends target t n h k =
    ends_by k (pi_of target t) (λ u e. pi_sound k (k + 1) (Ok (root_place k u)) target t
    (new_root k (numbered k (pi_of target t)) u e) n.0 n.1 h)
