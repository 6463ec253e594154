-- The simple content of sound items has characters of XML alone.
use Rattle.std.proofs.Common.{◌≡◌, ◌++◌, ℕ, List, [], ◌∷◌, map, refl}
use Rattle.std.specs.Prelude.{Option, Some, None, true}
use Rattle.xt_tree.specs.Place.{subtree_of}
use Rattle.xt_tree.specs.Sound.{is_sound_root}
use Rattle.xt_tree.specs.declared.trees.Tree.{Tree}
use Rattle.xt_tree.specs.declared.trees.Tree.TheVariants.{Doc, Elem, Text, Comment, Pi, Attr}
use Rattle.xdm_items.specs.declared.items.Item.{Item}
use Rattle.xdm_items.specs.declared.items.Item.TheVariants.{Node, Atom}
use Rattle.node_builder.specs.Simple.{Part, run, value, part_of, part_of_tree, part_below}
use Rattle.node_builder.specs.Simple.{without_empty_runs, merge_run, merged_runs, part_text}
use Rattle.node_builder.specs.Simple.{joined_behind, joined_with, simple_content}
use Rattle.node_builder.proofs.SubtreeLemmas.{subtree_sound}
use Rattle.expr_meaning.specs.Outcomes.Outcome.{Every}
use Rattle.meaning_laws.specs.SoundValues.Sound.{IsSound}
use Rattle.meaning_laws.proofs.SoundValues.Arguments.{AllSound}
use Rattle.meaning_laws.proofs.SoundValues.Texts.{IsXml, no_text, xml_append}
use Rattle.meaning_laws.proofs.SoundValues.Trees.{atom_text, tree_part, tree_text}

abbrev IsXmlPart : Part → Type 0
IsXmlPart p = IsXml (part_text p)

part_in_tree : (t : Tree) → is_sound_root t ≡ true → IsXmlPart (part_of_tree t)
part_in_tree (Doc kids) h = tree_text (Doc kids) h
part_in_tree (Elem name attributes kids) h = tree_text (Elem name attributes kids) h
part_in_tree (Text t) h = tree_text (Text t) h
part_in_tree (Comment t) h = tree_text (Comment t) h
part_in_tree (Pi target t) h = tree_text (Pi target t) h
part_in_tree (Attr name t) h = tree_text (Attr name t) h

below_part : (o : Option Tree) → ((t : Tree) → o ≡ Some t → is_sound_root t ≡ true) →
    IsXmlPart (part_below o)
below_part None h = no_text
below_part (Some t) h = part_in_tree t (h t refl)

one_part : (x : Item) → IsSound x → IsXmlPart (part_of x)
one_part (Node n) h = below_part (subtree_of n) (λ t e. subtree_sound n t (tree_part n h) e)
one_part (Atom a) h = atom_text a h

all_parts : (xs : List Item) → AllSound xs → Every IsXmlPart (map part_of xs)
all_parts [] h = tt
all_parts (x ∷ xs) h = (one_part x h.0, all_parts xs h.1)

without_known : (ps : List Part) → Every IsXmlPart ps → Every IsXmlPart (without_empty_runs ps)
without_known [] h = tt
without_known (run [] ∷ ps) h = without_known ps h.1
without_known (run (c ∷ cs) ∷ ps) h = (h.0, without_known ps h.1)
without_known (value t ∷ ps) h = (h.0, without_known ps h.1)

merge_known : (t : List ℕ) (ps : List Part) → IsXml t → Every IsXmlPart ps →
    Every IsXmlPart (merge_run t ps)
merge_known t [] h g = (h, tt)
merge_known t (run u ∷ ps) h g = (xml_append t u h g.0, g.1)
merge_known t (value u ∷ ps) h g = (h, g)

merged_known : (ps : List Part) → Every IsXmlPart ps → Every IsXmlPart (merged_runs ps)
merged_known [] h = tt
merged_known (run t ∷ ps) h = merge_known t (merged_runs ps) h.0 (merged_known ps h.1)
merged_known (value t ∷ ps) h = (h.0, merged_known ps h.1)

behind_known : (separator : List ℕ) (ps : List Part) → IsXml separator → Every IsXmlPart ps →
    IsXml (joined_behind separator (map part_text ps))
behind_known separator [] s h = no_text
behind_known separator (p ∷ ps) s h =
    xml_append separator (part_text p ++ joined_behind separator (map part_text ps)) s
    (xml_append (part_text p) (joined_behind separator (map part_text ps)) h.0
    (behind_known separator ps s h.1))

joined_known : (separator : List ℕ) (ps : List Part) → IsXml separator → Every IsXmlPart ps →
    IsXml (joined_with separator (map part_text ps))
joined_known separator [] s h = no_text
joined_known separator (p ∷ ps) s h =
    xml_append (part_text p) (joined_behind separator (map part_text ps)) h.0
    (behind_known separator ps s h.1)

pub simple_known : (separator : List ℕ) (xs : List Item) → IsXml separator → AllSound xs →
    IsXml (simple_content separator xs)
unfolding simple_content
simple_known separator xs s h =
    joined_known separator (merged_runs (without_empty_runs (map part_of xs))) s
    (merged_known (without_empty_runs (map part_of xs))
    (without_known (map part_of xs) (all_parts xs h)))
