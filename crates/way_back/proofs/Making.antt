-- Constructors become instructions that make the same nodes.
use Rattle.std.proofs.Common.{◌≡◌, ℕ, List, [], ◌∷◌, ◌++◌, refl, sym, ap, ◌∙◌, subst}
use Rattle.std.specs.Prelude.{Bool, true, false, Option, Some, None, flat_map}
use Rattle.std.specs.Prelude.{nat_eq, if◌then◌else◌}
use Rattle.std.specs.List.{list_any}
use Rattle.xt_names.specs.declared.codes.Code.{Code}
use Rattle.xt_names.specs.declared.codes.Code.TheVariants.{Dynamic}
use Rattle.xt_names.specs.declared.codes.DynamicCode.TheVariants.{XTLM0001}
use Rattle.xt_names.specs.declared.names.Name.{Name}
use Rattle.xt_tree.specs.Place.{subtree_of}
use Rattle.xt_tree.specs.Sound.{names_differ, is_sound_name}
use Rattle.xt_tree.specs.declared.attributes.Attribute.{Attribute}
use Rattle.xt_tree.specs.declared.trees.Tree.{Tree}
use Rattle.xt_tree.specs.declared.trees.Tree.TheVariants as tree
use Rattle.xdm_items.specs.declared.items.Item.{Item}
use Rattle.xdm_items.specs.declared.items.Item.TheVariants.{Atom, Node}
use Rattle.node_builder.specs.Complex.{complex_content, content_nodes, taken, is_attribute, misplaced}
use Rattle.node_builder.specs.Complex.{distinct}
use Rattle.node_builder.specs.declared.contents.Content.{Content}
use Rattle.node_builder.specs.declared.kinds.Duplicates.TheVariants.{KeepLast, Refuse}
use Rattle.node_builder.specs.declared.kinds.Holder.TheVariants.{Element, Document}
use Rattle.node_builder.specs.Made.{Made, Gives, Fails as Refuses, made_then}
use Rattle.node_builder.specs.Trees.{numbered, element_of, document_of}
use Rattle.expr_meaning.specs.Outcomes.Outcome.{Outcome, Ends, Fails, Deep, Every, OnEnds}
use Rattle.expr_meaning.specs.Making.{made, made_outcome}
use Rattle.transform_meaning.specs.Making.{attribute_in, attribute_in_tree, element_items, new_element}
use Rattle.transform_meaning.specs.Making.{new_document}
use Rattle.query_helpers.specs.Last.{IsPlaced, SameMade, attribute_below, attribute_of, put_attribute}
use Rattle.query_helpers.specs.Last.{attributes_in, last_of}
use Rattle.query_helpers.proofs.CopyGives.{sound_placed}
use Rattle.query_helpers.proofs.LastContent.{last_content}
use Rattle.meaning_laws.specs.SoundValues.Sound.{IsSound}
use Rattle.meaning_laws.proofs.SoundRuns.Made.{element_ends, document_ends}
use Rattle.way_back.specs.Same.{same}

-- an outcome does the same as itself
pub same_self : {A : Type 0} (P : A → Type 0) (o : Outcome A) → OnEnds P o → same A P o o
same_self P (Ends v k) h = (refl, refl, h)
same_self P (Fails c) h = (tt, tt, tt)
same_self P Deep h = (tt, tt, tt)

-- the attributes among items
put_below : (o : Option Tree) (us : List Attribute) →
    attribute_in_tree o ++ us ≡ put_attribute (attribute_below o) us
put_below None us = refl
put_below (Some (tree.Doc kids)) us = refl
put_below (Some (tree.Elem name attributes kids)) us = refl
put_below (Some (tree.Text t)) us = refl
put_below (Some (tree.Comment t)) us = refl
put_below (Some (tree.Pi target t)) us = refl
put_below (Some (tree.Attr name t)) us = refl

put_first : (x : Item) (us : List Attribute) → attribute_in x ++ us ≡ put_attribute (attribute_of x) us
put_first (Node n) us = put_below (subtree_of n) us
put_first (Atom a) us = refl

attributes_same : (xs : List Item) → flat_map attribute_in xs ≡ attributes_in xs
attributes_same [] = refl
attributes_same (x ∷ xs) =
    put_first x (flat_map attribute_in xs) ∙ ap (put_attribute (attribute_of x)) (attributes_same xs)

all_placed : (xs : List Item) → Every IsSound xs → Every IsPlaced xs
all_placed [] h = tt
all_placed (x ∷ xs) h = (sound_placed x h.0, all_placed xs h.1)

abbrev pub NamesDiffer : List Item → Type 0
NamesDiffer xs = names_differ (flat_map attribute_in xs) ≡ true

-- the content of documents
pub document_content : (xs : List Item) →
    SameMade (complex_content KeepLast Document xs) (complex_content Refuse Document xs)
unfolding complex_content taken
document_content xs = by (list_any is_attribute (content_nodes xs))
  where
    by : (b : Bool) → SameMade {A = Content}
        (if b then Refuses (misplaced KeepLast Document)
        else made_then (distinct KeepLast []) (λ kept. Gives (record { attributes = kept; kids = content_nodes xs })))
        (if b then Refuses (misplaced Refuse Document)
        else made_then (distinct Refuse []) (λ kept. Gives (record { attributes = kept; kids = content_nodes xs })))
    by true = tt
    by false = refl

-- where the names differ nothing is counted
whole_element : (name : Name) (xs : List Item) → NamesDiffer xs → (k : ℕ) →
    new_element name xs k ≡ made (element_of KeepLast name xs) k
unfolding element_items
whole_element name xs h k = rw h refl

-- .. and all is kept
all_kept : (xs : List Item) → NamesDiffer xs → last_of xs ≡ xs
all_kept xs h = rw (sym (attributes_same xs), h) refl

refused_meets : (c d : Code) (k : ℕ) →
    same (List Item) (Every IsSound) (made (Refuses c) k) (made (Refuses d) k)
unfolding numbered
refused_meets c d k = by (nat_eq k 0xFFFF_FFFF_FFFF_FFFF)
  where
    by : (b : Bool) → same (List Item) (Every IsSound)
        (made_outcome k (if b then Refuses (Dynamic XTLM0001) else Refuses c))
        (made_outcome k (if b then Refuses (Dynamic XTLM0001) else Refuses d))
    by true = (tt, tt, tt)
    by false = (tt, tt, tt)

same_content : {A : Type 0} (f : A → Made Tree) (a b : Made A) → SameMade a b → (k : ℕ) →
    OnEnds (Every IsSound) (made (made_then b f) k) →
    same (List Item) (Every IsSound) (made (made_then a f) k) (made (made_then b f) k)
same_content f (Gives v) (Gives w) h k known =
    subst (λ z. same (List Item) (Every IsSound) (made (f z) k) (made (f w) k)) (sym h)
    (same_self (Every IsSound) (made (f w) k) known)
same_content f (Gives v) (Refuses d) h k known = absurd h
same_content f (Refuses c) (Gives w) h k known = absurd h
same_content f (Refuses c) (Refuses d) h k known = refused_meets c d k

pub document_given : (xs : List Item) → Every IsSound xs → (k : ℕ) →
    same (List Item) (Every IsSound) (new_document xs k) (made (document_of Refuse xs) k)
unfolding document_of
document_given xs g k =
    same_content _ (complex_content KeepLast Document xs) (complex_content Refuse Document xs)
    (document_content xs) k (document_ends xs g k)

kept_content : (xs : List Item) → Every IsSound xs → NamesDiffer xs →
    SameMade (complex_content KeepLast Element xs) (complex_content Refuse Element xs)
kept_content xs g d =
    subst (λ ys. SameMade (complex_content KeepLast Element xs) (complex_content Refuse Element ys))
    (all_kept xs d) (last_content xs (all_placed xs g))

kept_element : (name : Name) → is_sound_name name ≡ true → (xs : List Item) → Every IsSound xs →
    NamesDiffer xs → (k : ℕ) →
    same (List Item) (Every IsSound) (made (element_of KeepLast name xs) k)
    (made (element_of Refuse name xs) k)
unfolding element_of
kept_element name n xs g d k =
    same_content _ (complex_content KeepLast Element xs) (complex_content Refuse Element xs)
    (kept_content xs g d) k (element_ends name xs n g k)

pub element_given : (name : Name) → is_sound_name name ≡ true → (xs : List Item) → Every IsSound xs →
    NamesDiffer xs → (k : ℕ) →
    same (List Item) (Every IsSound) (new_element name xs k) (made (element_of Refuse name xs) k)
element_given name n xs g d k =
    subst (λ o. same (List Item) (Every IsSound) o (made (element_of Refuse name xs) k))
    (sym (whole_element name xs d k))
    (kept_element name n xs g d k)
