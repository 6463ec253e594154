-- Atoms of a type that are converted to it.
use Rattle.std.proofs.Common.{◌≡◌, List, [], ◌∷◌, true, Ok, refl, ap, ◌∙◌}
use Rattle.std.proofs.lemmas.Bool.{and_parts, false≢true}
use Rattle.std.specs.List.{list_all}
use Rattle.xt_names.specs.declared.kinds.AtomType.{AtomType}
use Rattle.xt_names.specs.declared.kinds.AtomType.TheVariants as kind
use Rattle.xt_types.specs.declared.types.Count.{Count}
use Rattle.xt_types.specs.declared.types.ItemType.TheVariants.{Atomic}
use Rattle.xt_atoms.specs.AtomTexts.{text_of}
use Rattle.xt_atoms.specs.Casts.{cast_of}
use Rattle.xt_atoms.specs.declared.atoms.Atom.{Atom as AtomValue}
use Rattle.xt_atoms.specs.declared.atoms.Atom.TheVariants as atom
use Rattle.xdm_items.specs.Conversion.{as_item, converted_atom, converted_item, converted_items}
use Rattle.xdm_items.specs.Conversion.{with_item, matched, prepared, converted}
use Rattle.xdm_items.specs.Matching.{has_atom_type, matches_item, matches_type}
use Rattle.xdm_items.specs.Values.{atomized}
use Rattle.xdm_items.specs.declared.items.Item.{Item}
use Rattle.xdm_items.specs.declared.items.Item.TheVariants.{Node, Atom}
use Rattle.xdm_items.specs.FunctionArguments.Arguments.{atomic}

-- no atom of a type is cast to it but where it is untyped
atom_stays : (k : AtomType) (a : AtomValue) → has_atom_type k a ≡ true → converted_atom k a ≡ Ok a
unfolding converted_atom has_atom_type cast_of text_of
atom_stays k (atom.Str text) e = refl
atom_stays k (atom.Int number) e = refl
atom_stays k (atom.Bool truth) e = refl
atom_stays k (atom.QName name) e = refl
atom_stays kind.Any (atom.Untyped text) e = refl
atom_stays kind.Untyped (atom.Untyped text) e = refl
atom_stays kind.Str (atom.Untyped text) e = absurd (false≢true e)
atom_stays kind.Int (atom.Untyped text) e = absurd (false≢true e)
atom_stays kind.Bool (atom.Untyped text) e = absurd (false≢true e)
atom_stays kind.QName (atom.Untyped text) e = absurd (false≢true e)

items_stay : (k : AtomType) (items : List Item) → list_all (matches_item (Atomic k)) items ≡ true →
    converted_items k (atomized items) ≡ Ok items
unfolding converted_items converted_item atomized matches_item
items_stay k [] all = refl
items_stay k (Atom a ∷ rest) all =
    let both = and_parts _ _ all in
    ap (λ first. with_item (as_item first) (converted_items k (atomized rest))) (atom_stays k a both.0)
    ∙ ap (with_item (Ok (Atom a))) (items_stay k rest both.1)
items_stay k (Node n ∷ rest) all = absurd (false≢true all)

matched_stay : (k : AtomType) (count : Count) (items : List Item) →
    matches_type (atomic k count) items ≡ true → matched (atomic k count) (Ok items) ≡ Ok items
unfolding matched
matched_stay k count items all = rw all refl

are_all : (k : AtomType) (count : Count) (items : List Item) →
    matches_type (atomic k count) items ≡ true → list_all (matches_item (Atomic k)) items ≡ true
unfolding matches_type
are_all k count items all = (and_parts _ _ all).1

pub atoms_stay : (k : AtomType) (count : Count) (items : List Item) →
    matches_type (atomic k count) items ≡ true → converted (atomic k count) items ≡ Ok items
unfolding converted prepared
atoms_stay k count items all =
    ap (matched (atomic k count)) (items_stay k items (are_all k count items all))
    ∙ matched_stay k count items all
