-- Converted items, one after another.
use Rattle.std.proofs.Common.{◌≡◌, ℕ, ◌<◌, ◌≤◌, ◌+◌, length, drop, get_or, List, [], ◌∷◌, ◌++◌, map, true, Result, Ok, Err, refl, sym, ap, ◌∙◌, append_assoc, append-nil}
use Rattle.std.proofs.lemmas.Bool.{and_parts}
use Rattle.std.proofs.Math.ListN.{drop_of_length-le}
use Rattle.std.specs.List.{list_all}
use Rattle.xt_names.proofs.ListLemmas.{drop_at}
use Rattle.xt_names.specs.declared.codes.Code.{Code}
use Rattle.xt_names.specs.declared.kinds.AtomType.{AtomType}
use Rattle.xt_names.specs.declared.kinds.AtomType.TheVariants as kind
use Rattle.xt_types.specs.declared.types.ItemType.TheVariants.{Any, Kind, Atomic}
use Rattle.xt_types.specs.declared.types.SeqType.{SeqType}
use Rattle.xt_types.specs.declared.types.SeqType.TheVariants.{Empty, Of}
use Rattle.xt_atoms.specs.AtomTexts.{text_of}
use Rattle.xt_atoms.specs.Casts.{Answers, cast_of}
use Rattle.xt_atoms.specs.declared.atoms.Atom.{Atom as AtomValue}
use Rattle.xt_atoms.specs.declared.atoms.Atom.TheVariants as atom
use Rattle.xt_atoms.specs.declared.faults.ValueFault.{ValueFault}
use Rattle.xt_atoms.specs.declared.faults.ValueFault.TheVariants.{Error, Memory}
use Rattle.xdm_items.specs.Conversion.{Pushes, as_item, with_item, converted_atom, converted_item, converted_items, matched, prepared, converted}
use Rattle.xdm_items.specs.Matching.{has_atom_type, matches_item, matches_type}
use Rattle.xdm_items.specs.Values.{atomized, atomized_item}
use Rattle.xdm_items.specs.declared.items.Item.{Item}
use Rattle.xdm_items.specs.declared.items.Item.TheVariants.{Node, Atom}

item_of_atom : (to : AtomType) (a : AtomValue) → converted_item to (Atom a) ≡ as_item (converted_atom to a)
unfolding converted_item
item_of_atom to a = refl

pub pushed : (to : AtomType) (item : Item) (a b : AtomValue) → Atom a ≡ item → converted_atom to a ≡ Ok b → converted_item to item ≡ Ok (Atom b)
pushed to item a b e h = ap (converted_item to) (sym e) ∙ item_of_atom to a ∙ ap as_item h

pub refused : (to : AtomType) (item : Item) (a : AtomValue) (old : List Item) (fault : ValueFault) → Atom a ≡ item
    → Answers (converted_atom to a) (Err fault) → Pushes (converted_item to item) old old (Err fault)
refused to item a old (Error code) e h = ap (converted_item to) (sym e) ∙ item_of_atom to a ∙ ap as_item h
refused to item a old (Memory m) e h = tt

-- the items that are made already, and then those of a result
pub onto : List Item → Result (List Item) Code → Result (List Item) Code
onto made (Ok items) = Ok (made ++ items)
onto made (Err code) = Err code

nothing_made : (r : Result (List Item) Code) → onto [] r ≡ r
unfolding onto
nothing_made (Ok items) = refl
nothing_made (Err code) = refl

-- the items from a place on, after those that are made, are all of them
pub begins : (to : AtomType) (items made : List Item) → made ≡ [] → onto made (converted_items to (map atomized_item items)) ≡ converted_items to (map atomized_item items)
begins to items made e = ap (λ (l : List Item). onto l (converted_items to (map atomized_item items))) e ∙ nothing_made (converted_items to (map atomized_item items))

abbrev to_ok : List Item → Result (List Item) Code
to_ok items = Ok items

onto_more : (made : List Item) (item : Item) (r : Result (List Item) Code) → onto made (with_item (Ok item) r) ≡ onto (made ++ item ∷ []) r
unfolding onto
onto_more made item (Ok items) = ap to_ok (sym (append_assoc made (item ∷ []) items))
onto_more made item (Err code) = refl

cons_converted : (to : AtomType) (item : Item) (rest : List Item) → converted_items to (item ∷ rest) ≡ with_item (converted_item to item) (converted_items to rest)
unfolding converted_items
cons_converted to item rest = refl

none_converted : (to : AtomType) → converted_items to [] ≡ Ok []
unfolding converted_items
none_converted to = refl

-- what is left begins with the item at the place
left_at : (to : AtomType) (items : List Item) (i : ℕ) (item : Item) → i < length items → item ≡ get_or items i item
    → converted_items to (map atomized_item (drop i items)) ≡ with_item (converted_item to (atomized_item item)) (converted_items to (map atomized_item (drop (i + 1) items)))
left_at to items i item h e =
    ap (λ (rest : List Item). converted_items to (map atomized_item rest)) (drop_at items i item h e)
    ∙ cons_converted to (atomized_item item) (map atomized_item (drop (i + 1) items))

pub goes_on : (to : AtomType) (items : List Item) (i : ℕ) (item : Item) (made new : List Item) → i < length items → item ≡ get_or items i item
    → Pushes (converted_item to (atomized_item item)) made new (Ok tt)
    → onto new (converted_items to (map atomized_item (drop (i + 1) items))) ≡ onto made (converted_items to (map atomized_item (drop i items)))
goes_on to items i item made new h e p =
    let rest : Result (List Item) Code = converted_items to (map atomized_item (drop (i + 1) items)) in
    ap (λ (l : List Item). onto l rest) p.2 ∙ sym (onto_more made p.0 rest) ∙ sym (ap (onto made) (left_at to items i item h e ∙ ap (λ (o : Result Item Code). with_item o rest) p.1))

failed : (to : AtomType) (items : List Item) (i : ℕ) (item : Item) (made : List Item) (code : Code) → i < length items → item ≡ get_or items i item
    → converted_item to (atomized_item item) ≡ Err code
    → onto made (converted_items to (map atomized_item (drop i items))) ≡ Err code
unfolding onto
failed to items i item made code h e p =
    ap (onto made) (left_at to items i item h e ∙ ap (λ (o : Result Item Code). with_item o (converted_items to (map atomized_item (drop (i + 1) items)))) p)

pub breaks_off : (to : AtomType) (items : List Item) (i : ℕ) (item : Item) (made new : List Item) (fault : ValueFault) → i < length items → item ≡ get_or items i item
    → Pushes (converted_item to (atomized_item item)) made new (Err fault)
    → onto made (converted_items to (map atomized_item (drop i items))) ≡ converted_items to (map atomized_item items)
    → Answers (converted_items to (atomized items)) (Err fault)
unfolding atomized
breaks_off to items i item made new (Error code) h e p k = sym k ∙ failed to items i item made code h e p
breaks_off to items i item made new (Memory m) h e p k = tt

all_made : (made : List Item) → onto made (Ok []) ≡ Ok made
unfolding onto
all_made made = ap to_ok (append-nil made)

pub ends : (to : AtomType) (items : List Item) (i : ℕ) (made : List Item) → length items ≤ i
    → onto made (converted_items to (map atomized_item (drop i items))) ≡ converted_items to (map atomized_item items)
    → converted_items to (atomized items) ≡ Ok made
unfolding atomized
ends to items i made h k =
    sym k ∙ ap (λ (l : List Item). onto made (converted_items to (map atomized_item l))) (drop_of_length-le items h) ∙ ap (onto made) (none_converted to) ∙ all_made made

-- an atom that has the type is not changed
atom_stays : (to : AtomType) (a : AtomValue) → has_atom_type to a ≡ true → converted_atom to a ≡ Ok a
unfolding has_atom_type converted_atom cast_of text_of
atom_stays kind.Any (atom.Untyped text) h = refl
atom_stays kind.Untyped (atom.Untyped text) h = refl
atom_stays kind.Str (atom.Untyped text) h = cc
atom_stays kind.Int (atom.Untyped text) h = cc
atom_stays kind.Bool (atom.Untyped text) h = cc
atom_stays kind.QName (atom.Untyped text) h = cc
atom_stays to (atom.Str text) h = refl
atom_stays to (atom.Int number) h = refl
atom_stays to (atom.Bool truth) h = refl
atom_stays to (atom.QName name) h = refl

item_stays : (to : AtomType) (item : Item) → matches_item (Atomic to) item ≡ true → converted_item to (atomized_item item) ≡ Ok item
unfolding matches_item
item_stays to (Node n) h = cc
item_stays to (Atom a) h = item_of_atom to a ∙ ap as_item (atom_stays to a h)

all_stay : (to : AtomType) (items : List Item) → list_all (matches_item (Atomic to)) items ≡ true → converted_items to (map atomized_item items) ≡ Ok items
all_stay to [] h = none_converted to
all_stay to (item ∷ rest) h =
    let parts = and_parts (matches_item (Atomic to) item) (list_all (matches_item (Atomic to)) rest) h in
    cons_converted to (atomized_item item) (map atomized_item rest)
    ∙ ap (λ (o : Result Item Code). with_item o (converted_items to (map atomized_item rest))) (item_stays to item parts.0)
    ∙ ap (with_item (Ok item)) (all_stay to rest parts.1)

prepared_stay : (to : SeqType) (items : List Item) → matches_type to items ≡ true → prepared to items ≡ Ok items
unfolding prepared matches_type atomized
prepared_stay Empty items h = refl
prepared_stay (Of Any count) items h = refl
prepared_stay (Of (Kind wanted) count) items h = refl
prepared_stay (Of (Atomic kind) count) items h = all_stay kind items (and_parts _ (list_all (matches_item (Atomic kind)) items) h).1

matched_stay : (to : SeqType) (items : List Item) → matches_type to items ≡ true → matched to (Ok items) ≡ Ok items
unfolding matched
matched_stay to items h = rw h refl

-- items that match the type are not changed
pub stay : (to : SeqType) (items : List Item) → matches_type to items ≡ true → converted to items ≡ Ok items
unfolding converted
stay to items h = ap (matched to) (prepared_stay to items h) ∙ matched_stay to items h

pub made_then : (to : SeqType) (items made : List Item) (r : Result (List Item) ValueFault) → prepared to items ≡ Ok made → Answers (matched to (Ok made)) r → Answers (converted to items) r
unfolding converted
made_then to items made r e h = rw e h

pub failed_before : (to : SeqType) (items : List Item) (fault : ValueFault) → Answers (prepared to items) (Err fault) → Answers (converted to items) (Err fault)
unfolding converted matched
failed_before to items (Error code) h = ap (matched to) h
failed_before to items (Memory m) h = tt
