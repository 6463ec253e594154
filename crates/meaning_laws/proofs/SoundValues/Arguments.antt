-- Sound values converted to types are sound, and so are the arguments that are read of them.
use Rattle.std.proofs.Common.{ℕ, ℤ, List, [], ◌∷◌, refl}
use Rattle.std.specs.Prelude.{Bool, true, false, Option, Some, None, Result, Ok, Err}
use Rattle.std.specs.Prelude.{if◌then◌else◌}
use Rattle.xt_names.specs.declared.codes.Code.{Code}
use Rattle.xt_names.specs.declared.kinds.AtomType.{AtomType}
use Rattle.xt_names.specs.declared.kinds.AtomType.TheVariants as kind
use Rattle.xt_types.specs.declared.node_tests.Test.TheVariants as test
use Rattle.xt_types.specs.declared.types.Count.TheVariants.{One, Opt, Many}
use Rattle.xt_types.specs.declared.types.ItemType.TheVariants.{Any, Kind, Atomic}
use Rattle.xt_types.specs.declared.types.SeqType.{SeqType}
use Rattle.xt_types.specs.declared.types.SeqType.TheVariants.{Empty, Of}
use Rattle.xt_tree.specs.Place.{Place}
use Rattle.xt_atoms.specs.Casts.{cast_of, wrong_type, with_value, integer_from, boolean_from}
use Rattle.xt_atoms.specs.declared.atoms.Atom.{Atom as AtomValue}
use Rattle.xt_atoms.specs.declared.atoms.Atom.TheVariants as atom
use Rattle.xdm_items.specs.Conversion.{is_cast_to, converted_atom, as_item, converted_item}
use Rattle.xdm_items.specs.Conversion.{with_item, converted_items, matched, prepared, converted}
use Rattle.xdm_items.specs.Matching.{matches_type}
use Rattle.xdm_items.specs.Values.{atomized}
use Rattle.xdm_items.specs.declared.items.Item.{Item}
use Rattle.xdm_items.specs.declared.items.Item.TheVariants.{Node, Atom}
use Rattle.xdm_items.specs.FunctionArguments.Arguments.{and_then, atomic, text_of_item}
use Rattle.xdm_items.specs.FunctionArguments.Arguments.{name_of_item, atom_of_item, node_of_item, of_only}
use Rattle.xdm_items.specs.FunctionArguments.Arguments.{as_some, of_at_most_one, text_argument}
use Rattle.xdm_items.specs.FunctionArguments.Arguments.{optional_text_argument, or_empty}
use Rattle.xdm_items.specs.FunctionArguments.Arguments.{text_or_empty_argument}
use Rattle.xdm_items.specs.FunctionArguments.Arguments.{optional_atom_argument, optional_name_argument}
use Rattle.xdm_items.specs.FunctionArguments.Arguments.{optional_node_argument, text_arguments}
use Rattle.xdm_items.specs.FunctionArguments.Arguments.{atom_arguments}
use Rattle.expr_meaning.specs.Outcomes.Outcome.{Every}
use Rattle.expr_laws.specs.Carrier.{OnValue}
use Rattle.meaning_laws.specs.SoundValues.Sound.{IsSound}
use Rattle.meaning_laws.proofs.SoundValues.Lists.{OnSome}
use Rattle.meaning_laws.proofs.SoundValues.Texts.{IsXml, no_text}
use Rattle.meaning_laws.proofs.SoundValues.Trees.{IsName, IsSoundAtom, atom_text, all_atomized}

abbrev pub AllSound : List Item → Type 0
AllSound xs = Every IsSound xs

-- what goes on from a value of which something is known
pub then_known : {A B : Type 0} (P : A → Type 0) (Q : B → Type 0) (r : Result A Code)
    (f : A → Result B Code) → OnValue P r → ((v : A) → P v → OnValue Q (f v)) →
    OnValue Q (and_then r f)
then_known P Q (Ok v) f h g = g v h
then_known P Q (Err code) f h g = tt

-- .. or nothing
pub then_any : {A B : Type 0} (Q : B → Type 0) (r : Result A Code) (f : A → Result B Code) →
    ((v : A) → OnValue Q (f v)) → OnValue Q (and_then r f)
then_any Q (Ok v) f g = g v
then_any Q (Err code) f g = tt

-- casts
made_integer : (r : Result ℤ Code) → OnValue IsSoundAtom (with_value atom.Int r)
made_integer (Ok n) = refl
made_integer (Err code) = tt

made_truth : (r : Result Bool Code) → OnValue IsSoundAtom (with_value atom.Bool r)
made_truth (Ok t) = refl
made_truth (Err code) = tt

pub cast_known : (a : AtomValue) (type : AtomType) → IsSoundAtom a →
    OnValue IsSoundAtom (cast_of a type)
unfolding cast_of
cast_known a kind.Str h = atom_text a h
cast_known a kind.Untyped h = atom_text a h
cast_known a kind.Int h = made_integer (integer_from a)
cast_known a kind.Bool h = made_truth (boolean_from a)
cast_known a kind.QName h = tt
cast_known a kind.Any h = tt

-- the conversion of an argument
atom_converted : (type : AtomType) (a : AtomValue) → IsSoundAtom a →
    OnValue IsSoundAtom (converted_atom type a)
unfolding converted_atom
atom_converted type (atom.Untyped t) h = by (is_cast_to type)
  where
    by : (b : Bool) → OnValue IsSoundAtom
        (if b then cast_of (atom.Untyped t) type else Ok (atom.Untyped t))
    by true = cast_known (atom.Untyped t) type h
    by false = h
atom_converted type (atom.Str t) h = h
atom_converted type (atom.Int n) h = h
atom_converted type (atom.Bool t) h = h
atom_converted type (atom.QName n) h = h

item_made : (r : Result AtomValue Code) → OnValue IsSoundAtom r → OnValue IsSound (as_item r)
item_made (Ok a) h = h
item_made (Err code) h = tt

item_converted : (type : AtomType) (x : Item) → IsSound x →
    OnValue IsSound (converted_item type x)
unfolding converted_item
item_converted type (Node n) h = h
item_converted type (Atom a) h = item_made (converted_atom type a) (atom_converted type a h)

put_first : (r : Result Item Code) (q : Result (List Item) Code) → OnValue IsSound r →
    OnValue AllSound q → OnValue AllSound (with_item r q)
put_first (Ok x) (Ok xs) h g = (h, g)
put_first (Ok x) (Err code) h g = tt
put_first (Err code) q h g = tt

items_converted : (type : AtomType) (xs : List Item) → AllSound xs →
    OnValue AllSound (converted_items type xs)
unfolding converted_items
items_converted type [] h = tt
items_converted type (x ∷ xs) h =
    put_first (converted_item type x) (converted_items type xs) (item_converted type x h.0)
    (items_converted type xs h.1)

pub matched_known : (type : SeqType) (r : Result (List Item) Code) → OnValue AllSound r →
    OnValue AllSound (matched type r)
unfolding matched
matched_known type (Ok xs) h = by (matches_type type xs)
  where
    by : (b : Bool) → OnValue AllSound (if b then Ok xs else Err wrong_type)
    by true = h
    by false = tt
matched_known type (Err code) h = tt

prepared_known : (type : SeqType) (xs : List Item) → AllSound xs →
    OnValue AllSound (prepared type xs)
unfolding prepared
prepared_known Empty xs h = h
prepared_known (Of Any count) xs h = h
prepared_known (Of (Kind wanted) count) xs h = h
prepared_known (Of (Atomic type) count) xs h =
    items_converted type (atomized xs) (all_atomized xs h)

pub converted_known : (type : SeqType) (xs : List Item) → AllSound xs →
    OnValue AllSound (converted type xs)
unfolding converted
converted_known type xs h = matched_known type (prepared type xs) (prepared_known type xs h)

-- the values of items
abbrev IsReader : {A : Type 0} → (A → Type 0) → (Item → Result A Code) → Type 0
IsReader P value = (x : Item) → IsSound x → OnValue P (value x)

text_read : IsReader IsXml text_of_item
text_read (Atom (atom.Str t)) h = h
text_read (Atom (atom.Untyped t)) h = tt
text_read (Atom (atom.Int n)) h = tt
text_read (Atom (atom.Bool t)) h = tt
text_read (Atom (atom.QName n)) h = tt
text_read (Node n) h = tt

name_read : IsReader IsName name_of_item
name_read (Atom (atom.Str t)) h = tt
name_read (Atom (atom.Untyped t)) h = tt
name_read (Atom (atom.Int n)) h = tt
name_read (Atom (atom.Bool t)) h = tt
name_read (Atom (atom.QName n)) h = h
name_read (Node n) h = tt

atom_read : IsReader IsSoundAtom atom_of_item
atom_read (Atom a) h = h
atom_read (Node n) h = tt

abbrev pub IsSoundPlace : Place → Type 0
IsSoundPlace n = IsSound (Node n)

node_read : IsReader IsSoundPlace node_of_item
node_read (Node n) h = h
node_read (Atom a) h = tt

only_known : {A : Type 0} (P : A → Type 0) (value : Item → Result A Code) → IsReader P value →
    (xs : List Item) → AllSound xs → OnValue P (of_only value xs)
only_known P value r [] h = tt
only_known P value r (x ∷ []) h = r x h.0
only_known P value r (x ∷ y ∷ xs) h = tt

some_known : {A : Type 0} (P : A → Type 0) (r : Result A Code) → OnValue P r →
    OnValue (OnSome P) (as_some r)
some_known P (Ok v) h = h
some_known P (Err code) h = tt

most_known : {A : Type 0} (P : A → Type 0) (value : Item → Result A Code) → IsReader P value →
    (xs : List Item) → AllSound xs → OnValue (OnSome P) (of_at_most_one value xs)
most_known P value r [] h = tt
most_known P value r (x ∷ []) h = some_known P (value x) (r x h.0)
most_known P value r (x ∷ y ∷ xs) h = tt

-- arguments
pub text_given : (xs : List Item) → AllSound xs → OnValue IsXml (text_argument xs)
unfolding text_argument
text_given xs h =
    then_known AllSound IsXml (converted (atomic kind.Str One) xs) (of_only text_of_item)
    (converted_known (atomic kind.Str One) xs h) (only_known IsXml text_of_item text_read)

pub optional_text_given : (xs : List Item) → AllSound xs →
    OnValue (OnSome IsXml) (optional_text_argument xs)
unfolding optional_text_argument
optional_text_given xs h =
    then_known AllSound (OnSome IsXml) (converted (atomic kind.Str Opt) xs)
    (of_at_most_one text_of_item) (converted_known (atomic kind.Str Opt) xs h)
    (most_known IsXml text_of_item text_read)

or_empty_known : (o : Option (List ℕ)) → OnSome IsXml o → OnValue IsXml (or_empty o)
or_empty_known None h = no_text
or_empty_known (Some t) h = h

pub text_or_empty_given : (xs : List Item) → AllSound xs →
    OnValue IsXml (text_or_empty_argument xs)
unfolding text_or_empty_argument
text_or_empty_given xs h =
    then_known (OnSome IsXml) IsXml (optional_text_argument xs) or_empty
    (optional_text_given xs h) or_empty_known

pub optional_atom_given : (xs : List Item) → AllSound xs →
    OnValue (OnSome IsSoundAtom) (optional_atom_argument xs)
unfolding optional_atom_argument
optional_atom_given xs h =
    then_known AllSound (OnSome IsSoundAtom) (converted (atomic kind.Any Opt) xs)
    (of_at_most_one atom_of_item) (converted_known (atomic kind.Any Opt) xs h)
    (most_known IsSoundAtom atom_of_item atom_read)

pub optional_name_given : (xs : List Item) → AllSound xs →
    OnValue (OnSome IsName) (optional_name_argument xs)
unfolding optional_name_argument
optional_name_given xs h =
    then_known AllSound (OnSome IsName) (converted (atomic kind.QName Opt) xs)
    (of_at_most_one name_of_item) (converted_known (atomic kind.QName Opt) xs h)
    (most_known IsName name_of_item name_read)

pub optional_node_given : (xs : List Item) → AllSound xs →
    OnValue (OnSome IsSoundPlace) (optional_node_argument xs)
unfolding optional_node_argument
optional_node_given xs h =
    then_known AllSound (OnSome IsSoundPlace) (converted (Of (Kind test.Node) Opt) xs)
    (of_at_most_one node_of_item) (converted_known (Of (Kind test.Node) Opt) xs h)
    (most_known IsSoundPlace node_of_item node_read)

pub texts_given : (xs : List Item) → AllSound xs → OnValue AllSound (text_arguments xs)
unfolding text_arguments
texts_given xs h = converted_known (atomic kind.Str Many) xs h

pub atoms_given : (xs : List Item) → AllSound xs → OnValue AllSound (atom_arguments xs)
unfolding atom_arguments
atoms_given xs h = converted_known (atomic kind.Any Many) xs h
