-- Arguments as their parameters' types (the function conversion rules, XPath 2.0, 3.1.5).
use Rattle.std.specs.Prelude.{ℕ, ℤ, List, [], ◌∷◌, Option, Some, None, Result, Ok, Err}
use Rattle.xt_names.specs.declared.codes.Code.{Code}
use Rattle.xt_names.specs.declared.kinds.AtomType.{AtomType}
use Rattle.xt_names.specs.declared.kinds.AtomType.TheVariants as kind
use Rattle.xt_names.specs.declared.names.Name.{Name as NameOf}
use Rattle.xt_types.specs.declared.node_tests.Test.TheVariants as test
use Rattle.xt_types.specs.declared.types.Count.{Count}
use Rattle.xt_types.specs.declared.types.Count.TheVariants.{One, Opt, Many}
use Rattle.xt_types.specs.declared.types.ItemType.TheVariants.{Kind, Atomic}
use Rattle.xt_types.specs.declared.types.SeqType.{SeqType}
use Rattle.xt_types.specs.declared.types.SeqType.TheVariants.{Of}
use Rattle.xdm_items.specs.XtTree.Place.{Place}
use Rattle.xt_atoms.specs.Casts.{wrong_type}
use Rattle.xt_atoms.specs.declared.atoms.Atom.{Atom as AtomValue}
use Rattle.xt_atoms.specs.declared.atoms.Atom.TheVariants as atom
use Rattle.xdm_items.specs.Conversion.{converted}
use Rattle.xdm_items.specs.declared.items.Item.{Item}
use Rattle.xdm_items.specs.declared.items.Item.TheVariants.{Node, Atom}

-- the function of a value, unless there is an error
abbrev pub and_then : {A B : Type 0} → Result A Code → (A → Result B Code) → Result B Code
and_then (Ok value) f = f value
and_then (Err code) f = Err code

abbrev pub atomic : AtomType → Count → SeqType
atomic type count = Of (Atomic type) count

-- The values of one item; after the conversion it has the kind that is asked for.
abbrev pub text_of_item : Item → Result (List ℕ) Code
text_of_item (Atom (atom.Str text)) = Ok text
text_of_item _ = Err wrong_type

abbrev pub integer_of_item : Item → Result ℤ Code
integer_of_item (Atom (atom.Int number)) = Ok number
integer_of_item _ = Err wrong_type

abbrev pub name_of_item : Item → Result NameOf Code
name_of_item (Atom (atom.QName name)) = Ok name
name_of_item _ = Err wrong_type

abbrev pub atom_of_item : Item → Result AtomValue Code
atom_of_item (Atom a) = Ok a
atom_of_item (Node n) = Err wrong_type

abbrev pub node_of_item : Item → Result Place Code
node_of_item (Node n) = Ok n
node_of_item (Atom a) = Err wrong_type

-- the value of the only item
abbrev pub of_only : {A : Type 0} → (Item → Result A Code) → List Item → Result A Code
of_only value [] = Err wrong_type
of_only value (item ∷ []) = value item
of_only value (item ∷ other ∷ rest) = Err wrong_type

abbrev pub as_some : {A : Type 0} → Result A Code → Result (Option A) Code
as_some (Ok value) = Ok (Some value)
as_some (Err code) = Err code

-- the same, or None of no item
abbrev pub of_at_most_one : {A : Type 0} → (Item → Result A Code) → List Item → Result (Option A) Code
of_at_most_one value [] = Ok None
of_at_most_one value (item ∷ []) = as_some (value item)
of_at_most_one value (item ∷ other ∷ rest) = Err wrong_type

-- one xs:string, at most one, and the same with the empty text where there is none
unfoldable pub text_argument : List Item → Result (List ℕ) Code
text_argument items = and_then (converted (atomic kind.Str One) items) (of_only text_of_item)

unfoldable pub optional_text_argument : List Item → Result (Option (List ℕ)) Code
optional_text_argument items = and_then (converted (atomic kind.Str Opt) items) (of_at_most_one text_of_item)

abbrev pub or_empty : Option (List ℕ) → Result (List ℕ) Code
or_empty None = Ok []
or_empty (Some text) = Ok text

unfoldable pub text_or_empty_argument : List Item → Result (List ℕ) Code
text_or_empty_argument items = and_then (optional_text_argument items) or_empty

-- one xs:integer, and at most one
unfoldable pub integer_argument : List Item → Result ℤ Code
integer_argument items = and_then (converted (atomic kind.Int One) items) (of_only integer_of_item)

unfoldable pub optional_integer_argument : List Item → Result (Option ℤ) Code
optional_integer_argument items = and_then (converted (atomic kind.Int Opt) items) (of_at_most_one integer_of_item)

-- one atomic value, and at most one
unfoldable pub atom_argument : List Item → Result AtomValue Code
atom_argument items = and_then (converted (atomic kind.Any One) items) (of_only atom_of_item)

unfoldable pub optional_atom_argument : List Item → Result (Option AtomValue) Code
optional_atom_argument items = and_then (converted (atomic kind.Any Opt) items) (of_at_most_one atom_of_item)

-- at most one xs:QName
unfoldable pub optional_name_argument : List Item → Result (Option NameOf) Code
optional_name_argument items = and_then (converted (atomic kind.QName Opt) items) (of_at_most_one name_of_item)

-- at most one node
unfoldable pub optional_node_argument : List Item → Result (Option Place) Code
optional_node_argument items = and_then (converted (Of (Kind test.Node) Opt) items) (of_at_most_one node_of_item)

-- any number of xs:string, of xs:integer, and of atomic values
unfoldable pub text_arguments : List Item → Result (List Item) Code
text_arguments items = converted (atomic kind.Str Many) items

unfoldable pub integer_arguments : List Item → Result (List Item) Code
integer_arguments items = converted (atomic kind.Int Many) items

unfoldable pub atom_arguments : List Item → Result (List Item) Code
atom_arguments items = converted (atomic kind.Any Many) items
