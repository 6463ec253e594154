-- The conversion of a value to the type that is expected of it (the function conversion rules, XPath 2.0, 3.1.5).
use Rattle.std.specs.Prelude.{◌≡◌, List, [], ◌∷◌, ◌++◌, Bool, true, false, Result, Ok, Err, if◌then◌else◌}
use Rattle.xt_names.specs.declared.codes.Code.{Code}
use Rattle.xt_names.specs.declared.kinds.AtomType.{AtomType}
use Rattle.xt_names.specs.declared.kinds.AtomType.TheVariants as kind
use Rattle.xt_types.specs.declared.types.ItemType.TheVariants.{Any, Kind, Atomic}
use Rattle.xt_types.specs.declared.types.SeqType.{SeqType}
use Rattle.xt_types.specs.declared.types.SeqType.TheVariants.{Empty, Of}
use Rattle.xt_atoms.specs.Casts.{cast_of, wrong_type}
use Rattle.xt_atoms.specs.declared.atoms.Atom.{Atom as AtomValue}
use Rattle.xt_atoms.specs.declared.atoms.Atom.TheVariants as atom
use Rattle.xt_atoms.specs.declared.faults.ValueFault.{ValueFault}
use Rattle.xt_atoms.specs.declared.faults.ValueFault.TheVariants.{Error, Memory}
use Rattle.xdm_items.specs.Matching.{matches_type}
use Rattle.xdm_items.specs.Values.{atomized}
use Rattle.xdm_items.specs.declared.items.Item.{Item}
use Rattle.xdm_items.specs.declared.items.Item.TheVariants.{Node, Atom}

-- no untyped atom is cast to xs:QName or xs:anyAtomicType
abbrev pub is_cast_to : AtomType → Bool
is_cast_to kind.Str = true
is_cast_to kind.Untyped = true
is_cast_to kind.Int = true
is_cast_to kind.Bool = true
is_cast_to kind.QName = false
is_cast_to kind.Any = false

-- an untyped atom is cast, and another stays
unfoldable pub converted_atom : AtomType → AtomValue → Result AtomValue Code
converted_atom type (atom.Untyped text) = if is_cast_to type then cast_of (atom.Untyped text) type else Ok (atom.Untyped text)
converted_atom type (atom.Str text) = Ok (atom.Str text)
converted_atom type (atom.Int number) = Ok (atom.Int number)
converted_atom type (atom.Bool truth) = Ok (atom.Bool truth)
converted_atom type (atom.QName name) = Ok (atom.QName name)

abbrev pub as_item : Result AtomValue Code → Result Item Code
as_item (Ok a) = Ok (Atom a)
as_item (Err code) = Err code

-- of the atomized items none is a node
unfoldable pub converted_item : AtomType → Item → Result Item Code
converted_item type (Node n) = Ok (Node n)
converted_item type (Atom a) = as_item (converted_atom type a)

abbrev pub with_item : Result Item Code → Result (List Item) Code → Result (List Item) Code
with_item (Ok item) (Ok items) = Ok (item ∷ items)
with_item (Ok item) (Err code) = Err code
with_item (Err code) rest = Err code

-- each item in turn; the first cast that fails decides
unfoldable pub converted_items : AtomType → List Item → Result (List Item) Code
converted_items type [] = Ok []
converted_items type (item ∷ rest) = with_item (converted_item type item) (converted_items type rest)

-- the items where they match the type
unfoldable pub matched : SeqType → Result (List Item) Code → Result (List Item) Code
matched type (Ok items) = if matches_type type items then Ok items else Err wrong_type
matched type (Err code) = Err code

-- only for an atomic type are the items atomized and their untyped atoms cast
unfoldable pub prepared : SeqType → List Item → Result (List Item) Code
prepared Empty items = Ok items
prepared (Of Any count) items = Ok items
prepared (Of (Kind wanted) count) items = Ok items
prepared (Of (Atomic type) count) items = converted_items type (atomized items)

unfoldable pub converted : SeqType → List Item → Result (List Item) Code
converted type items = matched type (prepared type items)

-- a call puts the item at the end of a list, or answers this error, unless memory runs out
abbrev pub Pushes : Result Item Code → List Item → List Item → Result (Unit {0}) ValueFault → Type 0
Pushes o old new (Ok u) = (item : Item) × (o ≡ Ok item) × (new ≡ old ++ item ∷ [])
Pushes o old new (Err (Error code)) = o ≡ Err code
Pushes o old new (Err (Memory e)) = Unit {0}
