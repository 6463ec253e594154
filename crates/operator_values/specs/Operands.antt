-- What an operator takes (XPath 2.0, 3.4 and 3.5).
use Rattle.std.specs.Prelude.{List, [], ◌∷◌, Option, Some, None, Result, Ok, Err}
use Rattle.xt_names.specs.declared.codes.Code.{Code}
use Rattle.xt_atoms.specs.declared.atoms.Atom.{Atom as AtomValue}
use Rattle.xt_atoms.specs.Casts.{wrong_type}
use Rattle.xt_tree.specs.Place.{Place, subtree_of}
use Rattle.xdm_items.specs.declared.items.Item.{Item}
use Rattle.xdm_items.specs.declared.items.Item.TheVariants.{Node, Atom}
use Rattle.xdm_items.specs.Values.{typed_value_below}

-- the typed value of an item, which is one atom
abbrev pub atom_of : Item → AtomValue
atom_of (Node n) = typed_value_below (subtree_of n)
atom_of (Atom a) = a

-- at most one atom
unfoldable pub optional_atom : List Item → Result (Option AtomValue) Code
optional_atom [] = Ok None
optional_atom (x ∷ []) = Ok (Some (atom_of x))
optional_atom (x ∷ y ∷ rest) = Err wrong_type

-- at most one node
unfoldable pub optional_node : List Item → Result (Option Place) Code
optional_node [] = Ok None
optional_node (Node n ∷ []) = Ok (Some n)
optional_node (Atom a ∷ []) = Err wrong_type
optional_node (x ∷ y ∷ rest) = Err wrong_type

-- the value of two operands; an empty one makes it empty
abbrev pub of_both : {A : Type 0} →
    (A → A → Result (List Item) Code) → Option A → Option A → Result (List Item) Code
of_both value None b = Ok []
of_both value (Some x) None = Ok []
of_both value (Some x) (Some y) = value x y

-- the same of one operand
abbrev pub of_one : {A : Type 0} →
    (A → Result (List Item) Code) → Option A → Result (List Item) Code
of_one value None = Ok []
of_one value (Some x) = value x
