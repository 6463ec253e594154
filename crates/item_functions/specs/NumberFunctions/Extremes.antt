-- The greatest and the least of values (XQuery 1.0 and XPath 2.0 Functions and Operators, 15.4.3
-- and 15.4.4). Where the Recommendation makes a double of an untyped atom, an integer stands here.
use Rattle.std.specs.Prelude.{List, [], ◌∷◌, Bool, true, false, ◌||◌, Result, Ok, Err, Option, Some, None, if◌then◌else◌}
use Rattle.std.specs.List.{list_all}
use Rattle.xt_names.specs.declared.codes.Code.{Code}
use Rattle.xt_names.specs.declared.kinds.CompareOp.{CompareOp}
use Rattle.xt_atoms.specs.Casts.{spelled_value, with_value}
use Rattle.xt_atoms.specs.Comparisons.{value_comparison}
use Rattle.xt_atoms.specs.Lexical.{integer_of}
use Rattle.xt_atoms.specs.declared.atoms.Atom.{Atom as AtomValue}
use Rattle.xt_atoms.specs.declared.atoms.Atom.TheVariants as atom
use Rattle.xt_atoms.specs.declared.keys.SortClass.{SortClass}
use Rattle.xt_atoms.specs.declared.keys.SortClass.TheVariants as class
use Rattle.xdm_items.specs.declared.items.Item.{Item}
use Rattle.xdm_items.specs.declared.items.Item.TheVariants.{Node, Atom}
use Rattle.item_functions.specs.NumberFunctions.Sums.{wrong_kind}

-- an untyped atom is cast to an integer; nodes, which are no atoms, have no value here
unfoldable pub operand : Item → Result AtomValue Code
operand (Atom (atom.Str text)) = Ok (atom.Str text)
operand (Atom (atom.Untyped text)) = with_value atom.Int (spelled_value (integer_of text))
operand (Atom (atom.Int number)) = Ok (atom.Int number)
operand (Atom (atom.Bool truth)) = Ok (atom.Bool truth)
operand (Atom (atom.QName name)) = Ok (atom.QName name)
operand (Node n) = Err wrong_kind

abbrev pub with_operand : Result AtomValue Code → Result (List AtomValue) Code → Result (List AtomValue) Code
with_operand (Ok a) (Ok atoms) = Ok (a ∷ atoms)
with_operand (Ok a) (Err code) = Err code
with_operand (Err code) rest = Err code

-- each item in turn; the first cast that fails decides
unfoldable pub operands : List Item → Result (List AtomValue) Code
operands [] = Ok []
operands (item ∷ items) = with_operand (operand item) (operands items)

unfoldable pub is_of : SortClass → AtomValue → Bool
is_of class.Text (atom.Str text) = true
is_of class.Int (atom.Int number) = true
is_of class.Bool (atom.Bool truth) = true
is_of _ _ = false

-- all texts, all integers or all truth values
abbrev pub have_order : List AtomValue → Bool
have_order atoms = list_all (is_of class.Text) atoms || list_all (is_of class.Int) atoms || list_all (is_of class.Bool) atoms

abbrev pub is_true : Result Bool Code → Bool
is_true (Ok truth) = truth
is_true (Err code) = false

-- whether the second atom takes the place of the first
unfoldable pub is_better : CompareOp → AtomValue → AtomValue → Bool
is_better op a b = is_true (value_comparison op b a)

-- the first atom to which no other compares so: with `Gt` the greatest, with `Lt` the least
abbrev pub best : CompareOp → AtomValue → List AtomValue → AtomValue
best op a [] = a
best op a (b ∷ atoms) = if is_better op a b then best op b atoms else best op a atoms

abbrev pub best_of : CompareOp → List AtomValue → Option AtomValue
best_of op [] = None
best_of op (a ∷ atoms) = Some (best op a atoms)

-- the atoms have an order among them, or it is an error; of no atom there is none
abbrev pub best_in_order : CompareOp → List AtomValue → Result (Option AtomValue) Code
best_in_order op atoms = if have_order atoms then Ok (best_of op atoms) else Err wrong_kind

abbrev pub with_atoms : Result (List AtomValue) Code → (List AtomValue → Result (Option AtomValue) Code) → Result (Option AtomValue) Code
with_atoms (Ok atoms) f = f atoms
with_atoms (Err code) f = Err code

-- all casts come first
unfoldable pub extreme : CompareOp → List Item → Result (Option AtomValue) Code
extreme op items = with_atoms (operands items) (best_in_order op)
