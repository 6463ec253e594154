-- Calls of functions (XPath 2.0, 3.1.5; XSLT 2.0, 14.2 and 16).
use Rattle.std.specs.Prelude.{ℕ, List, [], ◌∷◌, map, Bool, ◌&&◌, ◌||◌, ◌==◌, if◌then◌else◌, pos}
use Rattle.std.specs.Prelude.{length, codes, Option, Some, None, Result, Ok, Err}
use Rattle.std.specs.Str.{bytes_eq}
use Rattle.xt_names.specs.declared.codes.Code.{Code}
use Rattle.xt_names.specs.declared.codes.Code.TheVariants.{Dynamic, SheetDynamic}
use Rattle.xt_names.specs.declared.codes.DynamicCode.TheVariants.{XPDY0002}
use Rattle.xt_names.specs.declared.codes.SheetDynamicCode.TheVariants.{XTDE1270}
use Rattle.xt_names.specs.declared.names.ExprName.{ExprName}
use Rattle.xt_atoms.specs.declared.atoms.Atom.{Atom as AtomValue}
use Rattle.xt_atoms.specs.declared.atoms.Atom.TheVariants as atom
use Rattle.xt_tree.specs.Place.{Place}
use Rattle.doc_set.specs.Sets.{is_document}
use Rattle.xdm_items.specs.declared.items.Item.{Item}
use Rattle.xdm_items.specs.declared.items.Item.TheVariants.{Node, Atom}
use Rattle.xdm_items.specs.Values.{string_value_of}
use Rattle.function_table.specs.Find.{found, is_in_fn}
use Rattle.function_table.specs.declared.builtins.Builtin.{Builtin}
use Rattle.function_table.specs.declared.builtins.Builtin.TheVariants as function
use Rattle.xdm_items.specs.FunctionArguments.Answers.{of_integer, of_text}
use Rattle.xdm_items.specs.FunctionArguments.Arguments.{and_then as result_then, optional_text_argument}
use Rattle.fn_lib.specs.Functions.{function_value}
use Rattle.fn_lib.specs.Values.{argument}
use Rattle.operator_values.specs.Operands.{atom_of}
use Rattle.expr_meaning.specs.Outcomes.Outcome.{Outcome, Ends, and_then, step_outcome, for_each}
use Rattle.expr_meaning.specs.SortMeaning.Sorted.{Placed}
use Rattle.expr_meaning.specs.Env.{Program, Env, Group, Meaning}
use Rattle.expr_meaning.specs.Documents.{document_in}
use Rattle.expr_meaning.specs.Values.{of_focus}
use Rattle.expr_meaning.specs.Paths.{root_place}

-- the lists of the arguments, in order
abbrev pub listed : Env → Meaning → ℕ → Outcome (List (List Item))
listed env m k = and_then (m env k) (λ xs j. Ends (xs ∷ []) j)

abbrev pub lists_of : List Meaning → Env → ℕ → Outcome (List (List Item))
lists_of ms env k = for_each (listed env) ms k

-- what is called by the name with so many arguments
pub data Called : Type 0 where
  library : Builtin → Called
  document : Called
  current : Called
  current_group : Called
  current_key : Called
  key : Called
  declared : Called

abbrev pub of_library : Option Builtin → Called
of_library None = declared
of_library (Some f) = library f

abbrev pub is_local : ExprName → ℕ → List ℕ → ℕ → Bool
is_local name arity local wanted = bytes_eq name.local local && arity == wanted

-- in the namespace of the library of functions
abbrev pub called_in_library : ExprName → ℕ → Called
called_in_library name arity =
    if is_local name arity (codes "doc") 1 || is_local name arity (codes "document") 1 then document
    else if is_local name arity (codes "current") 0 then current
    else if is_local name arity (codes "current-group") 0 then current_group
    else if is_local name arity (codes "current-grouping-key") 0 then current_key
    else if is_local name arity (codes "key") 2 then key
    else of_library (found name arity)

unfoldable pub called : ExprName → ℕ → Called
called name arity = if is_in_fn name then called_in_library name arity else declared

-- What a function reads of the focus where it is called without an argument: the position, the
-- size, the string value of the item, or the item.
abbrev pub position_of : Placed Item → List Item
position_of f = of_integer (pos f.place)

abbrev pub size_of : Placed Item → List Item
size_of f = of_integer (pos f.size)

abbrev pub item_of : Placed Item → List Item
item_of f = f.value ∷ []

abbrev pub text_of_item : Placed Item → List Item
text_of_item f = of_text (string_value_of f.value)

abbrev pub read_of_focus : Builtin → Option (Placed Item → List Item)
read_of_focus function.Position = Some position_of
read_of_focus function.Last = Some size_of
read_of_focus function.StringLength = Some text_of_item
read_of_focus function.NormalizeSpace = Some text_of_item
read_of_focus function.String = Some item_of
read_of_focus function.Name = Some item_of
read_of_focus function.LocalName = Some item_of
read_of_focus function.NamespaceUri = Some item_of
read_of_focus function.Root = Some item_of
read_of_focus f = None

abbrev pub from_focus : Option (Placed Item → List Item) → Option (Placed Item) →
    Result (List (List Item)) Code
from_focus None focus = Ok []
from_focus (Some read) focus = of_focus (λ f. Ok (read f ∷ [])) focus

-- the arguments, with what is read of the focus where there is none
abbrev pub with_focus : Builtin → Option (Placed Item) → List (List Item) →
    Result (List (List Item)) Code
with_focus f focus [] = from_focus (read_of_focus f) focus
with_focus f focus (xs ∷ args) = Ok (xs ∷ args)

abbrev pub library_value : Builtin → Option (Placed Item) → List (List Item) →
    Result (List Item) Code
library_value f focus args = result_then (with_focus f focus args) (function_value f)

-- doc() and document()
abbrev pub named_document : Program → Option (List ℕ) → Result (List Item) Code
named_document program None = Ok []
named_document program (Some name) = document_in program.documents name

abbrev pub document_value : Program → List Item → Result (List Item) Code
document_value program xs = result_then (optional_text_argument xs) (named_document program)

-- current()
abbrev pub current_value : Option Item → Result (List Item) Code
current_value None = Err (Dynamic XPDY0002)
current_value (Some x) = Ok (x ∷ [])

-- current-group() and current-grouping-key()
abbrev pub members_of : Option Group → List Item
members_of None = []
members_of (Some g) = g.members

abbrev pub key_item : Option AtomValue → List Item
key_item None = []
key_item (Some a) = Atom a ∷ []

abbrev pub key_of : Option Group → List Item
key_of None = []
key_of (Some g) = key_item g.key

-- the root of the tree in which key() looks
abbrev pub no_tree : Code
no_tree = SheetDynamic XTDE1270

abbrev pub root_of_item : Item → Result Place Code
root_of_item (Atom a) = Err no_tree
root_of_item (Node n) = if is_document n.tree then Ok (root_place n) else Err no_tree

abbrev pub keyed_root : Option (Placed Item) → Result Place Code
keyed_root None = Err no_tree
keyed_root (Some f) = root_of_item f.value

-- the name in the first argument, which is a literal
abbrev pub literal_text : List Item → List ℕ
literal_text (Atom (atom.Str text) ∷ []) = text
literal_text xs = []

abbrev pub found_by_key : Program → Env → List (List Item) → ℕ → Outcome (List Item)
found_by_key program env args k =
    and_then (step_outcome (keyed_root env.focus) k)
    (program.keys (literal_text (argument args 0)) (map atom_of (argument args 1)))

abbrev pub call_value : Program → Called → ExprName → Env → List (List Item) → ℕ →
    Outcome (List Item)
call_value program (library f) name env args k =
    step_outcome (library_value f env.focus args) k
call_value program document name env args k =
    step_outcome (document_value program (argument args 0)) k
call_value program current name env args k = step_outcome (current_value env.state.current) k
call_value program current_group name env args k = Ends (members_of env.state.group) k
call_value program current_key name env args k = Ends (key_of env.state.group) k
call_value program key name env args k = found_by_key program env args k
call_value program declared name env args k = program.calls name args k

-- the arguments in order, and then the call
abbrev pub call_of : Program → ExprName → List Meaning → Meaning
call_of program name ms env k =
    and_then (lists_of ms env k) (call_value program (called name (length ms)) name env)
