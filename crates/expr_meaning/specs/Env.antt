-- What an expression can read (XPath 2.0, 2.1.2; XSLT 2.0, 5.4.3), and what it does with that.
use Rattle.std.specs.Prelude.{ℕ, List, [], ◌∷◌, Option, Some, None, Result, Ok, Err}
use Rattle.std.specs.Prelude.{if◌then◌else◌}
use Rattle.xt_names.specs.declared.codes.Code.{Code}
use Rattle.xt_names.specs.declared.codes.Code.TheVariants.{Dynamic}
use Rattle.xt_names.specs.declared.codes.DynamicCode.TheVariants.{XPDY0002}
use Rattle.xt_names.specs.declared.names.ExprName.{ExprName}
use Rattle.xt_names.specs.declared.names.Binding.{Binding as Namespace}
use Rattle.xt_atoms.specs.declared.atoms.Atom.{Atom as AtomValue}
use Rattle.xt_tree.specs.Place.{Place}
use Rattle.doc_set.specs.Sets.{DocumentSet}
use Rattle.xdm_items.specs.declared.items.Item.{Item}
use Rattle.expr_meaning.specs.Outcomes.Outcome.{Outcome}
use Rattle.expr_meaning.specs.SortMeaning.Sorted.{Placed}
use Rattle.xt_names.specs.ExprNames.{same_name}

-- a name and its list
abbrev pub Binding : Type 0
Binding = ExprName × List Item

-- the current group of a stylesheet, with its key where it has one
pub record Group : Type 0 where
  pub key : Option AtomValue
  pub members : List Item

-- what a stylesheet adds: the item with which the whole expression began, the current rule, the
-- mode, the current group and the tunnel parameters
pub record State : Type 0 where
  pub current : Option Item
  pub rule : Option ℕ
  pub mode : ℕ
  pub group : Option Group
  pub tunnel : List Binding

-- the local bindings, the innermost first, the focus item with its position and the size, and the
-- rest
pub record Env : Type 0 where
  pub locals : List Binding
  pub focus : Option (Placed Item)
  pub state : State

-- what a query reads of a stylesheet's state
abbrev pub no_state : State
no_state = record { current = None; rule = None; mode = 0; group = None; tunnel = [] }

-- the same with these bindings before the others
abbrev pub with_bound : List Binding → List Binding → List Binding
with_bound [] others = others
with_bound (b ∷ more) others = b ∷ with_bound more others

abbrev pub bind_all : List Binding → Env → Env
bind_all bound env = record {
  locals = with_bound bound env.locals;
  focus = env.focus;
  state = env.state;
}

abbrev pub bind : ExprName → List Item → Env → Env
bind x xs env = bind_all ((x, xs) ∷ []) env

-- the same at an item
abbrev pub at_focus : Env → Placed Item → Env
at_focus env f = record { locals = env.locals; focus = Some f; state = env.state }

-- what an expression does with what it can read and the next number of a tree
abbrev pub Meaning : Type 0
Meaning = Env → ℕ → Outcome (List Item)

-- what a call of a declared function does with its arguments
abbrev pub Calls : Type 0
Calls = ExprName → List (List Item) → ℕ → Outcome (List Item)

-- what key() of this name finds in the tree of this root, where one of the values is the same
abbrev pub Keys : Type 0
Keys = List ℕ → List AtomValue → Place → ℕ → Outcome (List Item)

-- What is fixed while an expression runs: what calls and key() do, the documents that doc() finds, the
-- globals evaluated so far, and the namespaces that computed names may use.
pub record Program : Type 0 where
  pub calls : Calls
  pub keys : Keys
  pub documents : DocumentSet
  pub globals : List Binding
  pub namespaces : List Namespace
  pub element_default : List ℕ

-- the innermost list of the name
unfoldable pub look_up : List Binding → ExprName → Option (List Item)
look_up [] name = None
look_up (b ∷ more) name = if same_name b.0 name then Some b.1 else look_up more name

abbrev pub or_global : Option (List Item) → Option (List Item) → Result (List Item) Code
or_global (Some xs) global = Ok xs
or_global None (Some xs) = Ok xs
or_global None None = Err (Dynamic XPDY0002)

-- a local one hides a global one; a global that is not evaluated yet has no value
abbrev pub variable_value : Program → Env → ExprName → Result (List Item) Code
variable_value program env name =
    or_global (look_up env.locals name) (look_up program.globals name)
