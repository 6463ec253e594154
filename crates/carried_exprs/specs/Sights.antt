-- Where an expression of a stylesheet finds in the query what it reads.
use Rattle.std.specs.Prelude.{◌≡◌, ℕ, List, [], Bool, not, ◌&&◌, codes}
use Rattle.std.specs.Str.{bytes_eq}
use Rattle.xt_names.specs.declared.names.ExprName.{ExprName}
use Rattle.xt_syntax.specs.declared.exprs.Expr.{Expr}
use Rattle.xt_syntax.specs.declared.exprs.Clause.TheViews.{roll-Expr}
use Rattle.xt_syntax.specs.declared.exprs.Clause.TheOpen.{Var, Context, Comma, Slash, Call}
use Rattle.xt_names.specs.ExprNames.{library_name}

-- The focus of the stylesheet is what the variables hold, or it is the query's own focus, as in a
-- predicate and right of `/`, or there is none, as in a function's body.
pub data Sight : Type 0 where
  named : Sight
  focused : Sight
  absent : Sight

-- where the whole expression stands: whether it begins at an item, whether in a group, whether it may
-- call functions that are declared, whether it may name variables and call key(), which `use` may not,
-- and which function finds the nodes of a key
pub record Setting : Type 0 where
  pub has_current : Bool
  pub has_group : Bool
  pub has_calls : Bool
  pub has_keys : Bool
  pub keys : List ℕ → ExprName

-- the namespace of the names that the translation makes up, and that of its functions
abbrev pub made_uri : List ℕ
made_uri = codes "urn:xslt2xq"

abbrev pub local_uri : List ℕ
local_uri = codes "http://www.w3.org/2005/xquery-local-functions"

abbrev pub made_name : List ℕ → ExprName
made_name local = record { uri = made_uri; local = local }

-- the variables that hold the focus item, its position, the size, the current group and its key
abbrev pub item_name : ExprName
item_name = made_name (codes "item")

abbrev pub position_name : ExprName
position_name = made_name (codes "position")

abbrev pub size_name : ExprName
size_name = made_name (codes "size")

abbrev pub group_name : ExprName
group_name = made_name (codes "group")

abbrev pub key_name : ExprName
key_name = made_name (codes "key")

-- .. and a value among those that are compared
abbrev pub value_name : ExprName
value_name = made_name (codes "value")

-- what a stylesheet may name itself
unfoldable pub is_own_variable : ExprName → Bool
is_own_variable name = not (bytes_eq name.uri made_uri)

unfoldable pub is_own_function : ExprName → Bool
is_own_function name = not (bytes_eq name.uri local_uri)

-- what an expression may name there of what is declared
abbrev pub may_name : Setting → ExprName → Bool
may_name w name = w.has_keys && is_own_variable name

-- .. and what it may call
abbrev pub may_call : Setting → ExprName → Bool
may_call w name = w.has_calls && is_own_function name

-- the functions that find the nodes of keys are those of the translation
abbrev pub HasLocalKeys : Setting → Type 0
HasLocalKeys w = (name : List ℕ) → (w.keys name).uri ≡ local_uri

-- forms of the query
abbrev pub variable_of : ExprName → Expr
variable_of name = roll-Expr (Var name)

abbrev pub the_item : Expr
the_item = variable_of item_name

abbrev pub nothing : Expr
nothing = roll-Expr (Comma [])

abbrev pub library_call : List ℕ → List Expr → Expr
library_call local args = roll-Expr (Call (library_name local) args)

-- `.`
abbrev pub context_seen : Sight → Expr
context_seen named = the_item
context_seen focused = roll-Expr Context
context_seen absent = roll-Expr Context

-- a step or `/` from the focus item
abbrev pub from_focus : Sight → Expr → Expr
from_focus named e = roll-Expr (Slash the_item e)
from_focus focused e = e
from_focus absent e = e

-- the item that a function takes first; where there is none, the function itself fails
abbrev pub item_or_nothing : Sight → Expr
item_or_nothing named = the_item
item_or_nothing focused = roll-Expr Context
item_or_nothing absent = nothing
