-- The function of a name and a number of arguments.
use Rattle.std.specs.Prelude.{ℕ, List, [], ◌∷◌, Bool, ◌&&◌, ◌||◌, ◌==◌, nat_le, Option, Some, None, is_some, codes, if◌then◌else◌}
use Rattle.std.specs.Str.{bytes_eq}
use Rattle.xt_names.specs.declared.names.ExprName.{ExprName}
use Rattle.function_table.specs.declared.builtins.Builtin.{Builtin}
use Rattle.function_table.specs.Table.{Row, table}

-- the namespace of the functions
unfoldable pub is_in_fn : ExprName → Bool
is_in_fn name = bytes_eq name.uri (codes "http://www.w3.org/2005/xpath-functions")

abbrev pub takes : Row → ℕ → Bool
takes r arity = nat_le r.least arity && nat_le arity r.greatest

-- the function of the first row with this name that takes so many arguments
unfoldable pub found_in : List Row → List ℕ → ℕ → Option Builtin
found_in [] local arity = None
found_in (r ∷ rs) local arity = if bytes_eq local r.name && takes r arity then Some r.builtin else found_in rs local arity

unfoldable pub found : ExprName → ℕ → Option Builtin
found name arity = if is_in_fn name then found_in table name.local arity else None

-- `doc` takes one argument
unfoldable pub is_doc : ExprName → ℕ → Bool
is_doc name arity = is_in_fn name && bytes_eq name.local (codes "doc") && arity == 1

unfoldable pub is_known : ExprName → ℕ → Bool
is_known name arity = is_some (found name arity) || is_doc name arity
