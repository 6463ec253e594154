-- How calls are carried: those that read the focus, and those that XSLT adds (XSLT 2.0, 14 and 16).
use Rattle.std.specs.Prelude.{ℕ, List, [], ◌∷◌, Bool, true, false, length, codes, Option, Some, None}
use Rattle.xt_names.specs.declared.names.ExprName.{ExprName}
use Rattle.xt_syntax.specs.declared.exprs.Expr.{Expr}
use Rattle.xt_syntax.specs.declared.exprs.Clause.TheViews.{out-Expr, roll-Expr}
use Rattle.xt_syntax.specs.declared.exprs.Clause.TheOpen.{Call, Str}
use Rattle.function_table.specs.declared.builtins.Builtin.{Builtin}
use Rattle.function_table.specs.declared.builtins.Builtin.TheVariants as function
use Rattle.expr_meaning.specs.Calls.{Called, library, document, current, current_group, current_key}
use Rattle.expr_meaning.specs.Calls.{key, declared, called}
use Rattle.carried_exprs.specs.Forms.{ExprForm}
use Rattle.carried_exprs.specs.Sights.{Sight, named, focused, absent, Setting, position_name, size_name}
use Rattle.carried_exprs.specs.Sights.{group_name, key_name, variable_of, the_item, library_call}
use Rattle.carried_exprs.specs.Sights.{item_or_nothing}

abbrev pub string_of_item : Expr
string_of_item = library_call (codes "string") (the_item ∷ [])

-- a function without arguments, where the focus is what the variables hold
abbrev pub without_argument : Builtin → ExprName → Expr
without_argument function.Position name = variable_of position_name
without_argument function.Last name = variable_of size_name
without_argument function.StringLength name =
    library_call (codes "string-length") (string_of_item ∷ [])
without_argument function.NormalizeSpace name =
    library_call (codes "normalize-space") (string_of_item ∷ [])
without_argument function.String name = string_of_item
without_argument function.Name name = library_call (codes "name") (the_item ∷ [])
without_argument function.LocalName name = library_call (codes "local-name") (the_item ∷ [])
without_argument function.NamespaceUri name = library_call (codes "namespace-uri") (the_item ∷ [])
without_argument function.Root name = library_call (codes "root") (the_item ∷ [])
without_argument f name = roll-Expr (Call name [])

abbrev pub library_seen : Sight → Builtin → ExprName → List Expr → Expr
library_seen named f name [] = without_argument f name
library_seen named f name (a ∷ args) = roll-Expr (Call name (a ∷ args))
library_seen focused f name args = roll-Expr (Call name args)
library_seen absent f name args = roll-Expr (Call name args)

-- current(), which fails where there is no item
abbrev pub current_seen : Bool → Expr
current_seen true = the_item
current_seen false = library_call (codes "error") []

-- the text of a literal
abbrev pub literal_form : ExprForm → Option (List ℕ)
literal_form (Str text) = Some text
literal_form x = None

abbrev pub literal_of : Expr → Option (List ℕ)
literal_of e = literal_form (out-Expr e)

-- key(), whose name is a literal: its function takes the item, if there is one, and the values
abbrev pub key_of_name : Setting → Sight → Option (List ℕ) → Expr → Expr
key_of_name w s None value = item_or_nothing s
key_of_name w s (Some text) value =
    roll-Expr (Call (w.keys text) (item_or_nothing s ∷ value ∷ []))

abbrev pub key_seen : Setting → Sight → List Expr → Expr
key_seen w s [] = item_or_nothing s
key_seen w s (name ∷ []) = item_or_nothing s
key_seen w s (name ∷ value ∷ rest) = key_of_name w s (literal_of name) value

abbrev pub called_seen : Setting → Sight → Called → ExprName → List Expr → Expr
called_seen w s (library f) name args = library_seen s f name args
called_seen w s document name args = library_call (codes "doc") args
called_seen w s current name args = current_seen w.has_current
called_seen w s current_group name args = variable_of group_name
called_seen w s current_key name args = variable_of key_name
called_seen w s key name args = key_seen w s args
called_seen w s declared name args = roll-Expr (Call name args)

abbrev pub call_seen : Setting → Sight → ExprName → List Expr → Expr
call_seen w s name args = called_seen w s (called name (length args)) name args
