-- Names of variables and functions that are in scope.
use Rattle.std.specs.Prelude.{ℕ, List, [], ◌∷◌, ◌++◌, map, Bool, true, not, ◌&&◌, ◌||◌, ◌==◌, if◌then◌else◌}
use Rattle.std.specs.List.{list_any}
use Rattle.function_table.specs.Find.{is_known}
use Rattle.xt_names.specs.declared.names.ExprName.{ExprName}
use Rattle.xt_syntax.specs.declared.queries.QueryParam.{QueryParam}
use Rattle.name_rules.specs.declared.functions.Signature.{Signature}
use Rattle.xt_names.specs.ExprNames.{same_name}

abbrev pub has_name : List ExprName → ExprName → Bool
has_name names name = list_any (same_name name) names

-- with this name in scope too
abbrev pub with_name : List ExprName → ExprName → List ExprName
with_name names name = if has_name names name then names else names ++ name ∷ []

abbrev pub with_names : List ExprName → List ExprName → List ExprName
with_names names [] = names
with_names names (n ∷ ns) = with_names (with_name names n) ns

-- none of the names is in the list or stands before
abbrev pub are_new : List ExprName → List ExprName → Bool
are_new names [] = true
are_new names (n ∷ ns) = not (has_name names n) && are_new (with_name names n) ns

-- no name stands twice
abbrev pub names_differ : List ExprName → Bool
names_differ names = are_new [] names

abbrev pub param_names : List QueryParam → List ExprName
param_names params = map (λ p. p.name) params

abbrev pub same_signature : Signature → Signature → Bool
same_signature a b = same_name a.name b.name && (a.arity == b.arity)

abbrev pub signature : ExprName → ℕ → Signature
signature name arity = record { name = name; arity = arity }

abbrev pub has_function : List Signature → ExprName → ℕ → Bool
has_function declared name arity = list_any (same_signature (signature name arity)) declared

-- with this function declared too
abbrev pub with_function : List Signature → ExprName → ℕ → List Signature
with_function declared name arity = if has_function declared name arity then declared else declared ++ signature name arity ∷ []

-- a function of the table, `doc`, or one that is declared
unfoldable pub may_be_called : List Signature → ExprName → ℕ → Bool
may_be_called declared name arity = is_known name arity || has_function declared name arity
