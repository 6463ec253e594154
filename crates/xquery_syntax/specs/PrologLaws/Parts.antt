-- The variables and functions of a query among its declarations (XQuery 1.0, 4.14 and 4.15).
use Rattle.std.specs.Prelude.{◌≡◌, List, [], ◌∷◌}
use Rattle.xt_syntax.specs.declared.queries.Query.{Query}
use Rattle.xt_syntax.specs.declared.queries.QueryVar.{QueryVar}
use Rattle.xt_syntax.specs.declared.queries.QueryFunction.{QueryFunction}
use Rattle.closed_queries.specs.declared.prolog_rules.declarations.Declaration.{Declaration}
use Rattle.closed_queries.specs.declared.prolog_rules.declarations.Declaration.TheVariants.{Variable, Function}

abbrev pub variables_in : List Declaration → List QueryVar
variables_in [] = []
variables_in (Variable v ∷ ds) = v ∷ variables_in ds
variables_in (Function f ∷ ds) = variables_in ds

abbrev pub functions_in : List Declaration → List QueryFunction
functions_in [] = []
functions_in (Variable v ∷ ds) = functions_in ds
functions_in (Function f ∷ ds) = f ∷ functions_in ds

-- the query has those that are declared, in their order
pub record Makes (ds : List Declaration) (q : Query) : Type 0 where
  pub variables : q.variables ≡ variables_in ds
  pub functions : q.functions ≡ functions_in ds
