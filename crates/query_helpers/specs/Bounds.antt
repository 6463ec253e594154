-- What a generated query asks of its helper functions: their form, how deep they nest, and that they
-- name nothing but their parameters, what they bind themselves, and functions of the library.
use Rattle.std.specs.Prelude.{◌≡◌, ◌≤◌, ℕ, List, [], true}
use Rattle.xt_forms.specs.Nest.{nest_of}
use Rattle.xt_syntax.specs.declared.queries.QueryFunction.{QueryFunction}
use Rattle.name_rules.specs.Broken.{names_broken_of}
use Rattle.name_rules.specs.Scopes.{param_names}
use Rattle.name_rules.specs.declared.functions.Signature.{Signature}
use Rattle.closed_queries.specs.Closed.{is_good_function}

-- regular, with names and texts that XML allows; of so many levels at most; and whatever else is
-- declared, all names are in scope
pub record IsHelper (f : QueryFunction) (levels : ℕ) : Type 0 where
  pub good : is_good_function f ≡ true
  pub nest : nest_of f.body ≤ levels
  pub names : (functions : List Signature) →
      names_broken_of functions f.body (param_names f.params) ≡ []
