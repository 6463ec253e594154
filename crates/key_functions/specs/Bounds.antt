-- What is asked of the parts of a key's function, so that it fits into a query.
use Rattle.std.specs.Prelude.{◌≡◌, ◌+◌, ◌≤◌, ℕ, List, [], ◌∷◌, true}
use Rattle.xt_names.specs.Classes.{is_ncname_text}
use Rattle.xt_forms.specs.Nest.{nest_of}
use Rattle.xt_forms.specs.Regular.{is_regular_expr}
use Rattle.xt_syntax.specs.declared.exprs.Expr.{Expr}
use Rattle.name_rules.specs.Broken.{names_broken_of}
use Rattle.name_rules.specs.declared.functions.Signature.{Signature}
use Rattle.closed_queries.specs.ExprTexts.{has_sound_texts}
use Rattle.expr_meaning.specs.Outcomes.Outcome.{Every}
use Rattle.carried_exprs.specs.Sights.{item_name}
use Rattle.query_helpers.specs.Bounds.{IsHelper}
use Rattle.key_functions.specs.KeyBody.{KeyParts, key_function, values_name}

-- of the form that the grammar gives, with texts and names that XML allows, of so many levels at most,
-- and naming nothing but the function's parameters and what is in scope in any query
pub record IsFitPart (levels : ℕ) (e : Expr) : Type 0 where
  pub regular : is_regular_expr e ≡ true
  pub texts : has_sound_texts e ≡ true
  pub nest : nest_of e ≤ levels
  pub names : (functions : List Signature) →
      names_broken_of functions e (item_name ∷ values_name ∷ []) ≡ []

abbrev pub AreFitParts : ℕ → List KeyParts → Type 0
AreFitParts levels ds = Every (λ d. IsFitPart levels d.test × IsFitPart levels d.value) ds

-- the function nests eight levels more than its parts
abbrev pub KeysFit : Type 0
KeysFit =
    (local : List ℕ) → is_ncname_text local ≡ true → (levels : ℕ) (ds : List KeyParts) →
    AreFitParts levels ds → IsHelper (key_function local ds) (levels + 8)
