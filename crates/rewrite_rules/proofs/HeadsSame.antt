-- Passes change expressions alone, and none of them nests deeper.
use Rattle.std.proofs.Common.{◌≡◌, ℕ, zero, suc, ◌≤◌, List, [], ◌∷◌, refl, ap, ◌∙◌, map, arith}
use Rattle.std.specs.Prelude.{Option, Some, None}
use Rattle.xt_names.specs.declared.names.ExprName.{ExprName}
use Rattle.xt_syntax.specs.declared.exprs.Expr.{Expr}
use Rattle.xt_syntax.specs.declared.queries.Query.{Query}
use Rattle.xt_syntax.specs.declared.queries.QueryFunction.{QueryFunction}
use Rattle.xt_syntax.specs.declared.queries.QueryVar.{QueryVar}
use Rattle.expr_meaning.specs.Outcomes.Outcome.{Every}
use Rattle.xt_forms.specs.Nest.{nest_of}
use Rattle.rewrite_rules.specs.Passes.{tidied, tidied_value, tidied_variable, tidied_function, tidied_query, passes}
use Rattle.rewrite_rules.specs.Heads.{variable_head, function_head, SameHeads, ValueWithin, QueryWithin}
use Rattle.rewrite_rules.proofs.PassesEnd.{tidied_calm}

variables_same : (vs : List QueryVar) → map variable_head (map tidied_variable vs) ≡ map variable_head vs
variables_same [] = refl
variables_same (v ∷ vs) = ap (λ l. variable_head v ∷ l) (variables_same vs)

functions_same : (fs : List QueryFunction) → map function_head (map tidied_function fs) ≡ map function_head fs
functions_same [] = refl
functions_same (f ∷ fs) = ap (λ l. function_head f ∷ l) (functions_same fs)

heads_same : (q : Query) → SameHeads (tidied_query q) q
heads_same q = record {
  prefixes = refl;
  element_default = refl;
  space = refl;
  omit = refl;
  variables = variables_same q.variables;
  functions = functions_same q.functions;
}

heads_then : (q r t : Query) → SameHeads q r → SameHeads r t → SameHeads q t
heads_then q r t h i = record {
  prefixes = h.prefixes ∙ i.prefixes;
  element_default = h.element_default ∙ i.element_default;
  space = h.space ∙ i.space;
  omit = h.omit ∙ i.omit;
  variables = h.variables ∙ i.variables;
  functions = h.functions ∙ i.functions;
}

heads_self : (q : Query) → SameHeads q q
heads_self q = record {
  prefixes = refl;
  element_default = refl;
  space = refl;
  omit = refl;
  variables = refl;
  functions = refl;
}

le_then : (a b c : ℕ) → a ≤ b → b ≤ c → a ≤ c
le_then a b c h i = omega arith

module _ (limit : ℕ) where
  expr_within : (bound : List ExprName) (e : Expr) → nest_of e ≤ limit → nest_of (tidied bound e) ≤ limit
  expr_within bound e h = le_then (nest_of (tidied bound e)) (nest_of e) limit (tidied_calm bound e).flat h

  value_within : (o : Option Expr) → ValueWithin limit o → ValueWithin limit (tidied_value o)
  value_within None h = tt
  value_within (Some e) h = expr_within [] e h

  variables_within : (vs : List QueryVar) → Every (λ v. ValueWithin limit v.value) vs →
      Every (λ v. ValueWithin limit v.value) (map tidied_variable vs)
  variables_within [] h = tt
  variables_within (v ∷ vs) h = (value_within v.value h.0, variables_within vs h.1)

  functions_within : (fs : List QueryFunction) → Every (λ f. nest_of f.body ≤ limit) fs →
      Every (λ f. nest_of f.body ≤ limit) (map tidied_function fs)
  functions_within [] h = tt
  functions_within (f ∷ fs) h = (expr_within (map (λ p. p.name) f.params) f.body h.0, functions_within fs h.1)

  query_within : (q : Query) → QueryWithin limit q → QueryWithin limit (tidied_query q)
  query_within q h =
      (variables_within q.variables h.0, functions_within q.functions h.1, expr_within [] q.body h.2)

pub passes_keep : (n : ℕ) (q : Query) →
    SameHeads (passes n q) q × ((limit : ℕ) → QueryWithin limit q → QueryWithin limit (passes n q))
passes_keep zero q = (heads_self q, λ limit h. h)
passes_keep (suc n) q =
    let more = passes_keep n (tidied_query q) in (
      heads_then (passes n (tidied_query q)) (tidied_query q) q more.0 (heads_same q),
      λ limit h. more.1 limit (query_within limit q h),
    )
