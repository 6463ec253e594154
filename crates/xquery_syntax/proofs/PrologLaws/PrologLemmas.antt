-- Queries whose prolog breaks no rule keep their names.
use Rattle.std.proofs.Common.{◌≡◌, List, [], ◌∷◌, ◌++◌, length, Bool, true, false, not}
use Rattle.std.proofs.Common.{Option, Some, None, refl, subst}
use Rattle.std.proofs.lemmas.Bool.{and_from, not_from_false}
use Rattle.std.specs.List.{list_all}
use Rattle.xt_names.specs.declared.names.ExprName.{ExprName}
use Rattle.xt_names.specs.declared.codes.QueryStaticCode.{QueryStaticCode}
use Rattle.xt_names.specs.declared.codes.QueryStaticCode.TheVariants.{XQST0034, XQST0039}
use Rattle.xt_names.specs.declared.codes.QueryStaticCode.TheVariants.{XQST0049}
use Rattle.xt_syntax.specs.declared.exprs.Expr.{Expr}
use Rattle.xt_syntax.specs.declared.queries.Query.{Query}
use Rattle.xt_syntax.specs.declared.queries.QueryVar.{QueryVar}
use Rattle.xt_syntax.specs.declared.queries.QueryFunction.{QueryFunction}
use Rattle.name_rules.specs.declared.functions.Signature.{Signature}
use Rattle.name_rules.specs.Broken.{names_broken_of}
use Rattle.name_rules.specs.Faults.{first}
use Rattle.name_rules.specs.Scopes.{has_name, with_name, with_names, are_new, names_differ, param_names}
use Rattle.name_rules.specs.Scopes.{has_function, with_function}
use Rattle.closed_queries.specs.declared.prolog_rules.declarations.Declaration.{Declaration}
use Rattle.closed_queries.specs.declared.prolog_rules.declarations.Declaration.TheVariants.{Variable, Function}
use Rattle.closed_queries.specs.PrologRules.Setters.{broken_if}
use Rattle.closed_queries.specs.PrologRules.Declarations.{declarations_broken, declaration_broken, variable_broken}
use Rattle.closed_queries.specs.PrologRules.Declarations.{value_broken, function_broken, function_name_broken}
use Rattle.closed_queries.specs.PrologRules.Declarations.{params_broken, body_broken, scope_behind, query_broken}
use Rattle.closed_queries.specs.PrologRules.Declarations.{functions_behind, all_behind}
use Rattle.closed_queries.specs.Closed.{variable_names, are_new_functions, have_different_params}
use Rattle.closed_queries.specs.Closed.{has_different_names, with_functions, keeps_names, if_keeps}
use Rattle.closed_queries.specs.Closed.{value_keeps_names, body_keeps_names, all_keep_names}
use Rattle.closed_queries.specs.Closed.{query_keeps_names}
use Rattle.xquery_syntax.specs.PrologLaws.Parts.{variables_in, functions_in, Makes}
use Rattle.xquery_syntax.proofs.PrologLaws.ScopeLemmas.{Within, within_names, within_more}
use Rattle.xquery_syntax.proofs.PrologLaws.ScopeLemmas.{keeps_old}
use Rattle.xquery_syntax.proofs.PrologLaws.Monotone.{names_mono}
use Rattle.xt_names.proofs.ListLemmas.{front_nil, back_nil}

-- a rule that is not broken
holds_not : (b : Bool) (c : QueryStaticCode) → broken_if b c ≡ [] → b ≡ false
unfolding broken_if
holds_not true c e = absurd cc
holds_not false c e = refl

keeps_by : (fs : List Signature) (s : List ExprName) (e : Expr) → names_broken_of fs e s ≡ []
    → keeps_names fs s e ≡ true
unfolding first
keeps_by fs s e h = rw h refl

-- what one declaration breaks
variable_new : (fs : List Signature) (s : List ExprName) (v : QueryVar)
    → variable_broken fs s v ≡ [] → has_name s v.name ≡ false
unfolding variable_broken
variable_new fs s v e = holds_not (has_name s v.name) XQST0049
    (front_nil (broken_if (has_name s v.name) XQST0049) (value_broken fs s v.value) e)

value_unbroken : (fs : List Signature) (s : List ExprName) (v : QueryVar)
    → variable_broken fs s v ≡ [] → value_broken fs s v.value ≡ []
unfolding variable_broken
value_unbroken fs s v e =
    back_nil (broken_if (has_name s v.name) XQST0049) (value_broken fs s v.value) e

value_keeps : (fs : List Signature) (s t : List ExprName) (o : Option Expr) → Within s t
    → value_broken fs s o ≡ [] → if_keeps fs t o ≡ true
unfolding value_broken
value_keeps fs s t None w e = refl
value_keeps fs s t (Some x) w e = keeps_by fs t x (names_mono fs x s t w e)

function_new : (declared : List Signature) (f : QueryFunction)
    → function_name_broken declared f ≡ [] → has_function declared f.name (length f.params) ≡ false
unfolding function_name_broken
function_new declared f e =
    holds_not (has_function declared f.name (length f.params)) XQST0034 (front_nil
    (broken_if (has_function declared f.name (length f.params)) XQST0034) _ e)

params_differ : (f : QueryFunction) → params_broken f.params ≡ []
    → names_differ (param_names f.params) ≡ true
params_differ f e = go (names_differ (param_names f.params))
    (holds_not (not (names_differ (param_names f.params))) XQST0039 e)
  where
    go : (b : Bool) → not b ≡ false → b ≡ true
    go true h = refl
    go false h = absurd cc

-- what a function breaks, part by part
name_unbroken : (fs : List Signature) (s : List ExprName) (declared : List Signature)
    (f : QueryFunction) → function_broken fs s declared f ≡ []
    → (function_name_broken declared f ≡ []) × (params_broken f.params ≡ []) × (body_broken fs s f ≡ [])
unfolding function_broken
name_unbroken fs s declared f e =
    let rest = back_nil (function_name_broken declared f) (params_broken f.params ++ body_broken fs s f) e in (
      front_nil (function_name_broken declared f) (params_broken f.params ++ body_broken fs s f) e,
      front_nil (params_broken f.params) (body_broken fs s f) rest,
      back_nil (params_broken f.params) (body_broken fs s f) rest,
    )

body_keeps : (fs : List Signature) (s t : List ExprName) (f : QueryFunction) → Within s t
    → body_broken fs s f ≡ [] → body_keeps_names fs t f ≡ true
body_keeps fs s t f w e = keeps_by fs (with_names t (param_names f.params)) f.body
    (names_mono fs f.body (with_names s (param_names f.params)) (with_names t (param_names f.params))
    (within_names s t (param_names f.params) w) e)

-- what holds of all declarations, in a scope that has all variables
pub record AllKeep (fs : List Signature) (s t : List ExprName) (declared : List Signature)
    (ds : List Declaration) (body : Expr) : Type 0 where
  pub variables : are_new s (variable_names (variables_in ds)) ≡ true
  pub functions : are_new_functions declared (functions_in ds) ≡ true
  pub params : have_different_params (functions_in ds) ≡ true
  pub values : list_all (value_keeps_names fs t) (variables_in ds) ≡ true
  pub bodies : list_all (body_keeps_names fs t) (functions_in ds) ≡ true
  pub whole : keeps_names fs t body ≡ true

all_keep : (fs : List Signature) (s t : List ExprName) (declared : List Signature)
    (ds : List Declaration) (body : Expr)
    → Within (with_names s (variable_names (variables_in ds))) t
    → declarations_broken fs s declared ds body ≡ [] → AllKeep fs s t declared ds body
unfolding declaration_broken scope_behind functions_behind
all_keep fs s t declared [] body w e = record {
  variables = refl;
  functions = refl;
  params = refl;
  values = refl;
  bodies = refl;
  whole = keeps_by fs t body (names_mono fs body s t w e);
}
all_keep fs s t declared (Variable v ∷ ds) body w e =
    let a = front_nil (variable_broken fs s v)
    (declarations_broken fs (with_name s v.name) declared ds body) e in
    let b = back_nil (variable_broken fs s v)
    (declarations_broken fs (with_name s v.name) declared ds body) e in
    let r = all_keep fs (with_name s v.name) t declared ds body w b in
    let z : Within s t = λ m h. w m (within_more (with_name s v.name) (variable_names (variables_in ds)) m
    (keeps_old s v.name m h)) in
    record {
      variables = and_from _ _ (not_from_false _ (variable_new fs s v a)) r.variables;
      functions = r.functions;
      params = r.params;
      values = and_from _ _ (value_keeps fs s t v.value z (value_unbroken fs s v a)) r.values;
      bodies = r.bodies;
      whole = r.whole;
    }
all_keep fs s t declared (Function f ∷ ds) body w e =
    let more = with_function declared f.name (length f.params) in
    let a = front_nil (function_broken fs s declared f) (declarations_broken fs s more ds body) e in
    let b = back_nil (function_broken fs s declared f) (declarations_broken fs s more ds body) e in
    let r = all_keep fs s t more ds body w b in
    let z : Within s t = λ m h. w m (within_more s (variable_names (variables_in ds)) m h) in
    let p = name_unbroken fs s declared f a in
    record {
      variables = r.variables;
      functions = and_from _ _ (not_from_false _ (function_new declared f p.0)) r.functions;
      params = and_from _ _ (params_differ f p.1) r.params;
      values = r.values;
      bodies = and_from _ _ (body_keeps fs s t f z p.2) r.bodies;
      whole = r.whole;
    }

-- the functions after all declarations are those of the query
behind_all : (declared : List Signature) (ds : List Declaration)
    → all_behind declared ds ≡ with_functions declared (functions_in ds)
unfolding functions_behind
behind_all declared [] = refl
behind_all declared (Variable v ∷ ds) = behind_all declared ds
behind_all declared (Function f ∷ ds) = behind_all (with_function declared f.name (length f.params)) ds

all_of : (ds : List Declaration) (body : Expr) → query_broken ds body ≡ []
    → AllKeep (with_functions [] (functions_in ds)) [] (with_names [] (variable_names (variables_in ds)))
    [] ds body
all_of ds body e = all_keep (with_functions [] (functions_in ds)) [] _ [] ds body (λ m h. h)
    (subst (λ (fs : List Signature). declarations_broken fs [] [] ds body ≡ []) (behind_all [] ds) e)

pub different_names : (ds : List Declaration) (q : Query) → Makes ds q → query_broken ds q.body ≡ []
    → has_different_names q ≡ true
unfolding has_different_names
different_names ds q m e =
    let r = all_of ds q.body e in
    rw (m.variables, m.functions, r.variables, r.functions, r.params) refl

pub names_kept : (ds : List Declaration) (q : Query) → Makes ds q → query_broken ds q.body ≡ []
    → query_keeps_names q ≡ true
unfolding query_keeps_names all_keep_names
names_kept ds q m e =
    let r = all_of ds q.body e in
    rw (m.variables, m.functions, r.values, r.bodies, r.whole) refl
