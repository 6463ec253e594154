-- A pass over a query changes nothing that the query gives.
use Rattle.std.proofs.Common.{◌≡◌, ℕ, zero, suc, List, [], ◌∷◌, refl, ap, ◌∙◌, map, length}
use Rattle.std.specs.Prelude.{Bool, true, false, ◌==◌, if◌then◌else◌, Option, Some, None, Result, Ok, Err}
use mathlib.Core.Path.{fun_ext}
use Rattle.std.proofs.lemmas.Bool.{eqb-true}
use Rattle.xt_names.specs.declared.codes.Code.{Code}
use Rattle.xt_names.specs.declared.names.ExprName.{ExprName}
use Rattle.xdm_items.specs.declared.items.Item.{Item}
use Rattle.xt_syntax.specs.declared.exprs.Expr.{Expr}
use Rattle.xt_syntax.specs.declared.queries.QueryFunction.{QueryFunction}
use Rattle.xt_syntax.specs.declared.queries.QueryParam.{QueryParam}
use Rattle.xt_syntax.specs.declared.queries.QueryVar.{QueryVar}
use Rattle.expr_meaning.specs.Outcomes.Outcome.{Outcome, and_then, step_outcome}
use Rattle.expr_meaning.specs.Env.{Binding, Program}
use Rattle.expr_meaning.specs.Logic.{typed}
use Rattle.expr_meaning.specs.Meaning.{outcome}
use Rattle.expr_meaning.specs.Queries.{Run, converted_to, bound_to, bound_params, is_called, find_function}
use Rattle.expr_meaning.specs.Queries.{program_of, body_env, body_value, called_function, calls_at}
use Rattle.expr_meaning.specs.Queries.{program_at, top_env, initialised, variable_outcome, globals_from}
use Rattle.expr_meaning.specs.Queries.{query_outcome}
use Rattle.rewrite_rules.specs.Law.{Binds}
use Rattle.rewrite_rules.specs.Passes.{tidied, tidied_value, tidied_variable, tidied_function, tidied_query, passes}
use Rattle.rewrite_rules.proofs.Outcomes.{next_same}
use Rattle.rewrite_rules.proofs.PassesSame.{tidied_same}
use Rattle.rewrite_rules.proofs.SightsMove.{found_here, binds_behind}
use Rattle.xt_names.proofs.BoolLemmas.{and_second}
use Rattle.xt_names.specs.ExprNames.{same_name}

-- parameters are local in the body
abbrev OnOk : {A : Type 0} → (A → Type 0) → Result A Code → Type 0
OnOk P (Ok v) = P v
OnOk P (Err c) = Unit {0}

abbrev param_names : List QueryParam → List ExprName
param_names ps = map (λ p. p.name) ps

abbrev AreLocal : List QueryParam → List Binding → Type 0
AreLocal ps bs = Binds (param_names ps) (body_env bs)

bound_local : (p : QueryParam) (ps : List QueryParam) (xs : Result (List Item) Code)
    (more : Result (List Binding) Code) → OnOk (AreLocal ps) more → OnOk (AreLocal (p ∷ ps)) (bound_to p xs more)
bound_local p ps (Ok ys) (Ok bs) h =
    ((ys, found_here p.name ys bs), binds_behind (param_names ps) (body_env bs) h p.name ys)
bound_local p ps (Ok ys) (Err c) h = tt
bound_local p ps (Err c) more h = tt

params_local : (ps : List QueryParam) (args : List (List Item)) → length ps ≡ length args →
    OnOk (AreLocal ps) (bound_params ps args)
params_local [] args h = tt
params_local (p ∷ ps) [] h = absurd cc
params_local (p ∷ ps) (xs ∷ args) h =
    bound_local p ps (converted_to p.kind xs) (bound_params ps args) (params_local ps args cc)

-- the function that is found
abbrev in_option : Option QueryFunction → Option QueryFunction
in_option None = None
in_option (Some f) = Some (tidied_function f)

found_same : (fs : List QueryFunction) (name : ExprName) (arity : ℕ) →
    find_function (map tidied_function fs) name arity ≡ in_option (find_function fs name arity)
found_same [] name arity = refl
found_same (f ∷ fs) name arity = by (is_called f name arity) (found_same fs name arity)
  where
    by : (t : Bool) → find_function (map tidied_function fs) name arity ≡ in_option (find_function fs name arity) →
        (if t then Some (tidied_function f) else find_function (map tidied_function fs) name arity)
        ≡ in_option (if t then Some f else find_function fs name arity)
    by true h = refl
    by false h = h

abbrev HasArity : ℕ → Option QueryFunction → Type 0
HasArity arity None = Unit {0}
HasArity arity (Some f) = (length f.params == arity) ≡ true

found_arity : (fs : List QueryFunction) (name : ExprName) (arity : ℕ) →
    HasArity arity (find_function fs name arity)
found_arity [] name arity = tt
found_arity (f ∷ fs) name arity = by (is_called f name arity) refl (found_arity fs name arity)
  where
    by : (t : Bool) → is_called f name arity ≡ t → HasArity arity (find_function fs name arity) →
        HasArity arity (if t then Some f else find_function fs name arity)
    by true h g = and_second (same_name f.name name) (length f.params == arity) h
    by false h g = g

number_is : (a b : ℕ) → (a == b) ≡ true → a ≡ b
number_is a b h = eqb-true a b h

-- a call
ok_same : {A B : Type 0} (P : A → Type 0) (v : Result A Code) → OnOk P v → (k : ℕ)
    (g h : A → ℕ → Outcome B) → ((a : A) → P a → (j : ℕ) → g a j ≡ h a j) →
    and_then (step_outcome v k) g ≡ and_then (step_outcome v k) h
ok_same P (Ok a) p k g h e = e a p k
ok_same P (Err c) p k g h e = refl

called_same : (p : Program) (o : Option QueryFunction) (args : List (List Item)) → HasArity (length args) o →
    (k : ℕ) → called_function (in_option o) (Some (body_value p)) args k
    ≡ called_function o (Some (body_value p)) args k
called_same p None args h k = refl
called_same p (Some f) args h k =
    ok_same (AreLocal f.params) (bound_params f.params args)
    (params_local f.params args (number_is (length f.params) (length args) h)) k
    (body_value p (tidied_function f)) (body_value p f) (λ bs b j.
    ap (λ o. and_then o (λ xs i. step_outcome (converted_to f.kind xs) i))
    (tidied_same p (param_names f.params) f.body (body_env bs) b j))

stopped_same : (o : Option QueryFunction) (args : List (List Item)) (k : ℕ) →
    called_function (in_option o) None args k ≡ called_function o None args k
stopped_same None args k = refl
stopped_same (Some f) args k = refl

abbrev pub tidy_run : Run → Run
tidy_run run = record run { query = tidied_query run.query }

calls_same : (run : Run) (globals : List Binding) (n : ℕ) →
    calls_at (tidy_run run) globals n ≡ calls_at run globals n
calls_same run globals zero = fun_ext (λ name. fun_ext (λ args. fun_ext (λ k.
    ap (λ o. called_function o None args k) (found_same run.query.functions name (length args))
    ∙ stopped_same (find_function run.query.functions name (length args)) args k)))
calls_same run globals (suc n) = fun_ext (λ name. fun_ext (λ args. fun_ext (λ k.
    ap (λ c. called_function (find_function (map tidied_function run.query.functions) name (length args))
    (Some (body_value (program_of run globals c))) args k) (calls_same run globals n)
    ∙ ap (λ o. called_function o (Some (body_value (program_of run globals (calls_at run globals n)))) args k)
    (found_same run.query.functions name (length args))
    ∙ called_same (program_of run globals (calls_at run globals n))
    (find_function run.query.functions name (length args)) args
    (found_arity run.query.functions name (length args)) k)))

program_same : (run : Run) (globals : List Binding) (n : ℕ) →
    program_at (tidy_run run) globals n ≡ program_at run globals n
program_same run globals n = ap (program_of run globals) (calls_same run globals n)

-- variables
value_same : (run : Run) (p : Program) (document : Item) (v : QueryVar) (value : Option Expr) (k : ℕ) →
    initialised (tidy_run run) p document (tidied_variable v) (tidied_value value) k
    ≡ initialised run p document v value k
value_same run p document v None k = refl
value_same run p document v (Some e) k =
    ap (λ o. and_then o (λ xs j. step_outcome (typed v.kind xs) j)) (tidied_same p [] e (top_env document) tt k)

globals_same : (run : Run) (document : Item) (n : ℕ) (vs : List QueryVar) (globals : List Binding) (k : ℕ) →
    globals_from (tidy_run run) document n (map tidied_variable vs) globals k
    ≡ globals_from run document n vs globals k
globals_same run document n [] globals k = refl
globals_same run document n (v ∷ vs) globals k =
    ap (λ p. and_then (variable_outcome (tidy_run run) p document (tidied_variable v) k) (λ xs.
    globals_from (tidy_run run) document n (map tidied_variable vs) ((v.name, xs) ∷ globals)))
    (program_same run globals n)
    ∙ ap (λ o. and_then o (λ xs. globals_from (tidy_run run) document n (map tidied_variable vs)
    ((v.name, xs) ∷ globals))) (value_same run (program_at run globals n) document v v.value k)
    ∙ next_same (variable_outcome run (program_at run globals n) document v k) _ _ (λ xs j.
    globals_same run document n vs ((v.name, xs) ∷ globals) j)

pub query_same : (run : Run) (document : Item) (n k : ℕ) →
    query_outcome (tidy_run run) document n k ≡ query_outcome run document n k
query_same run document n k =
    ap (λ o. and_then o (λ globals. outcome (program_at (tidy_run run) globals n) (tidied [] run.query.body)
    (top_env document))) (globals_same run document n run.query.variables [] k)
    ∙ next_same (globals_from run document n run.query.variables [] k) _ _ (λ globals j.
    ap (λ p. outcome p (tidied [] run.query.body) (top_env document) j) (program_same run globals n)
    ∙ tidied_same (program_at run globals n) [] run.query.body (top_env document) tt j)

pub passes_same : (count : ℕ) (run : Run) (document : Item) (n k : ℕ) →
    query_outcome (record run { query = passes count run.query }) document n k
    ≡ query_outcome run document n k
passes_same zero run document n k = refl
passes_same (suc count) run document n k =
    passes_same count (tidy_run run) document n k ∙ query_same run document n k
