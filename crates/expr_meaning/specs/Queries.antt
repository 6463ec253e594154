-- What a query gives (XQuery 1.0, 2.2.3 and 4).
use Rattle.std.specs.Prelude.{ℕ, zero, suc, List, [], ◌∷◌, length, Bool, ◌&&◌, ◌==◌}
use Rattle.std.specs.Prelude.{if◌then◌else◌, Option, Some, None, Result, Ok, Err}
use Rattle.std.specs.Str.{bytes_eq}
use Rattle.xt_names.specs.Allowed.{is_empty_text}
use Rattle.xt_names.specs.declared.codes.Code.{Code}
use Rattle.xt_names.specs.declared.codes.Code.TheVariants.{Dynamic, QueryStatic}
use Rattle.xt_names.specs.declared.codes.DynamicCode.TheVariants.{XPDY0002}
use Rattle.xt_names.specs.declared.codes.QueryStaticCode.TheVariants.{XPST0017}
use Rattle.xt_names.specs.declared.names.ExprName.{ExprName}
use Rattle.xt_types.specs.declared.types.SeqType.{SeqType}
use Rattle.xt_atoms.specs.declared.atoms.Atom.TheVariants as atom
use Rattle.doc_set.specs.Sets.{DocumentSet}
use Rattle.xdm_items.specs.declared.items.Item.{Item}
use Rattle.xdm_items.specs.declared.items.Item.TheVariants.{Atom}
use Rattle.xdm_items.specs.Conversion.{converted}
use Rattle.xt_syntax.specs.declared.exprs.Expr.{Expr}
use Rattle.xt_syntax.specs.declared.queries.Query.{Query}
use Rattle.xt_syntax.specs.declared.queries.QueryFunction.{QueryFunction}
use Rattle.xt_syntax.specs.declared.queries.QueryParam.{QueryParam}
use Rattle.xt_syntax.specs.declared.queries.QueryVar.{QueryVar}
use Rattle.expr_meaning.specs.Outcomes.Outcome.{Outcome, Ends, Fails, Deep, and_then, step_outcome}
use Rattle.xdm_items.specs.FunctionArguments.Arguments.{and_then as result_then}
use Rattle.expr_meaning.specs.Env.{Binding, Calls, Env, Program, no_state}
use Rattle.expr_meaning.specs.Logic.{typed}
use Rattle.expr_meaning.specs.Meaning.{outcome}
use Rattle.xt_names.specs.ExprNames.{same_name}

-- a value given from outside: its name, which has no namespace, and its text
abbrev pub Given : Type 0
Given = List ℕ × List ℕ

-- what is fixed while a query runs
pub record Run : Type 0 where
  pub query : Query
  pub documents : DocumentSet
  pub given : List Given

-- converted to the type, if there is one
abbrev pub converted_to : Option SeqType → List Item → Result (List Item) Code
converted_to None xs = Ok xs
converted_to (Some type) xs = converted type xs

abbrev pub bound_to : QueryParam → Result (List Item) Code → Result (List Binding) Code →
    Result (List Binding) Code
bound_to p xs more = result_then xs (λ ys. result_then more (λ bs. Ok ((p.name, ys) ∷ bs)))

-- the parameters with the arguments, each converted in turn
abbrev pub bound_params : List QueryParam → List (List Item) → Result (List Binding) Code
bound_params [] args = Ok []
bound_params (p ∷ ps) [] = Ok []
bound_params (p ∷ ps) (xs ∷ args) =
    bound_to p (converted_to p.kind xs) (bound_params ps args)

-- the function of the name with so many parameters
abbrev pub is_called : QueryFunction → ExprName → ℕ → Bool
is_called f name arity = same_name f.name name && length f.params == arity

abbrev pub find_function : List QueryFunction → ExprName → ℕ → Option QueryFunction
find_function [] name arity = None
find_function (f ∷ fs) name arity =
    if is_called f name arity then Some f else find_function fs name arity

abbrev pub program_of : Run → List Binding → Calls → Program
program_of run globals calls = record {
  calls = calls;
  keys = λ name values root k. Ends [] k;
  documents = run.documents;
  globals = globals;
  namespaces = run.query.prefixes;
  element_default = run.query.element_default;
}

-- a function's body sees its parameters and the globals, and has no focus
abbrev pub body_env : List Binding → Env
body_env bound = record { locals = bound; focus = None; state = no_state }

abbrev pub body_value : Program → QueryFunction → List Binding → ℕ → Outcome (List Item)
body_value program f bound k =
    and_then (outcome program f.body (body_env bound) k)
    (λ xs j. step_outcome (converted_to f.kind xs) j)

-- with no calls left the outcome is Deep, once the arguments are converted
abbrev pub entered : Option (List Binding → ℕ → Outcome (List Item)) → List Binding → ℕ →
    Outcome (List Item)
entered None bound k = Deep
entered (Some body) bound k = body bound k

abbrev pub called_function : Option QueryFunction →
    Option (QueryFunction → List Binding → ℕ → Outcome (List Item)) → List (List Item) → ℕ →
    Outcome (List Item)
called_function None body args k = Fails (QueryStatic XPST0017)
called_function (Some f) None args k =
    and_then (step_outcome (bound_params f.params args) k) (entered None)
called_function (Some f) (Some body) args k =
    and_then (step_outcome (bound_params f.params args) k) (body f)

-- what calls do with n calls left, where these globals are evaluated
abbrev pub calls_at : Run → List Binding → ℕ → Calls
calls_at run globals zero name args k =
    called_function (find_function run.query.functions name (length args)) None args k
calls_at run globals (suc n) name args k =
    called_function (find_function run.query.functions name (length args))
    (Some (body_value (program_of run globals (calls_at run globals n)))) args k

abbrev pub program_at : Run → List Binding → ℕ → Program
program_at run globals n = program_of run globals (calls_at run globals n)

-- at the document node, with no local bindings
abbrev pub top_env : Item → Env
top_env document = record {
  locals = [];
  focus = Some (record { value = document; place = 1; size = 1 });
  state = no_state;
}

abbrev pub given_text : List Given → List ℕ → Option (List ℕ)
given_text [] local = None
given_text (g ∷ gs) local = if bytes_eq g.0 local then Some g.1 else given_text gs local

abbrev pub external_name : List Given → ExprName → Option (List ℕ)
external_name given name = if is_empty_text name.uri then given_text given name.local else None

abbrev pub external_value : Option SeqType → Option (List ℕ) → Result (List Item) Code
external_value kind None = Err (Dynamic XPDY0002)
external_value kind (Some text) = converted_to kind (Atom (atom.Untyped text) ∷ [])

-- the value of a variable: its initialiser, or what is given from outside
abbrev pub initialised : Run → Program → Item → QueryVar → Option Expr → ℕ → Outcome (List Item)
initialised run program document v None k =
    step_outcome (external_value v.kind (external_name run.given v.name)) k
initialised run program document v (Some e) k =
    and_then (outcome program e (top_env document) k) (λ xs j. step_outcome (typed v.kind xs) j)

abbrev pub variable_outcome : Run → Program → Item → QueryVar → ℕ → Outcome (List Item)
variable_outcome run program document v k = initialised run program document v v.value k

-- the variables in order, each with those before it
abbrev pub globals_from : Run → Item → ℕ → List QueryVar → List Binding → ℕ →
    Outcome (List Binding)
globals_from run document n [] globals k = Ends globals k
globals_from run document n (v ∷ vs) globals k =
    and_then (variable_outcome run (program_at run globals n) document v k) (λ xs.
    globals_from run document n vs ((v.name, xs) ∷ globals))

-- the variables, and then the body, with n calls and the next number of a tree
abbrev pub query_outcome : Run → Item → ℕ → ℕ → Outcome (List Item)
query_outcome run document n k =
    and_then (globals_from run document n run.query.variables [] k) (λ globals.
    outcome (program_at run globals n) run.query.body (top_env document))
