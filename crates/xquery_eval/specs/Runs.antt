-- What is fixed while a query runs, as it is held.
use Rattle.std.specs.Prelude.{◌≡◌, ℕ, List, [], map, Option, Some, None, Result, Ok, Err}
use Rattle.std.specs.Borrow.{Bor}
use Rattle.std.specs.declared.vec.Vec.{Vec}
use Rattle.std.specs.declared.alloc.Global.{Global}
use Rattle.xt_names.specs.declared.codes.Code.{Code}
use Rattle.xt_atoms.specs.declared.faults.ValueFault.{ValueFault}
use Rattle.xt_atoms.specs.declared.faults.ValueFault.TheVariants.{Error, Memory}
use Rattle.xdm_items.specs.declared.items.Item.{Item}
use Rattle.xt_syntax.specs.declared.queries.Query.{Query}
use Rattle.xt_syntax.specs.declared.queries.QueryFunction.{QueryFunction}
use Rattle.xt_syntax.specs.declared.queries.QueryParam.{QueryParam}
use Rattle.expr_meaning.specs.Outcomes.Outcome.{Outcome, Ends}
use Rattle.expr_meaning.specs.Env.{Binding, Keys}
use Rattle.expr_meaning.specs.Queries.{Given, Run}
use Rattle.eval_scopes.specs.declared.faults.EvalFault.{EvalFault}
use Rattle.eval_scopes.specs.declared.scopes.Variable.{Variable}
use Rattle.eval_scopes.specs.Answers.{IsFaultOf}
use Rattle.eval_scopes.specs.Scopes.{binding_of, pushed_on}
use Rattle.xquery_eval.specs.declared.params.Param.{Param}
use Rattle.xquery_eval.specs.declared.calls.QueryRun.{QueryRun}

abbrev pub given_of : List Param → List Given
given_of params = map (λ p. (p.name, p.value)) params

-- the query with these functions
abbrev pub with_functions : Query → List QueryFunction → Query
with_functions q fs = record {
  prefixes = q.prefixes;
  element_default = q.element_default;
  variables = q.variables;
  functions = fs;
  body = q.body;
  space = q.space;
  omit = q.omit;
}

abbrev pub run_of : QueryRun → Run
run_of r = record {
  query = with_functions r.query.now r.functions.now;
  documents = r.documents.now;
  given = given_of r.given.now;
}

-- a query has no keys
abbrev pub no_keys : Keys
no_keys name values root k = Ends [] k

abbrev pub text_behind : Option (Bor (List ℕ)) → Option (List ℕ)
text_behind None = None
text_behind (Some text) = Some text.now

-- the answer stands for the bindings, the last variable being innermost
abbrev pub AnswersBound : Result (List Binding) Code → Result (Vec Variable Global) ValueFault →
    Type 0
AnswersBound o (Ok vs) = o ≡ Ok (pushed_on [] vs.items)
AnswersBound o (Err (Error code)) = o ≡ Err code
AnswersBound o (Err (Memory e)) = Unit {0}

-- the answer is the parameter with its converted argument
abbrev pub AnswersParam : QueryParam → Result (List Item) Code → Result Variable ValueFault →
    Type 0
AnswersParam p o (Ok v) = (xs : List Item) × (o ≡ Ok xs) × (binding_of v ≡ (p.name, xs))
AnswersParam p o (Err (Error code)) = o ≡ Err code
AnswersParam p o (Err (Memory e)) = Unit {0}

-- the answer stands for the outcome, whatever number the next tree would have
abbrev pub IsResult : Result (List Item) EvalFault → Outcome (List Item) → Type 0
IsResult (Ok xs) o = (k : ℕ) × (o ≡ Ends xs k)
IsResult (Err fault) o = IsFaultOf fault o
