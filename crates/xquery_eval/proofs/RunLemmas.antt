-- A whole run.
use Rattle.std.proofs.Common.{◌≡◌, ℕ, List, [], ap, sym, ◌∙◌, subst}
use Rattle.std.specs.Prelude.{Result, Ok, Err}
use Rattle.xdm_items.specs.declared.items.Item.{Item}
use Rattle.doc_set.specs.Sets.{DocumentSet}
use Rattle.xt_syntax.specs.declared.queries.Query.{Query}
use Rattle.xt_syntax.specs.declared.queries.QueryFunction.{QueryFunction}
use Rattle.expr_meaning.specs.Outcomes.Outcome.{Outcome, Ends, and_then}
use Rattle.expr_meaning.specs.Env.{Binding}
use Rattle.expr_meaning.specs.Meaning.{outcome}
use Rattle.expr_meaning.specs.Queries.{Run, globals_from, program_at, query_outcome, top_env}
use Rattle.eval_scopes.specs.declared.faults.EvalFault.{EvalFault}
use Rattle.eval_scopes.specs.Answers.{Answers, IsFaultOf}
use Rattle.eval_steps.proofs.Follow.{fault_first}
use Rattle.xquery_eval.specs.declared.params.Param.{Param}
use Rattle.xquery_eval.specs.Runs.{IsResult, given_of, with_functions}

-- the table has the query's own functions
pub run_is : (q : Query) (set : DocumentSet) (fs : List QueryFunction) (gs ps : List Param) →
    fs ≡ q.functions → gs ≡ ps →
    ◌≡◌ {A = Run} (record { query = with_functions q fs; documents = set; given = given_of gs })
    (record { query = q; documents = set; given = given_of ps })
run_is q set fs gs ps f p =
    let functions : ◌≡◌ {A = Run}
    (record { query = with_functions q fs; documents = set; given = given_of gs })
    (record { query = q; documents = set; given = given_of gs }) =
    λ i. record { query = with_functions q (f i); documents = set; given = given_of gs } in
    let given : ◌≡◌ {A = Run} (record { query = q; documents = set; given = given_of gs })
    (record { query = q; documents = set; given = given_of ps }) =
    λ i. record { query = q; documents = set; given = given_of (p i) } in
    functions ∙ given

result_of : (r : Result (List Item) EvalFault) (k : ℕ) (o : Outcome (List Item)) →
    Answers r k o → IsResult r o
result_of (Ok xs) k o h = (k, h)
result_of (Err fault) k o h = h

-- the same run at the same document, with the same first number of a tree
pub same_query : (r : Result (List Item) EvalFault) (a b : Run) (x y : Item) (n j k : ℕ) →
    a ≡ b → x ≡ y → j ≡ k → IsResult r (query_outcome a x n j) →
    IsResult r (query_outcome b y n k)
same_query r a b x y n j k run document first h =
    subst (IsResult r)
    (ap (λ z. query_outcome z x n j) run
    ∙ ap (λ z. query_outcome b z n j) document
    ∙ ap (λ z. query_outcome b y n z) first) h

module _ (run : Run) (document : Item) (n k : ℕ) where
  abbrev body_at : List Binding → ℕ → Outcome (List Item)
  body_at globals j =
      outcome (program_at run globals n) run.query.body (top_env document) j

  pub variables_fault : (f : EvalFault) →
      IsFaultOf f (globals_from run document n run.query.variables [] k) →
      IsFaultOf f (query_outcome run document n k)
  variables_fault f h =
      fault_first f (globals_from run document n run.query.variables [] k) body_at h

  pub body_answers : (r : Result (List Item) EvalFault) (globals : List Binding) (i j : ℕ) →
      globals_from run document n run.query.variables [] k ≡ Ends globals j →
      Answers r i (body_at globals j) → IsResult r (query_outcome run document n k)
  body_answers r globals i j h a =
      subst (IsResult r) (sym (ap (λ o. and_then o body_at) h))
      (result_of r i (body_at globals j) a)
