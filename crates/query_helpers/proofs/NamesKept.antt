-- The helper functions name only what is in scope: their parameters, what they bind, and functions of
-- the library.
use Rattle.std.proofs.Common.{◌≡◌, List, [], ap}
use Rattle.xt_names.specs.declared.names.ExprName.{ExprName}
use Rattle.xt_syntax.specs.declared.queries.QueryFunction.{QueryFunction}
use Rattle.xt_syntax.specs.declared.exprs.Clause.TheViews.{roll-Expr, roll-Arm, roll-Clause}
use Rattle.xt_syntax.specs.declared.exprs.Clause.TheViews.{roll-Flwor, roll-Bind, roll-NameSource}
use Rattle.function_table.specs.Find.{found, found_in, is_doc, is_in_fn, is_known}
use Rattle.function_table.specs.Table.{joined}
use Rattle.name_rules.specs.declared.functions.Signature.{Signature}
use Rattle.name_rules.specs.Broken.{arm_broken, bind_binder, clause_binder, flwor_broken}
use Rattle.name_rules.specs.Broken.{function_in, name_broken, names_broken_of, rules, rule_steps}
use Rattle.name_rules.specs.Broken.{variable_in}
use Rattle.name_rules.specs.Scopes.{may_be_called, param_names}
use Rattle.query_helpers.specs.CopyBody.{copy_function}
use Rattle.query_helpers.specs.LastBody.{last_function}
use Rattle.query_helpers.specs.NodesBody.{nodes_function}
use Rattle.query_helpers.specs.SimpleBody.{simple_function}
use Rattle.query_helpers.proofs.Rolled.{arm_mapped, bind_mapped, clause_mapped, expr_mapped}
use Rattle.query_helpers.proofs.Rolled.{flwor_mapped, name_mapped, arm_rolled, bind_rolled}
use Rattle.query_helpers.proofs.Rolled.{clause_rolled, expr_rolled, flwor_rolled, name_rolled}
use Rattle.expr_laws.proofs.Texts.{ArmForm, BindForm, ClauseForm, ExprForm, FlworForm, NameForm}

module _ (functions : List Signature) where
  pub expr_names : (x : ExprForm) (scope : List ExprName) →
      names_broken_of functions (roll-Expr x) scope
      ≡ (rule_steps functions).of_expr (expr_mapped rules (rule_steps functions) x) scope
  expr_names x scope = ap (λ r. r scope) (expr_rolled rules (rule_steps functions) x)

  pub name_names : (x : NameForm) (scope : List ExprName) →
      name_broken functions (roll-NameSource x) scope
      ≡ (rule_steps functions).of_name (name_mapped rules (rule_steps functions) x) scope
  name_names x scope = ap (λ r. r scope) (name_rolled rules (rule_steps functions) x)

  pub arm_names : (x : ArmForm) (scope : List ExprName) → arm_broken functions (roll-Arm x) scope
      ≡ (rule_steps functions).of_arm (arm_mapped rules (rule_steps functions) x) scope
  arm_names x scope = ap (λ r. r scope) (arm_rolled rules (rule_steps functions) x)

  pub flwor_names : (x : FlworForm) (scope : List ExprName) →
      flwor_broken functions (roll-Flwor x) scope
      ≡ (rule_steps functions).of_flwor (flwor_mapped rules (rule_steps functions) x) scope
  flwor_names x scope = ap (λ r. r scope) (flwor_rolled rules (rule_steps functions) x)

  -- what clauses and bindings bind, and what their sources name
  pub clause_binds : (x : ClauseForm) → (clause_binder functions (roll-Clause x)).names
      ≡ ((rule_steps functions).of_clause (clause_mapped rules (rule_steps functions) x)).names
  clause_binds x = ap (λ b. b.names) (clause_rolled rules (rule_steps functions) x)

  pub clause_names : (x : ClauseForm) (scope : List ExprName) →
      (clause_binder functions (roll-Clause x)).source scope
      ≡ ((rule_steps functions).of_clause (clause_mapped rules (rule_steps functions) x)).source scope
  clause_names x scope = ap (λ b. b.source scope) (clause_rolled rules (rule_steps functions) x)

  pub bind_binds : (x : BindForm) → (bind_binder functions (roll-Bind x)).names
      ≡ ((rule_steps functions).of_bind (bind_mapped rules (rule_steps functions) x)).names
  bind_binds x = ap (λ b. b.names) (bind_rolled rules (rule_steps functions) x)

  pub bind_names : (x : BindForm) (scope : List ExprName) →
      (bind_binder functions (roll-Bind x)).source scope
      ≡ ((rule_steps functions).of_bind (bind_mapped rules (rule_steps functions) x)).source scope
  bind_names x scope = ap (λ b. b.source scope) (bind_rolled rules (rule_steps functions) x)

  ruleset rolled = (
    expr_names,
    name_names,
    arm_names,
    flwor_names,
    clause_binds,
    clause_names,
    bind_binds,
    bind_names,
  )

  abbrev KeepsNames : QueryFunction → Type 0
  KeepsNames f = names_broken_of functions f.body (param_names f.params) ≡ []

  pub nodes_names : KeepsNames nodes_function
  unfolding variable_in
  nodes_names = simp rolled

  pub copy_names : KeepsNames copy_function
  unfolding variable_in function_in may_be_called is_known found found_in joined is_doc is_in_fn
  copy_names = simp rolled

  pub last_names : KeepsNames last_function
  unfolding variable_in function_in may_be_called is_known found found_in joined is_doc is_in_fn
  last_names = simp rolled

  pub simple_names : KeepsNames simple_function
  unfolding variable_in function_in may_be_called is_known found found_in joined is_doc is_in_fn
  simple_names = simp rolled
