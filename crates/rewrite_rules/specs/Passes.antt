-- A whole expression is tidied in passes. A pass goes from within: at each form, when its parts are done,
-- the first rule that stands is applied once. Passes go on while one changes something.
use Rattle.std.specs.Prelude.{ℕ, zero, suc, List, [], ◌∷◌, map, Option, Some, None}
use Rattle.xt_names.specs.declared.names.ExprName.{ExprName}
use Rattle.xt_syntax.specs.declared.exprs.Expr.{Expr}
use Rattle.xt_syntax.specs.declared.exprs.Clause.TheOpen.{Var, If}
use Rattle.xt_syntax.specs.declared.exprs.Clause.TheViews.{out-Expr, roll-Expr}
use Rattle.xt_syntax.specs.declared.queries.Query.{Query}
use Rattle.xt_syntax.specs.declared.queries.QueryFunction.{QueryFunction}
use Rattle.xt_syntax.specs.declared.queries.QueryVar.{QueryVar}
use Rattle.rewrite_rules.specs.Forms.{ExprForm}
use Rattle.rewrite_rules.specs.Choices.{choice, rule_2}
use Rattle.rewrite_rules.specs.Lists.{rule_3}
use Rattle.rewrite_rules.specs.Tests.{rule_4, rule_5}
use Rattle.rewrite_rules.specs.Loops.{rule_6}
use Rattle.rewrite_rules.specs.Logic.{rule_8}
use Rattle.rewrite_rules.specs.Lets.{rule_1, rule_7}
use Rattle.rewrite_rules.specs.Moved.{moved}

-- The last part of an `if` can become an `if` where its own parts are tidied: it joins the chain.
abbrev pub chain_of : Expr → Expr → ExprForm → Option Expr
chain_of whole other (If more last) = Some whole
chain_of whole other x = None

abbrev pub chain_form : ExprForm → Option Expr
chain_form (If arms other) = chain_of (choice arms other) other (out-Expr other)
chain_form x = None

abbrev pub chain_rule : List ExprName → Expr → Option Expr
chain_rule bound e = chain_form (out-Expr e)

abbrev pub Rule : Type 0
Rule = List ExprName → Expr → Option Expr

-- the chain first, and then the rules by their numbers
abbrev pub rules : List Rule
rules = chain_rule ∷ rule_1 ∷ rule_2 ∷ rule_3 ∷ rule_4 ∷ rule_5 ∷ rule_6 ∷ rule_7 ∷ rule_8 ∷ []

abbrev pub or_by : Option Expr → Option Expr → Option Expr
or_by (Some e) later = Some e
or_by None later = later

abbrev pub by_first : List Rule → Rule
by_first [] bound e = None
by_first (rule ∷ more) bound e = or_by (rule bound e) (by_first more bound e)

abbrev pub or_same : Expr → Option Expr → Expr
or_same e (Some r) = r
or_same e None = e

-- the expression itself, where no rule is at it
abbrev pub once : List ExprName → Expr → Expr
once bound e = or_same e (by_first rules bound e)

abbrev pub unchanged_variable : List ExprName → ExprName → Expr
unchanged_variable bound name = roll-Expr (Var name)

-- one pass over an expression, in which these names are local
abbrev pub tidied : List ExprName → Expr → Expr
tidied bound e = moved (List ExprName) (λ v names. v ∷ names) unchanged_variable once e bound

-- one pass over a query
abbrev pub tidied_value : Option Expr → Option Expr
tidied_value None = None
tidied_value (Some e) = Some (tidied [] e)

abbrev pub tidied_variable : QueryVar → QueryVar
tidied_variable v = record v { value = tidied_value v.value }

abbrev pub tidied_function : QueryFunction → QueryFunction
tidied_function f = record f { body = tidied (map (λ p. p.name) f.params) f.body }

abbrev pub tidied_query : Query → Query
tidied_query q = record q {
  variables = map tidied_variable q.variables;
  functions = map tidied_function q.functions;
  body = tidied [] q.body;
}

-- so many passes
abbrev pub passes : ℕ → Query → Query
passes zero q = q
passes (suc n) q = passes n (tidied_query q)
