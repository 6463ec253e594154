-- Variables and functions that are not in scope where they are named (XPath 2.0, 2.1.1 and 3.1; XQuery 1.0, 3.8.1).
use Rattle.std.specs.Prelude.{ℕ, List, [], ◌∷◌, ◌++◌, length, Option, Some, None, if◌then◌else◌}
use Rattle.xt_names.specs.declared.names.ExprName.{ExprName}
use Rattle.xt_names.specs.declared.codes.Code.{Code}
use Rattle.xt_names.specs.declared.codes.Code.TheVariants.{QueryStatic}
use Rattle.xt_names.specs.declared.codes.QueryStaticCode.TheVariants.{XPST0008, XPST0017}
use Rattle.xt_syntax.specs.declared.exprs.Expr.{Expr}
use Rattle.xt_syntax.specs.declared.exprs.Arm.{Arm}
use Rattle.xt_syntax.specs.declared.exprs.Clause.{Clause}
use Rattle.xt_syntax.specs.declared.exprs.Order.{Order}
use Rattle.xt_syntax.specs.declared.exprs.Flwor.{Flwor as FlworOf}
use Rattle.xt_syntax.specs.declared.exprs.Bind.{Bind}
use Rattle.xt_syntax.specs.declared.exprs.NameSource.{NameSource}
use Rattle.xt_syntax.specs.declared.exprs.DirectAttr.{DirectAttr}
use Rattle.xt_syntax.specs.declared.exprs.Part.{Part}
use Rattle.xt_syntax.specs.declared.exprs.Clause.TheOpen.{Int, Str, Var, Context, Root, Comma, Or, And, If, Flwor, Quant, General, Value, Is, Before, After, Range, Arith, Minus, Plus, Union, Intersect, Except, InstanceOf, Treat, Castable, Cast, Slash, Step, Filter, Call, ElemC, AttrC, DocC, TextC, CommentC, PiC, Direct, For, Let, Fixed, Computed, Chars, Enclosed, Child}
use Rattle.xt_syntax.specs.Layers.{Kinds, Steps, ExprLayer, ClauseLayer, NameLayer, PartLayer, FlworLayer, expr_gives, arm_gives, clause_gives, bind_gives, order_gives, name_gives, attr_gives, part_gives, flwor_gives}
use Rattle.name_rules.specs.declared.functions.Signature.{Signature}
use Rattle.name_rules.specs.Scopes.{has_name, with_names, may_be_called}

-- the codes of the broken rules in reading order, given the variables in scope where the part stands
abbrev pub Rule : Type 0
Rule = List ExprName → List Code

-- what binds variables: their names, and what its source breaks
pub record Binder : Type 0 where
  pub names : List ExprName
  pub source : Rule

abbrev pub rules : Kinds
rules = record { Clauses = Binder; Exprs = Rule; Names = Rule; Parts = Rule; Arms = Rule; Binds = Binder; Attrs = Rule; Flwors = Rule; Orders = Rule }

abbrev pub nothing : Rule
nothing scope = []

abbrev pub two : Rule → Rule → Rule
two a b scope = a scope ++ b scope

abbrev pub all_in : List Rule → Rule
all_in [] scope = []
all_in (r ∷ rs) scope = r scope ++ all_in rs scope

abbrev pub if_any : Option Rule → Rule
if_any None scope = []
if_any (Some r) scope = r scope

-- each source sees the variables before it
abbrev pub binders_in : List Binder → Rule
binders_in [] scope = []
binders_in (b ∷ bs) scope = b.source scope ++ binders_in bs (with_names scope b.names)

-- the variables in scope after what binds
abbrev pub behind : List Binder → List ExprName → List ExprName
behind [] scope = scope
behind (b ∷ bs) scope = behind bs (with_names scope b.names)

abbrev pub place_names : Option ExprName → List ExprName
place_names None = []
place_names (Some name) = name ∷ []

unfoldable pub variable_in : ExprName → Rule
variable_in name scope = if has_name scope name then [] else QueryStatic XPST0008 ∷ []

unfoldable pub function_in : List Signature → ExprName → ℕ → List Code
function_in functions name arity = if may_be_called functions name arity then [] else QueryStatic XPST0017 ∷ []

abbrev pub clause_rule : ClauseLayer rules → Binder
clause_rule (For bind place) = record { names = bind.names ++ place_names place; source = bind.source }
clause_rule (Let bind) = bind

abbrev pub name_rule : NameLayer rules → Rule
name_rule (Fixed name) = nothing
name_rule (Computed e) = e

abbrev pub part_rule : PartLayer rules → Rule
part_rule (Chars text) = nothing
part_rule (Enclosed e) = e
part_rule (Child e) = e

-- what comes after the clauses sees the variables of all
abbrev pub behind_clauses : FlworLayer rules → Rule
behind_clauses f scope = if_any f.test scope ++ (all_in f.orders scope ++ f.body scope)

abbrev pub flwor_rule : FlworLayer rules → Rule
flwor_rule f scope = binders_in f.clauses scope ++ behind_clauses f (behind f.clauses scope)

module _ (functions : List Signature) where
  abbrev pub expr_rule : ExprLayer rules → Rule
  expr_rule (Int n) = nothing
  expr_rule (Str text) = nothing
  expr_rule (Var name) = variable_in name
  expr_rule Context = nothing
  expr_rule Root = nothing
  expr_rule (Comma all) = all_in all
  expr_rule (Or all) = all_in all
  expr_rule (And all) = all_in all
  expr_rule (If arms other) = two (all_in arms) other
  expr_rule (Flwor parts) = parts
  expr_rule (Quant every binds test) = λ scope. binders_in binds scope ++ test (behind binds scope)
  expr_rule (General op a b) = two a b
  expr_rule (Value op a b) = two a b
  expr_rule (Is a b) = two a b
  expr_rule (Before a b) = two a b
  expr_rule (After a b) = two a b
  expr_rule (Range a b) = two a b
  expr_rule (Arith op a b) = two a b
  expr_rule (Minus a) = a
  expr_rule (Plus a) = a
  expr_rule (Union a b) = two a b
  expr_rule (Intersect a b) = two a b
  expr_rule (Except a b) = two a b
  expr_rule (InstanceOf a kind) = a
  expr_rule (Treat a kind) = a
  expr_rule (Castable a kind empty) = a
  expr_rule (Cast a kind empty) = a
  expr_rule (Slash a b) = two a b
  expr_rule (Step axis node_test tests) = all_in tests
  expr_rule (Filter of tests) = two of (all_in tests)
  expr_rule (Call name args) = λ scope. function_in functions name (length args) ++ all_in args scope
  expr_rule (ElemC name content) = two name content
  expr_rule (AttrC name content) = two name content
  expr_rule (DocC content) = content
  expr_rule (TextC content) = content
  expr_rule (CommentC content) = content
  expr_rule (PiC name content) = two name content
  expr_rule (Direct name attrs parts) = two (all_in attrs) (all_in parts)

  abbrev pub rule_steps : Steps rules
  rule_steps = record {
    of_expr = expr_rule;
    of_clause = clause_rule;
    of_name = name_rule;
    of_part = part_rule;
    of_arm = λ a. two a.test a.then;
    of_bind = λ b. record { names = b.var ∷ []; source = b.source };
    of_attr = λ a. all_in a.parts;
    of_flwor = flwor_rule;
    of_order = λ o. o.key;
  }

  -- the rules on names that the expression breaks, in reading order
  abbrev pub names_broken_of : Expr → Rule
  names_broken_of = expr_gives rules rule_steps

  abbrev pub arm_broken : Arm → Rule
  arm_broken = arm_gives rules rule_steps

  abbrev pub clause_binder : Clause → Binder
  clause_binder = clause_gives rules rule_steps

  abbrev pub bind_binder : Bind → Binder
  bind_binder = bind_gives rules rule_steps

  abbrev pub order_broken : Order → Rule
  order_broken = order_gives rules rule_steps

  abbrev pub name_broken : NameSource → Rule
  name_broken = name_gives rules rule_steps

  abbrev pub attr_broken : DirectAttr → Rule
  attr_broken = attr_gives rules rule_steps

  abbrev pub part_broken : Part → Rule
  part_broken = part_gives rules rule_steps

  abbrev pub flwor_broken : FlworOf → Rule
  flwor_broken = flwor_gives rules rule_steps
