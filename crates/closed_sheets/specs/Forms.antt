-- Expressions of XPath 2.0, 3, whatever functions they call.
use Rattle.std.specs.Prelude.{Bool, true, false, not, ◌&&◌, is_none}
use Rattle.xt_forms.specs.Regular.{every, is_some_at_all}
use Rattle.xt_syntax.specs.declared.exprs.Expr.{Expr}
use Rattle.xt_syntax.specs.declared.exprs.Arm.{Arm}
use Rattle.xt_syntax.specs.declared.exprs.Clause.{Clause}
use Rattle.xt_syntax.specs.declared.exprs.Bind.{Bind}
use Rattle.xt_syntax.specs.declared.exprs.Flwor.{Flwor as FlworOf}
use Rattle.xt_syntax.specs.declared.exprs.Clause.TheOpen.{Int, Str, Var, Context, Root, Comma}
use Rattle.xt_syntax.specs.declared.exprs.Clause.TheOpen.{Or, And, If, Flwor, Quant, General}
use Rattle.xt_syntax.specs.declared.exprs.Clause.TheOpen.{Value, Is, Before, After, Range, Arith}
use Rattle.xt_syntax.specs.declared.exprs.Clause.TheOpen.{Minus, Plus, Union, Intersect, Except}
use Rattle.xt_syntax.specs.declared.exprs.Clause.TheOpen.{InstanceOf, Treat, Castable, Cast, Slash}
use Rattle.xt_syntax.specs.declared.exprs.Clause.TheOpen.{Step, Filter, Call, ElemC, AttrC, DocC}
use Rattle.xt_syntax.specs.declared.exprs.Clause.TheOpen.{TextC, CommentC, PiC, Direct, For, Let}
use Rattle.xt_syntax.specs.Layers.{Kinds, Steps, ExprLayer, ClauseLayer}
use Rattle.xt_syntax.specs.Layers.{expr_gives, arm_gives, clause_gives, bind_gives, flwor_gives}

abbrev pub forms : Kinds
forms = record {
  Clauses = Bool;
  Exprs = Bool;
  Names = Bool;
  Parts = Bool;
  Arms = Bool;
  Binds = Bool;
  Attrs = Bool;
  Flwors = Bool;
  Orders = Bool;
}

abbrev pub expr_form : ExprLayer forms → Bool
expr_form (Int n) = true
expr_form (Str text) = true
expr_form (Var name) = true
expr_form Context = true
expr_form Root = true
expr_form (Comma all) = every all
expr_form (Or all) = every all
expr_form (And all) = every all
expr_form (If arms other) = every arms && other
expr_form (Flwor parts) = parts
expr_form (Quant every_one binds test) = every binds && test
expr_form (General op a b) = a && b
expr_form (Value op a b) = a && b
expr_form (Is a b) = a && b
expr_form (Before a b) = a && b
expr_form (After a b) = a && b
expr_form (Range a b) = a && b
expr_form (Arith op a b) = a && b
expr_form (Minus a) = a
expr_form (Plus a) = a
expr_form (Union a b) = a && b
expr_form (Intersect a b) = a && b
expr_form (Except a b) = a && b
expr_form (InstanceOf a kind) = a
expr_form (Treat a kind) = a
expr_form (Castable a kind empty) = a
expr_form (Cast a kind empty) = a
expr_form (Slash a b) = a && b
expr_form (Step axis node_test tests) = every tests
expr_form (Filter of tests) = of && every tests
expr_form (Call name args) = every args
expr_form (ElemC name content) = false
expr_form (AttrC name content) = false
expr_form (DocC content) = false
expr_form (TextC content) = false
expr_form (CommentC content) = false
expr_form (PiC name content) = false
expr_form (Direct name attrs parts) = false

-- a `for` without a position
abbrev pub clause_form : ClauseLayer forms → Bool
clause_form (For bind place) = is_none place && bind
clause_form (Let bind) = false

-- no part of a constructor is looked at: no constructor is in XPath
abbrev pub form_steps : Steps forms
form_steps = record {
  of_expr = expr_form;
  of_clause = clause_form;
  of_name = λ n. false;
  of_part = λ p. false;
  of_arm = λ a. a.test && a.then;
  of_bind = λ b. is_none b.kind && b.source;
  of_attr = λ a. false;
  of_flwor = λ f. every f.clauses && is_none f.test && not (is_some_at_all f.orders) && f.body;
  of_order = λ o. false;
}

-- no constructor, `let`, type on a variable, position, `where` or order
abbrev pub has_xpath_forms : Expr → Bool
has_xpath_forms = expr_gives forms form_steps

abbrev pub is_xpath_arm : Arm → Bool
is_xpath_arm = arm_gives forms form_steps

abbrev pub is_xpath_clause : Clause → Bool
is_xpath_clause = clause_gives forms form_steps

abbrev pub is_xpath_bind : Bind → Bool
is_xpath_bind = bind_gives forms form_steps

abbrev pub is_xpath_flwor : FlworOf → Bool
is_xpath_flwor = flwor_gives forms form_steps
