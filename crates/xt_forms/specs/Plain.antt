-- Expressions of XPath 2.0, 3, whose functions are those of the table.
use Rattle.std.specs.Prelude.{length, Bool, true, false, not, ◌&&◌, is_none}
use Rattle.function_table.specs.Find.{is_known}
use Rattle.xt_forms.specs.Regular.{is_regular_expr, every, is_some_at_all}
use Rattle.xt_syntax.specs.declared.exprs.Expr.{Expr}
use Rattle.xt_syntax.specs.declared.exprs.Arm.{Arm}
use Rattle.xt_syntax.specs.declared.exprs.Clause.{Clause}
use Rattle.xt_syntax.specs.declared.exprs.Bind.{Bind}
use Rattle.xt_syntax.specs.declared.exprs.Flwor.{Flwor as FlworOf}
use Rattle.xt_syntax.specs.declared.exprs.Clause.TheOpen.{Int, Str, Var, Context, Root, Comma, Or, And, If, Flwor, Quant, General, Value, Is, Before, After, Range, Arith, Minus, Plus, Union, Intersect, Except, InstanceOf, Treat, Castable, Cast, Slash, Step, Filter, Call, ElemC, AttrC, DocC, TextC, CommentC, PiC, Direct, For, Let}
use Rattle.xt_syntax.specs.Layers.{Kinds, Steps, ExprLayer, ClauseLayer, expr_gives, arm_gives, clause_gives, bind_gives, flwor_gives}

abbrev pub plains : Kinds
plains = record { Clauses = Bool; Exprs = Bool; Names = Bool; Parts = Bool; Arms = Bool; Binds = Bool; Attrs = Bool; Flwors = Bool; Orders = Bool }

abbrev pub expr_plain : ExprLayer plains → Bool
expr_plain (Int n) = true
expr_plain (Str text) = true
expr_plain (Var name) = true
expr_plain Context = true
expr_plain Root = true
expr_plain (Comma all) = every all
expr_plain (Or all) = every all
expr_plain (And all) = every all
expr_plain (If arms other) = every arms && other
expr_plain (Flwor parts) = parts
expr_plain (Quant every_one binds test) = every binds && test
expr_plain (General op a b) = a && b
expr_plain (Value op a b) = a && b
expr_plain (Is a b) = a && b
expr_plain (Before a b) = a && b
expr_plain (After a b) = a && b
expr_plain (Range a b) = a && b
expr_plain (Arith op a b) = a && b
expr_plain (Minus a) = a
expr_plain (Plus a) = a
expr_plain (Union a b) = a && b
expr_plain (Intersect a b) = a && b
expr_plain (Except a b) = a && b
expr_plain (InstanceOf a kind) = a
expr_plain (Treat a kind) = a
expr_plain (Castable a kind empty) = a
expr_plain (Cast a kind empty) = a
expr_plain (Slash a b) = a && b
expr_plain (Step axis node_test tests) = every tests
expr_plain (Filter of tests) = of && every tests
expr_plain (Call name args) = is_known name (length args) && every args
expr_plain (ElemC name content) = false
expr_plain (AttrC name content) = false
expr_plain (DocC content) = false
expr_plain (TextC content) = false
expr_plain (CommentC content) = false
expr_plain (PiC name content) = false
expr_plain (Direct name attrs parts) = false

-- a `for` without a position
abbrev pub clause_plain : ClauseLayer plains → Bool
clause_plain (For bind place) = is_none place && bind
clause_plain (Let bind) = false

-- no part of a constructor is looked at: the constructor is not plain
abbrev pub plain_steps : Steps plains
plain_steps = record {
  of_expr = expr_plain;
  of_clause = clause_plain;
  of_name = λ n. false;
  of_part = λ p. false;
  of_arm = λ a. a.test && a.then;
  of_bind = λ b. is_none b.kind && b.source;
  of_attr = λ a. false;
  of_flwor = λ f. every f.clauses && is_none f.test && not (is_some_at_all f.orders) && f.body;
  of_order = λ o. false;
}

-- no constructor, `let`, type on a variable, position, `where` or order, and no call of another function
abbrev pub has_plain_forms : Expr → Bool
has_plain_forms = expr_gives plains plain_steps

abbrev pub is_plain_arm : Arm → Bool
is_plain_arm = arm_gives plains plain_steps

abbrev pub is_plain_clause : Clause → Bool
is_plain_clause = clause_gives plains plain_steps

abbrev pub is_plain_bind : Bind → Bool
is_plain_bind = bind_gives plains plain_steps

abbrev pub is_plain_flwor : FlworOf → Bool
is_plain_flwor = flwor_gives plains plain_steps

-- what a text of XPath spells
abbrev pub is_plain_expr : Expr → Bool
is_plain_expr e = is_regular_expr e && has_plain_forms e
