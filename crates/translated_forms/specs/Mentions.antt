-- Whether an expression mentions a variable: reads it or binds it.
use Rattle.std.specs.Prelude.{List, Bool, false, ◌||◌, Option, Some, None}
use Rattle.std.specs.List.{list_any}
use Rattle.xt_names.specs.declared.names.ExprName.{ExprName}
use Rattle.xt_syntax.specs.declared.exprs.Expr.{Expr}
use Rattle.xt_syntax.specs.declared.exprs.Clause.{Clause}
use Rattle.xt_syntax.specs.declared.exprs.Order.{Order}
use Rattle.xt_syntax.specs.declared.exprs.Clause.TheOpen.{Int, Str, Var, Context, Root, Comma, Or}
use Rattle.xt_syntax.specs.declared.exprs.Clause.TheOpen.{And, If, Flwor, Quant, General, Value, Is}
use Rattle.xt_syntax.specs.declared.exprs.Clause.TheOpen.{Before, After, Range, Arith, Minus, Plus}
use Rattle.xt_syntax.specs.declared.exprs.Clause.TheOpen.{Union, Intersect, Except, InstanceOf}
use Rattle.xt_syntax.specs.declared.exprs.Clause.TheOpen.{Treat, Castable, Cast, Slash, Step}
use Rattle.xt_syntax.specs.declared.exprs.Clause.TheOpen.{Filter, Call, ElemC, AttrC, DocC, TextC}
use Rattle.xt_syntax.specs.declared.exprs.Clause.TheOpen.{CommentC, PiC, Direct, For, Let, Fixed}
use Rattle.xt_syntax.specs.declared.exprs.Clause.TheOpen.{Computed, Chars, Enclosed, Child}
use Rattle.xt_syntax.specs.Layers.{Kinds, Steps, ExprLayer, ClauseLayer, NameLayer, PartLayer}
use Rattle.xt_syntax.specs.Layers.{FlworLayer, expr_gives, clause_gives, order_gives}
use Rattle.xt_names.specs.ExprNames.{same_name}

abbrev pub truths : Kinds
truths = record {
  Clauses = Bool;
  Exprs = Bool;
  Names = Bool;
  Parts = Bool;
  Arms = Bool;
  Binds = Bool;
  Attrs = Bool;
  Flwors = Bool;
  Orders = Bool;
}

abbrev pub some : List Bool → Bool
some all = list_any (λ b. b) all

abbrev pub if_some : Option Bool → Bool
if_some None = false
if_some (Some b) = b

abbrev pub place_is : ExprName → Option ExprName → Bool
place_is v None = false
place_is v (Some p) = same_name v p

abbrev pub expr_mentions : ExprName → ExprLayer truths → Bool
expr_mentions v (Int n) = false
expr_mentions v (Str text) = false
expr_mentions v (Var name) = same_name v name
expr_mentions v Context = false
expr_mentions v Root = false
expr_mentions v (Comma all) = some all
expr_mentions v (Or all) = some all
expr_mentions v (And all) = some all
expr_mentions v (If arms other) = some arms || other
expr_mentions v (Flwor parts) = parts
expr_mentions v (Quant every binds test) = some binds || test
expr_mentions v (General op a b) = a || b
expr_mentions v (Value op a b) = a || b
expr_mentions v (Is a b) = a || b
expr_mentions v (Before a b) = a || b
expr_mentions v (After a b) = a || b
expr_mentions v (Range a b) = a || b
expr_mentions v (Arith op a b) = a || b
expr_mentions v (Minus a) = a
expr_mentions v (Plus a) = a
expr_mentions v (Union a b) = a || b
expr_mentions v (Intersect a b) = a || b
expr_mentions v (Except a b) = a || b
expr_mentions v (InstanceOf a kind) = a
expr_mentions v (Treat a kind) = a
expr_mentions v (Castable a kind empty) = a
expr_mentions v (Cast a kind empty) = a
expr_mentions v (Slash a b) = a || b
expr_mentions v (Step axis wanted tests) = some tests
expr_mentions v (Filter of tests) = of || some tests
expr_mentions v (Call name args) = some args
expr_mentions v (ElemC name content) = name || content
expr_mentions v (AttrC name content) = name || content
expr_mentions v (DocC content) = content
expr_mentions v (TextC content) = content
expr_mentions v (CommentC content) = content
expr_mentions v (PiC name content) = name || content
expr_mentions v (Direct name attrs parts) = some attrs || some parts

abbrev pub clause_mentions : ExprName → ClauseLayer truths → Bool
clause_mentions v (For bind place) = bind || place_is v place
clause_mentions v (Let bind) = bind

abbrev pub source_mentions : NameLayer truths → Bool
source_mentions (Fixed name) = false
source_mentions (Computed e) = e

abbrev pub part_mentions : PartLayer truths → Bool
part_mentions (Chars text) = false
part_mentions (Enclosed e) = e
part_mentions (Child e) = e

abbrev pub flwor_mentions : FlworLayer truths → Bool
flwor_mentions f = some f.clauses || (if_some f.test || (some f.orders || f.body))

abbrev pub mention_steps : ExprName → Steps truths
mention_steps v = record {
  of_expr = expr_mentions v;
  of_clause = clause_mentions v;
  of_name = source_mentions;
  of_part = part_mentions;
  of_arm = λ a. a.test || a.then;
  of_bind = λ b. same_name v b.var || b.source;
  of_attr = λ a. some a.parts;
  of_flwor = flwor_mentions;
  of_order = λ o. o.key;
}

abbrev pub mentions : ExprName → Expr → Bool
mentions v = expr_gives truths (mention_steps v)

abbrev pub in_clause : ExprName → Clause → Bool
in_clause v = clause_gives truths (mention_steps v)

abbrev pub in_order : ExprName → Order → Bool
in_order v = order_gives truths (mention_steps v)

abbrev pub in_clauses : ExprName → List Clause → Bool
in_clauses v cs = list_any (in_clause v) cs

abbrev pub in_orders : ExprName → List Order → Bool
in_orders v orders = list_any (in_order v) orders
