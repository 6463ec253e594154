-- How many expressions and parts an expression has, for recursions over it.
use Rattle.std.specs.Prelude.{ℕ, ◌+◌, [], map, option_map, Option, Some, None}
use Rattle.xt_syntax.specs.declared.exprs.Expr.{Expr}
use Rattle.xt_syntax.specs.declared.exprs.Arm.{Arm}
use Rattle.xt_syntax.specs.declared.exprs.Bind.{Bind}
use Rattle.xt_syntax.specs.declared.exprs.Clause.{Clause}
use Rattle.xt_syntax.specs.declared.exprs.Order.{Order}
use Rattle.xt_syntax.specs.declared.exprs.NameSource.{NameSource}
use Rattle.xt_syntax.specs.declared.exprs.DirectAttr.{DirectAttr}
use Rattle.xt_syntax.specs.declared.exprs.Part.{Part}
use Rattle.xt_syntax.specs.declared.exprs.Flwor.{Flwor as FlworOf}
use Rattle.xt_syntax.specs.declared.exprs.Clause.TheViews.{out-Flwor}
use Rattle.xt_syntax.specs.declared.exprs.Clause.TheOpen.{Int, Str, Var, Context, Root, Comma, Or}
use Rattle.xt_syntax.specs.declared.exprs.Clause.TheOpen.{And, If, Flwor, Quant, General, Value, Is}
use Rattle.xt_syntax.specs.declared.exprs.Clause.TheOpen.{Before, After, Range, Arith, Minus, Plus}
use Rattle.xt_syntax.specs.declared.exprs.Clause.TheOpen.{Union, Intersect, Except, InstanceOf}
use Rattle.xt_syntax.specs.declared.exprs.Clause.TheOpen.{Treat, Castable, Cast, Slash, Step}
use Rattle.xt_syntax.specs.declared.exprs.Clause.TheOpen.{Filter, Call, ElemC, AttrC, DocC, TextC}
use Rattle.xt_syntax.specs.declared.exprs.Clause.TheOpen.{CommentC, PiC, Direct, For, Let, Fixed}
use Rattle.xt_syntax.specs.declared.exprs.Clause.TheOpen.{Computed, Chars, Enclosed, Child}
use Rattle.xt_syntax.specs.Layers.{Kinds, Steps, ExprLayer, ClauseLayer, NameLayer, PartLayer}
use Rattle.xt_syntax.specs.Layers.{expr_gives, arm_gives, bind_gives, clause_gives, order_gives}
use Rattle.xt_syntax.specs.Layers.{name_gives, attr_gives, part_gives, flwor_gives}
use Rattle.xt_names.specs.Lists.{total}

abbrev pub counts : Kinds
counts = record {
  Clauses = ℕ;
  Exprs = ℕ;
  Names = ℕ;
  Parts = ℕ;
  Arms = ℕ;
  Binds = ℕ;
  Attrs = ℕ;
  Flwors = ℕ;
  Orders = ℕ;
}

abbrev pub or_0 : Option ℕ → ℕ
or_0 None = 0
or_0 (Some n) = n

abbrev pub expr_count : ExprLayer counts → ℕ
expr_count (Int n) = 1
expr_count (Str text) = 1
expr_count (Var name) = 1
expr_count Context = 1
expr_count Root = 1
expr_count (Comma all) = 1 + total all
expr_count (Or all) = 1 + total all
expr_count (And all) = 1 + total all
expr_count (If arms other) = 1 + (total arms + other)
expr_count (Flwor parts) = 1 + parts
expr_count (Quant every binds test) = 1 + (total binds + test)
expr_count (General op a b) = 1 + (a + b)
expr_count (Value op a b) = 1 + (a + b)
expr_count (Is a b) = 1 + (a + b)
expr_count (Before a b) = 1 + (a + b)
expr_count (After a b) = 1 + (a + b)
expr_count (Range a b) = 1 + (a + b)
expr_count (Arith op a b) = 1 + (a + b)
expr_count (Minus a) = 1 + a
expr_count (Plus a) = 1 + a
expr_count (Union a b) = 1 + (a + b)
expr_count (Intersect a b) = 1 + (a + b)
expr_count (Except a b) = 1 + (a + b)
expr_count (InstanceOf a kind) = 1 + a
expr_count (Treat a kind) = 1 + a
expr_count (Castable a kind empty) = 1 + a
expr_count (Cast a kind empty) = 1 + a
expr_count (Slash a b) = 1 + (a + b)
expr_count (Step axis node_test tests) = 1 + total tests
expr_count (Filter of tests) = 1 + (of + total tests)
expr_count (Call name args) = 1 + total args
expr_count (ElemC name content) = 1 + (name + content)
expr_count (AttrC name content) = 1 + (name + content)
expr_count (DocC content) = 1 + content
expr_count (TextC content) = 1 + content
expr_count (CommentC content) = 1 + content
expr_count (PiC name content) = 1 + (name + content)
expr_count (Direct name attrs parts) = 1 + (total attrs + total parts)

abbrev pub clause_count : ClauseLayer counts → ℕ
clause_count (For bind place) = 1 + bind
clause_count (Let bind) = 1 + bind

abbrev pub name_count : NameLayer counts → ℕ
name_count (Fixed name) = 1
name_count (Computed e) = 1 + e

abbrev pub part_count : PartLayer counts → ℕ
part_count (Chars text) = 1
part_count (Enclosed e) = 1 + e
part_count (Child e) = 1 + e

abbrev pub count_steps : Steps counts
count_steps = record {
  of_expr = expr_count;
  of_clause = clause_count;
  of_name = name_count;
  of_part = part_count;
  of_arm = λ a. 1 + (a.test + a.then);
  of_bind = λ b. 1 + b.source;
  of_attr = λ a. 1 + total a.parts;
  of_flwor = λ f. 1 + (total f.clauses + (or_0 f.test + (total f.orders + f.body)));
  of_order = λ o. 1 + o.key;
}

abbrev pub nodes : Expr → ℕ
nodes = expr_gives counts count_steps

abbrev pub arm_nodes : Arm → ℕ
arm_nodes = arm_gives counts count_steps

abbrev pub bind_nodes : Bind → ℕ
bind_nodes = bind_gives counts count_steps

abbrev pub clause_nodes : Clause → ℕ
clause_nodes = clause_gives counts count_steps

abbrev pub order_nodes : Order → ℕ
order_nodes = order_gives counts count_steps

abbrev pub name_nodes : NameSource → ℕ
name_nodes = name_gives counts count_steps

abbrev pub attr_nodes : DirectAttr → ℕ
attr_nodes = attr_gives counts count_steps

abbrev pub part_nodes : Part → ℕ
part_nodes = part_gives counts count_steps

abbrev pub flwor_nodes : FlworOf → ℕ
flwor_nodes = flwor_gives counts count_steps

-- those of what comes after the clauses for each tuple
abbrev pub row_nodes : FlworOf → ℕ
row_nodes f = or_0 (option_map nodes (out-Flwor f).test) + total
    (map order_nodes (out-Flwor f).orders)
