-- How many expressions an expression has, with itself, and how many `for` clauses, together.
use Rattle.std.specs.Prelude.{ℕ, ◌+◌, [], Option, Some, None}
use Rattle.xt_syntax.specs.declared.exprs.Expr.{Expr}
use Rattle.xt_syntax.specs.declared.exprs.Clause.TheOpen.{Int, Str, Var, Context, Root, Comma, Or}
use Rattle.xt_syntax.specs.declared.exprs.Clause.TheOpen.{And, If, Flwor, Quant, General, Value, Is}
use Rattle.xt_syntax.specs.declared.exprs.Clause.TheOpen.{Before, After, Range, Arith, Minus, Plus}
use Rattle.xt_syntax.specs.declared.exprs.Clause.TheOpen.{Union, Intersect, Except, InstanceOf}
use Rattle.xt_syntax.specs.declared.exprs.Clause.TheOpen.{Treat, Castable, Cast, Slash, Step}
use Rattle.xt_syntax.specs.declared.exprs.Clause.TheOpen.{Filter, Call, ElemC, AttrC, DocC, TextC}
use Rattle.xt_syntax.specs.declared.exprs.Clause.TheOpen.{CommentC, PiC, Direct, For, Let, Fixed}
use Rattle.xt_syntax.specs.declared.exprs.Clause.TheOpen.{Computed, Chars, Enclosed, Child}
use Rattle.xt_syntax.specs.Layers.{Steps, ExprLayer, ClauseLayer, NameLayer, PartLayer}
use Rattle.xt_syntax.specs.Layers.{FlworLayer, expr_gives}
use Rattle.xt_forms.specs.Nest.{nests}
use Rattle.xt_names.specs.Lists.{total}

abbrev pub of_one : Option ℕ → ℕ
of_one None = 0
of_one (Some n) = n

-- what stands within
abbrev pub within : ExprLayer nests → ℕ
within (Int n) = 0
within (Str text) = 0
within (Var name) = 0
within Context = 0
within Root = 0
within (Comma all) = total all
within (Or all) = total all
within (And all) = total all
within (If arms other) = total arms + other
within (Flwor parts) = parts
within (Quant every binds test) = total binds + test
within (General op a b) = a + b
within (Value op a b) = a + b
within (Is a b) = a + b
within (Before a b) = a + b
within (After a b) = a + b
within (Range a b) = a + b
within (Arith op a b) = a + b
within (Minus a) = a
within (Plus a) = a
within (Union a b) = a + b
within (Intersect a b) = a + b
within (Except a b) = a + b
within (InstanceOf a kind) = a
within (Treat a kind) = a
within (Castable a kind empty) = a
within (Cast a kind empty) = a
within (Slash a b) = a + b
within (Step axis wanted tests) = total tests
within (Filter of tests) = of + total tests
within (Call name args) = total args
within (ElemC name content) = name + content
within (AttrC name content) = name + content
within (DocC content) = content
within (TextC content) = content
within (CommentC content) = content
within (PiC name content) = name + content
within (Direct name attrs parts) = total attrs + total parts

abbrev pub clause_size : ClauseLayer nests → ℕ
clause_size (For bind place) = 1 + bind
clause_size (Let bind) = bind

abbrev pub name_size : NameLayer nests → ℕ
name_size (Fixed name) = 0
name_size (Computed e) = e

abbrev pub part_size : PartLayer nests → ℕ
part_size (Chars text) = 0
part_size (Enclosed e) = e
part_size (Child e) = e

abbrev pub flwor_size : FlworLayer nests → ℕ
flwor_size f = total f.clauses + (of_one f.test + (total f.orders + f.body))

abbrev pub size_steps : Steps nests
size_steps = record {
  of_expr = λ x. 1 + within x;
  of_clause = clause_size;
  of_name = name_size;
  of_part = part_size;
  of_arm = λ a. a.test + a.then;
  of_bind = λ b. b.source;
  of_attr = λ a. total a.parts;
  of_flwor = flwor_size;
  of_order = λ o. o.key;
}

abbrev pub size_of : Expr → ℕ
size_of = expr_gives nests size_steps
