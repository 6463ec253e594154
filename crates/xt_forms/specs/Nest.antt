-- How deep expressions and patterns nest.
use Rattle.std.specs.Prelude.{ℕ, ◌+◌, max, [], map, Option, Some, None}
use Rattle.xt_syntax.specs.declared.exprs.Expr.{Expr}
use Rattle.xt_syntax.specs.declared.exprs.Arm.{Arm}
use Rattle.xt_syntax.specs.declared.exprs.Clause.{Clause}
use Rattle.xt_syntax.specs.declared.exprs.Order.{Order}
use Rattle.xt_syntax.specs.declared.exprs.Flwor.{Flwor as FlworOf}
use Rattle.xt_syntax.specs.declared.exprs.Bind.{Bind}
use Rattle.xt_syntax.specs.declared.exprs.NameSource.{NameSource}
use Rattle.xt_syntax.specs.declared.exprs.DirectAttr.{DirectAttr}
use Rattle.xt_syntax.specs.declared.exprs.Part.{Part}
use Rattle.xt_syntax.specs.declared.patterns.Pattern.{Pattern}
use Rattle.xt_syntax.specs.declared.patterns.PatternStep.{PatternStep}
use Rattle.xt_syntax.specs.declared.exprs.Clause.TheOpen.{Int, Str, Var, Context, Root, Comma, Or, And, If, Flwor, Quant, General, Value, Is, Before, After, Range, Arith, Minus, Plus, Union, Intersect, Except, InstanceOf, Treat, Castable, Cast, Slash, Step, Filter, Call, ElemC, AttrC, DocC, TextC, CommentC, PiC, Direct, For, Let, Fixed, Computed, Chars, Enclosed, Child}
use Rattle.xt_syntax.specs.Layers.{Kinds, Steps, ExprLayer, ClauseLayer, NameLayer, PartLayer, FlworLayer, expr_gives, arm_gives, clause_gives, bind_gives, order_gives, name_gives, attr_gives, part_gives, flwor_gives}
use Rattle.xt_names.specs.Lists.{greatest}

abbrev pub nests : Kinds
nests = record { Clauses = ℕ; Exprs = ℕ; Names = ℕ; Parts = ℕ; Arms = ℕ; Binds = ℕ; Attrs = ℕ; Flwors = ℕ; Orders = ℕ }

abbrev pub if_any : Option ℕ → ℕ
if_any None = 0
if_any (Some n) = n

-- a list of items, of operands of `or` or `and`, or of predicates is one level, and so is an `if` with all its arms
abbrev pub expr_nest : ExprLayer nests → ℕ
expr_nest (Int n) = 1
expr_nest (Str text) = 1
expr_nest (Var name) = 1
expr_nest Context = 1
expr_nest Root = 1
expr_nest (Comma all) = 1 + greatest all
expr_nest (Or all) = 1 + greatest all
expr_nest (And all) = 1 + greatest all
expr_nest (If arms other) = 1 + max (greatest arms) other
expr_nest (Flwor parts) = 1 + parts
expr_nest (Quant every binds test) = 1 + max (greatest binds) test
expr_nest (General op a b) = 1 + max a b
expr_nest (Value op a b) = 1 + max a b
expr_nest (Is a b) = 1 + max a b
expr_nest (Before a b) = 1 + max a b
expr_nest (After a b) = 1 + max a b
expr_nest (Range a b) = 1 + max a b
expr_nest (Arith op a b) = 1 + max a b
expr_nest (Minus a) = 1 + a
expr_nest (Plus a) = 1 + a
expr_nest (Union a b) = 1 + max a b
expr_nest (Intersect a b) = 1 + max a b
expr_nest (Except a b) = 1 + max a b
expr_nest (InstanceOf a kind) = 1 + a
expr_nest (Treat a kind) = 1 + a
expr_nest (Castable a kind empty) = 1 + a
expr_nest (Cast a kind empty) = 1 + a
expr_nest (Slash a b) = 1 + max a b
expr_nest (Step axis node_test tests) = 1 + greatest tests
expr_nest (Filter of tests) = 1 + max of (greatest tests)
expr_nest (Call name args) = 1 + greatest args
expr_nest (ElemC name content) = 1 + max name content
expr_nest (AttrC name content) = 1 + max name content
expr_nest (DocC content) = 1 + content
expr_nest (TextC content) = 1 + content
expr_nest (CommentC content) = 1 + content
expr_nest (PiC name content) = 1 + max name content
expr_nest (Direct name attrs parts) = 1 + max (greatest attrs) (greatest parts)

abbrev pub clause_nest : ClauseLayer nests → ℕ
clause_nest (For bind place) = bind
clause_nest (Let bind) = bind

abbrev pub name_nest : NameLayer nests → ℕ
name_nest (Fixed name) = 0
name_nest (Computed e) = e

abbrev pub part_nest : PartLayer nests → ℕ
part_nest (Chars text) = 0
part_nest (Enclosed e) = e
part_nest (Child e) = e

abbrev pub flwor_nest : FlworLayer nests → ℕ
flwor_nest f = max (greatest f.clauses) (max (if_any f.test) (max (greatest f.orders) f.body))

abbrev pub nest_steps : Steps nests
nest_steps = record {
  of_expr = expr_nest;
  of_clause = clause_nest;
  of_name = name_nest;
  of_part = part_nest;
  of_arm = λ a. max a.test a.then;
  of_bind = λ b. b.source;
  of_attr = λ a. greatest a.parts;
  of_flwor = flwor_nest;
  of_order = λ o. o.key;
}

-- 1 for a leaf, and for any other form 1 and the greatest of its parts
abbrev pub nest_of : Expr → ℕ
nest_of = expr_gives nests nest_steps

abbrev pub arm_nest_of : Arm → ℕ
arm_nest_of = arm_gives nests nest_steps

abbrev pub clause_nest_of : Clause → ℕ
clause_nest_of = clause_gives nests nest_steps

abbrev pub bind_nest_of : Bind → ℕ
bind_nest_of = bind_gives nests nest_steps

abbrev pub order_nest_of : Order → ℕ
order_nest_of = order_gives nests nest_steps

abbrev pub name_nest_of : NameSource → ℕ
name_nest_of = name_gives nests nest_steps

abbrev pub attr_nest_of : DirectAttr → ℕ
attr_nest_of = attr_gives nests nest_steps

abbrev pub part_nest_of : Part → ℕ
part_nest_of = part_gives nests nest_steps

abbrev pub flwor_nest_of : FlworOf → ℕ
flwor_nest_of = flwor_gives nests nest_steps

abbrev pub step_nest_of : PatternStep → ℕ
step_nest_of s = greatest (map nest_of s.quiet)

-- the greatest of its predicates, or 1 where it has none; no expression nests less than 1
abbrev pub pattern_nest_of : Pattern → ℕ
pattern_nest_of p = max 1 (greatest (map step_nest_of p.steps))
