-- An expression of a stylesheet as the query has it: what reads the stylesheet's focus reads the
-- variables that hold it, until the expression has made a focus of its own; current(), the current
-- group and its key are variables everywhere, and key() is a call of a function of the query.
use Rattle.std.specs.Prelude.{List, map, Option, Some, None}
use Rattle.xt_syntax.specs.declared.exprs.Expr.{Expr}
use Rattle.xt_syntax.specs.declared.exprs.Arm.{Arm}
use Rattle.xt_syntax.specs.declared.exprs.Clause.{Clause}
use Rattle.xt_syntax.specs.declared.exprs.Order.{Order}
use Rattle.xt_syntax.specs.declared.exprs.Flwor.{Flwor as FlworOf}
use Rattle.xt_syntax.specs.declared.exprs.Bind.{Bind}
use Rattle.xt_syntax.specs.declared.exprs.NameSource.{NameSource}
use Rattle.xt_syntax.specs.declared.exprs.DirectAttr.{DirectAttr}
use Rattle.xt_syntax.specs.declared.exprs.Part.{Part}
use Rattle.xt_syntax.specs.declared.exprs.Clause.TheViews.{roll-Expr, roll-Arm, roll-Clause}
use Rattle.xt_syntax.specs.declared.exprs.Clause.TheViews.{roll-Order, roll-Flwor, roll-Bind}
use Rattle.xt_syntax.specs.declared.exprs.Clause.TheViews.{roll-NameSource, roll-DirectAttr}
use Rattle.xt_syntax.specs.declared.exprs.Clause.TheViews.{roll-Part}
use Rattle.xt_syntax.specs.declared.exprs.Clause.TheOpen.{Int, Str, Var, Context, Root, Comma, Or}
use Rattle.xt_syntax.specs.declared.exprs.Clause.TheOpen.{And, If, Flwor, Quant, General, Value, Is}
use Rattle.xt_syntax.specs.declared.exprs.Clause.TheOpen.{Before, After, Range, Arith, Minus, Plus}
use Rattle.xt_syntax.specs.declared.exprs.Clause.TheOpen.{Union, Intersect, Except, InstanceOf}
use Rattle.xt_syntax.specs.declared.exprs.Clause.TheOpen.{Treat, Castable, Cast, Slash, Step}
use Rattle.xt_syntax.specs.declared.exprs.Clause.TheOpen.{Filter, Call, ElemC, AttrC, DocC, TextC}
use Rattle.xt_syntax.specs.declared.exprs.Clause.TheOpen.{CommentC, PiC, Direct, For, Let, Fixed}
use Rattle.xt_syntax.specs.declared.exprs.Clause.TheOpen.{Computed, Chars, Enclosed, Child}
use Rattle.xt_syntax.specs.Layers.{Kinds, Steps, ExprLayer, ClauseLayer, NameLayer, PartLayer}
use Rattle.xt_syntax.specs.Layers.{FlworLayer, expr_gives}
use Rattle.carried_exprs.specs.Sights.{Sight, focused, Setting, context_seen, from_focus}
use Rattle.carried_exprs.specs.Calls.{call_seen}

-- a part in each sight
abbrev pub seen : Kinds
seen = record {
  Clauses = Sight → Clause;
  Exprs = Sight → Expr;
  Names = Sight → NameSource;
  Parts = Sight → Part;
  Arms = Sight → Arm;
  Binds = Sight → Bind;
  Attrs = Sight → DirectAttr;
  Flwors = Sight → FlworOf;
  Orders = Sight → Order;
}

abbrev pub all_in : {A : Type 0} → Sight → List (Sight → A) → List A
all_in s all = map (λ a. a s) all

abbrev pub test_in : {A : Type 0} → Sight → Option (Sight → A) → Option A
test_in s None = None
test_in s (Some a) = Some (a s)

abbrev pub expr_seen : Setting → ExprLayer seen → Sight → Expr
expr_seen w (Int n) s = roll-Expr (Int n)
expr_seen w (Str text) s = roll-Expr (Str text)
expr_seen w (Var name) s = roll-Expr (Var name)
expr_seen w Context s = context_seen s
expr_seen w Root s = from_focus s (roll-Expr Root)
expr_seen w (Comma all) s = roll-Expr (Comma (all_in s all))
expr_seen w (Or all) s = roll-Expr (Or (all_in s all))
expr_seen w (And all) s = roll-Expr (And (all_in s all))
expr_seen w (If arms other) s = roll-Expr (If (all_in s arms) (other s))
expr_seen w (Flwor parts) s = roll-Expr (Flwor (parts s))
expr_seen w (Quant every binds test) s = roll-Expr (Quant every (all_in s binds) (test s))
expr_seen w (General op a b) s = roll-Expr (General op (a s) (b s))
expr_seen w (Value op a b) s = roll-Expr (Value op (a s) (b s))
expr_seen w (Is a b) s = roll-Expr (Is (a s) (b s))
expr_seen w (Before a b) s = roll-Expr (Before (a s) (b s))
expr_seen w (After a b) s = roll-Expr (After (a s) (b s))
expr_seen w (Range a b) s = roll-Expr (Range (a s) (b s))
expr_seen w (Arith op a b) s = roll-Expr (Arith op (a s) (b s))
expr_seen w (Minus a) s = roll-Expr (Minus (a s))
expr_seen w (Plus a) s = roll-Expr (Plus (a s))
expr_seen w (Union a b) s = roll-Expr (Union (a s) (b s))
expr_seen w (Intersect a b) s = roll-Expr (Intersect (a s) (b s))
expr_seen w (Except a b) s = roll-Expr (Except (a s) (b s))
expr_seen w (InstanceOf a kind) s = roll-Expr (InstanceOf (a s) kind)
expr_seen w (Treat a kind) s = roll-Expr (Treat (a s) kind)
expr_seen w (Castable a kind empty) s = roll-Expr (Castable (a s) kind empty)
expr_seen w (Cast a kind empty) s = roll-Expr (Cast (a s) kind empty)
expr_seen w (Slash a b) s = roll-Expr (Slash (a s) (b focused))
expr_seen w (Step axis wanted tests) s = from_focus s (roll-Expr (Step axis wanted (all_in focused tests)))
expr_seen w (Filter of tests) s = roll-Expr (Filter (of s) (all_in focused tests))
expr_seen w (Call name args) s = call_seen w s name (all_in s args)
expr_seen w (ElemC name content) s = roll-Expr (ElemC (name s) (content s))
expr_seen w (AttrC name content) s = roll-Expr (AttrC (name s) (content s))
expr_seen w (DocC content) s = roll-Expr (DocC (content s))
expr_seen w (TextC content) s = roll-Expr (TextC (content s))
expr_seen w (CommentC content) s = roll-Expr (CommentC (content s))
expr_seen w (PiC name content) s = roll-Expr (PiC (name s) (content s))
expr_seen w (Direct name attrs parts) s = roll-Expr (Direct name (all_in s attrs) (all_in s parts))

abbrev pub clause_seen : ClauseLayer seen → Sight → Clause
clause_seen (For bind place) s = roll-Clause (For (bind s) place)
clause_seen (Let bind) s = roll-Clause (Let (bind s))

abbrev pub name_seen : NameLayer seen → Sight → NameSource
name_seen (Fixed name) s = roll-NameSource (Fixed name)
name_seen (Computed e) s = roll-NameSource (Computed (e s))

abbrev pub part_seen : PartLayer seen → Sight → Part
part_seen (Chars text) s = roll-Part (Chars text)
part_seen (Enclosed e) s = roll-Part (Enclosed (e s))
part_seen (Child e) s = roll-Part (Child (e s))

abbrev pub flwor_seen : FlworLayer seen → Sight → FlworOf
flwor_seen f s = roll-Flwor (record {
  clauses = all_in s f.clauses;
  test = test_in s f.test;
  orders = all_in s f.orders;
  stable = f.stable;
  body = f.body s;
})

abbrev pub seen_steps : Setting → Steps seen
seen_steps w = record {
  of_expr = expr_seen w;
  of_clause = clause_seen;
  of_name = name_seen;
  of_part = part_seen;
  of_arm = λ a s. roll-Arm (record { test = a.test s; then = a.then s });
  of_bind = λ b s. roll-Bind (record { var = b.var; kind = b.kind; source = b.source s });
  of_attr = λ a s. roll-DirectAttr (record { name = a.name; parts = all_in s a.parts });
  of_flwor = flwor_seen;
  of_order = λ o s. roll-Order (record { key = o.key s; descending = o.descending });
}

-- the expression of the query that does what the stylesheet's does
abbrev pub carried : Setting → Expr → Sight → Expr
carried w = expr_gives seen (seen_steps w)
