-- Expressions that a key may have as its `use`.
use Rattle.std.specs.Prelude.{Bool, true, false, not, ◌&&◌, codes}
use Rattle.std.specs.Str.{bytes_eq}
use Rattle.xt_names.specs.declared.names.ExprName.{ExprName}
use Rattle.xt_forms.specs.Regular.{every}
use Rattle.xt_syntax.specs.declared.exprs.Expr.{Expr}
use Rattle.xt_syntax.specs.declared.exprs.Arm.{Arm}
use Rattle.xt_syntax.specs.declared.exprs.Clause.TheOpen.{Int, Str, Var, Context, Root, Comma}
use Rattle.xt_syntax.specs.declared.exprs.Clause.TheOpen.{Or, And, If, Flwor, Quant, General}
use Rattle.xt_syntax.specs.declared.exprs.Clause.TheOpen.{Value, Is, Before, After, Range, Arith}
use Rattle.xt_syntax.specs.declared.exprs.Clause.TheOpen.{Minus, Plus, Union, Intersect, Except}
use Rattle.xt_syntax.specs.declared.exprs.Clause.TheOpen.{InstanceOf, Treat, Castable, Cast, Slash}
use Rattle.xt_syntax.specs.declared.exprs.Clause.TheOpen.{Step, Filter, Call, ElemC, AttrC, DocC}
use Rattle.xt_syntax.specs.declared.exprs.Clause.TheOpen.{TextC, CommentC, PiC, Direct}
use Rattle.xt_syntax.specs.Layers.{Kinds, Steps, ExprLayer, expr_gives, arm_gives}
use Rattle.function_table.specs.Find.{is_in_fn}

abbrev pub uses : Kinds
uses = record {
  Clauses = Bool;
  Exprs = Bool;
  Names = Bool;
  Parts = Bool;
  Arms = Bool;
  Binds = Bool;
  Attrs = Bool;
  Flwors = Bool;
  Orders = Bool;
}

-- key(), with however many arguments
unfoldable pub is_key : ExprName → Bool
is_key name = is_in_fn name && bytes_eq name.local (codes "key")

abbrev pub expr_use : ExprLayer uses → Bool
expr_use (Int n) = true
expr_use (Str text) = true
expr_use (Var name) = false
expr_use Context = true
expr_use Root = true
expr_use (Comma all) = every all
expr_use (Or all) = every all
expr_use (And all) = every all
expr_use (If arms other) = every arms && other
expr_use (Flwor parts) = false
expr_use (Quant every_one binds test) = false
expr_use (General op a b) = a && b
expr_use (Value op a b) = a && b
expr_use (Is a b) = a && b
expr_use (Before a b) = a && b
expr_use (After a b) = a && b
expr_use (Range a b) = a && b
expr_use (Arith op a b) = a && b
expr_use (Minus a) = a
expr_use (Plus a) = a
expr_use (Union a b) = a && b
expr_use (Intersect a b) = a && b
expr_use (Except a b) = a && b
expr_use (InstanceOf a kind) = a
expr_use (Treat a kind) = a
expr_use (Castable a kind empty) = a
expr_use (Cast a kind empty) = a
expr_use (Slash a b) = a && b
expr_use (Step axis node_test tests) = every tests
expr_use (Filter of tests) = of && every tests
expr_use (Call name args) = not (is_key name) && every args
expr_use (ElemC name content) = false
expr_use (AttrC name content) = false
expr_use (DocC content) = false
expr_use (TextC content) = false
expr_use (CommentC content) = false
expr_use (PiC name content) = false
expr_use (Direct name attrs parts) = false

-- nothing is asked of what is in queries alone, or in the forms that bind variables
abbrev pub use_steps : Steps uses
use_steps = record {
  of_expr = expr_use;
  of_clause = λ c. false;
  of_name = λ n. false;
  of_part = λ p. false;
  of_arm = λ a. a.test && a.then;
  of_bind = λ b. false;
  of_attr = λ a. false;
  of_flwor = λ f. false;
  of_order = λ o. false;
}

-- it names and binds no variable, and calls no key()
abbrev pub is_key_use : Expr → Bool
is_key_use = expr_gives uses use_steps

abbrev pub is_use_arm : Arm → Bool
is_use_arm = arm_gives uses use_steps
