-- Families of expressions (XPath 2.0, 3; XQuery 1.0, 3).
use Rattle.std.specs.Prelude.{Bool, true, false}
use Rattle.xt_syntax.specs.declared.exprs.Expr.{Expr}
use Rattle.xt_syntax.specs.declared.exprs.Clause.TheOpen.{If, Quant, General, Value, Is, Before}
use Rattle.xt_syntax.specs.declared.exprs.Clause.TheOpen.{After, Range, Arith, Union, Intersect}
use Rattle.xt_syntax.specs.declared.exprs.Clause.TheOpen.{Except, Slash, InstanceOf, Treat}
use Rattle.xt_syntax.specs.declared.exprs.Clause.TheOpen.{Castable, Cast, Step, Filter, Call}
use Rattle.xt_syntax.specs.declared.exprs.Clause.TheOpen.{ElemC, AttrC, PiC, Direct}
use Rattle.xt_syntax.specs.declared.exprs.Clause.TheViews.{out-Expr}
use Rattle.xt_syntax.specs.Layers.{Kinds, ExprLayer}
use Rattle.expr_drafts.specs.ExprPlaces.Roots.{parts}

-- conditionals and quantified expressions
abbrev pub is_branch_layer : (k : Kinds) → ExprLayer k → Bool
is_branch_layer k (If arms a) = true
is_branch_layer k (Quant every bs a) = true
is_branch_layer k _ = false

abbrev pub is_branch : Expr → Bool
is_branch e = is_branch_layer parts (out-Expr e)

-- two operands
abbrev pub is_pair_layer : (k : Kinds) → ExprLayer k → Bool
is_pair_layer k (General op a b) = true
is_pair_layer k (Value op a b) = true
is_pair_layer k (Is a b) = true
is_pair_layer k (Before a b) = true
is_pair_layer k (After a b) = true
is_pair_layer k (Range a b) = true
is_pair_layer k (Arith op a b) = true
is_pair_layer k (Union a b) = true
is_pair_layer k (Intersect a b) = true
is_pair_layer k (Except a b) = true
is_pair_layer k (Slash a b) = true
is_pair_layer k _ = false

abbrev pub is_pair : Expr → Bool
is_pair e = is_pair_layer parts (out-Expr e)

-- operators on types
abbrev pub is_typed_layer : (k : Kinds) → ExprLayer k → Bool
is_typed_layer k (InstanceOf a t) = true
is_typed_layer k (Treat a t) = true
is_typed_layer k (Castable a t empty) = true
is_typed_layer k (Cast a t empty) = true
is_typed_layer k _ = false

abbrev pub is_typed : Expr → Bool
is_typed e = is_typed_layer parts (out-Expr e)

-- steps, filters and calls
abbrev pub is_step_layer : (k : Kinds) → ExprLayer k → Bool
is_step_layer k (Step on t fs) = true
is_step_layer k (Filter a fs) = true
is_step_layer k (Call n fs) = true
is_step_layer k _ = false

abbrev pub is_step : Expr → Bool
is_step e = is_step_layer parts (out-Expr e)

-- constructors that have a name
abbrev pub is_named_constructor_layer : (k : Kinds) → ExprLayer k → Bool
is_named_constructor_layer k (ElemC n a) = true
is_named_constructor_layer k (AttrC n a) = true
is_named_constructor_layer k (PiC n a) = true
is_named_constructor_layer k (Direct n attrs ps) = true
is_named_constructor_layer k _ = false

abbrev pub is_named_constructor : Expr → Bool
is_named_constructor e = is_named_constructor_layer parts (out-Expr e)
