-- Families of expressions (XPath 2.0, 3; XQuery 1.0, 3).
use Rattle.std.specs.Prelude.{Bool, true, false}
use Rattle.xt_syntax.specs.declared.exprs.Expr.{Expr}
use Rattle.xt_syntax.specs.declared.exprs.Clause.TheOpen.{Int, Str, Var, Context, Root}
use Rattle.xt_syntax.specs.declared.exprs.Clause.TheOpen.{Or, And, If, Flwor, Quant}
use Rattle.xt_syntax.specs.declared.exprs.Clause.TheOpen.{General, Value, Is, Before, After}
use Rattle.xt_syntax.specs.declared.exprs.Clause.TheOpen.{Range, Arith, Union, Intersect, Except}
use Rattle.xt_syntax.specs.declared.exprs.Clause.TheOpen.{Slash, Minus, Plus, InstanceOf, Treat}
use Rattle.xt_syntax.specs.declared.exprs.Clause.TheOpen.{Castable, Cast, ElemC, AttrC, PiC}
use Rattle.xt_syntax.specs.declared.exprs.Clause.TheOpen.{DocC, TextC, CommentC, Direct}
use Rattle.xt_syntax.specs.declared.exprs.Clause.TheViews.{out-Expr}
use Rattle.xt_syntax.specs.Layers.{Kinds, ExprLayer}
use Rattle.expr_drafts.specs.ExprPlaces.Roots.{parts}

-- literals, variables, the context item and the root
abbrev pub is_leaf_layer : (k : Kinds) → ExprLayer k → Bool
is_leaf_layer k (Int n) = true
is_leaf_layer k (Str cs) = true
is_leaf_layer k (Var n) = true
is_leaf_layer k Context = true
is_leaf_layer k Root = true
is_leaf_layer k _ = false

abbrev pub is_leaf : Expr → Bool
is_leaf e = is_leaf_layer parts (out-Expr e)

-- `or`, `and`, conditionals, and expressions that bind variables
abbrev pub is_control_layer : (k : Kinds) → ExprLayer k → Bool
is_control_layer k (Or es) = true
is_control_layer k (And es) = true
is_control_layer k (If arms a) = true
is_control_layer k (Flwor f) = true
is_control_layer k (Quant every bs a) = true
is_control_layer k _ = false

abbrev pub is_control : Expr → Bool
is_control e = is_control_layer parts (out-Expr e)

-- comparisons of values and of nodes
abbrev pub is_comparison_layer : (k : Kinds) → ExprLayer k → Bool
is_comparison_layer k (General op a b) = true
is_comparison_layer k (Value op a b) = true
is_comparison_layer k (Is a b) = true
is_comparison_layer k (Before a b) = true
is_comparison_layer k (After a b) = true
is_comparison_layer k _ = false

abbrev pub is_comparison : Expr → Bool
is_comparison e = is_comparison_layer parts (out-Expr e)

-- two operands that are numbers, nodes or a path
abbrev pub is_combination_layer : (k : Kinds) → ExprLayer k → Bool
is_combination_layer k (Range a b) = true
is_combination_layer k (Arith op a b) = true
is_combination_layer k (Union a b) = true
is_combination_layer k (Intersect a b) = true
is_combination_layer k (Except a b) = true
is_combination_layer k (Slash a b) = true
is_combination_layer k _ = false

abbrev pub is_combination : Expr → Bool
is_combination e = is_combination_layer parts (out-Expr e)

-- signs, and operators on types
abbrev pub has_one_operand_layer : (k : Kinds) → ExprLayer k → Bool
has_one_operand_layer k (Minus a) = true
has_one_operand_layer k (Plus a) = true
has_one_operand_layer k (InstanceOf a t) = true
has_one_operand_layer k (Treat a t) = true
has_one_operand_layer k (Castable a t empty) = true
has_one_operand_layer k (Cast a t empty) = true
has_one_operand_layer k _ = false

abbrev pub has_one_operand : Expr → Bool
has_one_operand e = has_one_operand_layer parts (out-Expr e)

-- constructors
abbrev pub is_constructor_layer : (k : Kinds) → ExprLayer k → Bool
is_constructor_layer k (ElemC n a) = true
is_constructor_layer k (AttrC n a) = true
is_constructor_layer k (PiC n a) = true
is_constructor_layer k (DocC a) = true
is_constructor_layer k (TextC a) = true
is_constructor_layer k (CommentC a) = true
is_constructor_layer k (Direct n attrs ps) = true
is_constructor_layer k _ = false

abbrev pub is_constructor : Expr → Bool
is_constructor e = is_constructor_layer parts (out-Expr e)
