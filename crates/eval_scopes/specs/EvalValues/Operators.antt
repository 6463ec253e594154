-- What operators give of evaluated operands (XPath 2.0, 3.3 to 3.5 and 3.10).
use Rattle.std.specs.Prelude.{List, Result}
use Rattle.xt_names.specs.declared.codes.Code.{Code}
use Rattle.xdm_items.specs.declared.items.Item.{Item}
use Rattle.expr_meaning.specs.OperatorValues.Comparisons.{general_value, single_value}
use Rattle.expr_meaning.specs.OperatorValues.Nodes.{is_value, before_value, after_value, union_value}
use Rattle.expr_meaning.specs.OperatorValues.Nodes.{intersect_value, except_value}
use Rattle.expr_meaning.specs.OperatorValues.Numbers.{arithmetic_value, range_value, negated_value}
use Rattle.expr_meaning.specs.OperatorValues.Numbers.{signed_value}
use Rattle.expr_meaning.specs.OperatorValues.Types.{cast_value, castable_value}
use Rattle.eval_scopes.specs.declared.eval_values.operators.Operator.{Operator}
use Rattle.eval_scopes.specs.declared.eval_values.operators.Operator.TheVariants as two
use Rattle.eval_scopes.specs.declared.eval_values.operators.OneOperator.{OneOperator}
use Rattle.eval_scopes.specs.declared.eval_values.operators.OneOperator.TheVariants as one

abbrev pub value_of_two : Operator → List Item → List Item → Result (List Item) Code
value_of_two (two.General op) = general_value op
value_of_two (two.Value op) = single_value op
value_of_two two.Is = is_value
value_of_two two.Before = before_value
value_of_two two.After = after_value
value_of_two two.Range = range_value
value_of_two (two.Arith op) = arithmetic_value op
value_of_two two.Union = union_value
value_of_two two.Intersect = intersect_value
value_of_two two.Except = except_value

abbrev pub value_of_one : OneOperator → List Item → Result (List Item) Code
value_of_one one.Minus = negated_value
value_of_one one.Plus = signed_value
value_of_one (one.Castable kind empty) = castable_value kind empty
value_of_one (one.Cast kind empty) = cast_value kind empty
