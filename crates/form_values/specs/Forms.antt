-- What operators and tests of types give of operands that are evaluated (XPath 2.0, 3.3 to 3.5 and
-- 3.10).
use Rattle.std.specs.Prelude.{◌≡◌, ℕ, List, [], ◌∷◌, map, Option, Some, None, Result}
use Rattle.xt_names.specs.declared.codes.Code.{Code}
use Rattle.xdm_items.specs.declared.items.Item.{Item}
use Rattle.xt_syntax.specs.declared.exprs.Expr.{Expr}
use Rattle.xt_syntax.specs.declared.exprs.Arm.{Arm}
use Rattle.xt_syntax.specs.declared.exprs.Clause.{Clause}
use Rattle.xt_syntax.specs.declared.exprs.Order.{Order}
use Rattle.xt_syntax.specs.declared.exprs.Flwor.{Flwor as FlworOf}
use Rattle.xt_syntax.specs.declared.exprs.Bind.{Bind}
use Rattle.xt_syntax.specs.declared.exprs.NameSource.{NameSource}
use Rattle.xt_syntax.specs.declared.exprs.DirectAttr.{DirectAttr}
use Rattle.xt_syntax.specs.declared.exprs.Part.{Part}
use Rattle.xt_syntax.specs.declared.exprs.Clause.TheViews.{out-Expr}
use Rattle.xt_syntax.specs.declared.exprs.Clause.TheOpen.{Expr-F, General, Value, Is, Before, After}
use Rattle.xt_syntax.specs.declared.exprs.Clause.TheOpen.{Range, Arith, Minus, Plus, Union}
use Rattle.xt_syntax.specs.declared.exprs.Clause.TheOpen.{Intersect, Except, InstanceOf, Treat}
use Rattle.xt_syntax.specs.declared.exprs.Clause.TheOpen.{Castable, Cast}
use Rattle.operator_values.specs.Comparisons.{general_value, single_value}
use Rattle.operator_values.specs.Nodes.{is_value, before_value, after_value, union_value}
use Rattle.operator_values.specs.Nodes.{intersect_value, except_value}
use Rattle.operator_values.specs.Numbers.{arithmetic_value, range_value, negated_value}
use Rattle.operator_values.specs.Numbers.{signed_value}
use Rattle.operator_values.specs.Types.{instance_value, treated_value, cast_value, castable_value}
use Rattle.node_walks.specs.Moves.{given}
use Rattle.lazy_seq.specs.Flow.{Flow}
use Rattle.expr_meaning.specs.Outcomes.Outcome.{Ends}
use Rattle.expr_meaning.specs.Env.{Env, Program}
use Rattle.expr_meaning.specs.Meaning.{outcome}

abbrev pub Layer : Type 0
Layer = Expr-F Clause Expr NameSource Part Arm Bind DirectAttr FlworOf Order

abbrev pub Answer : Type 0
Answer = Result (List Item) Code

-- there is one operand, and there are two
abbrev pub with_one : (List Item → Answer) → List (List Item) → Option Answer
with_one value (xs ∷ []) = Some (value xs)
with_one value lists = None

abbrev pub with_two : (List Item → List Item → Answer) → List (List Item) → Option Answer
with_two value (xs ∷ ys ∷ []) = Some (value xs ys)
with_two value lists = None

-- None of any other form, and where there are more or fewer operands
abbrev pub value_in : Layer → List (List Item) → Option Answer
value_in (General op a b) lists = with_two (general_value op) lists
value_in (Value op a b) lists = with_two (single_value op) lists
value_in (Is a b) lists = with_two is_value lists
value_in (Before a b) lists = with_two before_value lists
value_in (After a b) lists = with_two after_value lists
value_in (Range a b) lists = with_two range_value lists
value_in (Arith op a b) lists = with_two (arithmetic_value op) lists
value_in (Minus a) lists = with_one negated_value lists
value_in (Plus a) lists = with_one signed_value lists
value_in (Union a b) lists = with_two union_value lists
value_in (Intersect a b) lists = with_two intersect_value lists
value_in (Except a b) lists = with_two except_value lists
value_in (InstanceOf a kind) lists = with_one (instance_value kind) lists
value_in (Treat a kind) lists = with_one (treated_value kind) lists
value_in (Castable a kind empty) lists = with_one (castable_value kind empty) lists
value_in (Cast a kind empty) lists = with_one (cast_value kind empty) lists
value_in x lists = None

abbrev pub value_of : Expr → List (List Item) → Option Answer
value_of e lists = value_in (out-Expr e) lists

abbrev pub lists_of : List Flow → List (List Item)
lists_of operands = map (λ s. given s.moves) operands

-- the expressions that such a form holds
abbrev pub parts_in : Layer → List Expr
parts_in (General op a b) = a ∷ b ∷ []
parts_in (Value op a b) = a ∷ b ∷ []
parts_in (Is a b) = a ∷ b ∷ []
parts_in (Before a b) = a ∷ b ∷ []
parts_in (After a b) = a ∷ b ∷ []
parts_in (Range a b) = a ∷ b ∷ []
parts_in (Arith op a b) = a ∷ b ∷ []
parts_in (Minus a) = a ∷ []
parts_in (Plus a) = a ∷ []
parts_in (Union a b) = a ∷ b ∷ []
parts_in (Intersect a b) = a ∷ b ∷ []
parts_in (Except a b) = a ∷ b ∷ []
parts_in (InstanceOf a kind) = a ∷ []
parts_in (Treat a kind) = a ∷ []
parts_in (Castable a kind empty) = a ∷ []
parts_in (Cast a kind empty) = a ∷ []
parts_in x = []

abbrev pub parts_of : Expr → List Expr
parts_of e = parts_in (out-Expr e)

-- one after another the expressions end with these lists
abbrev pub EndWith : Program → Env → List Expr → List (List Item) → ℕ → ℕ → Type 0
EndWith p env [] [] j k = j ≡ k
EndWith p env [] (xs ∷ lists) j k = ⊥
EndWith p env (e ∷ es) [] j k = ⊥
EndWith p env (e ∷ es) (xs ∷ lists) j k =
    (i : ℕ) × ((outcome p e env j ≡ Ends xs i) × EndWith p env es lists i k)
