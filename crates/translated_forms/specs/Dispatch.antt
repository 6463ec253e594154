-- Templates that are applied and called (XSLT 2.0, 6 and 10.1).
use Rattle.std.specs.Prelude.{ℕ, List, [], ◌∷◌, ◌++◌, Option, Some, None}
use Rattle.xt_names.specs.declared.names.ExprName.{ExprName}
use Rattle.xt_types.specs.declared.axes.Axis.TheVariants.{Child}
use Rattle.xt_types.specs.declared.node_tests.NameTest.TheVariants.{Any}
use Rattle.xt_types.specs.declared.node_tests.Test.TheVariants.{Node, Text, Attr}
use Rattle.xt_syntax.specs.declared.exprs.Arm.{Arm}
use Rattle.xt_syntax.specs.declared.exprs.Clause.{Clause}
use Rattle.xt_syntax.specs.declared.exprs.Expr.{Expr}
use Rattle.xt_syntax.specs.declared.exprs.Order.{Order}
use Rattle.xt_syntax.specs.declared.exprs.Clause.TheViews.{roll-Expr}
use Rattle.xt_syntax.specs.declared.exprs.Clause.TheOpen.{Call, Or, Step, TextC}
use Rattle.xt_sheets.specs.declared.values.ModeUse.{ModeUse}
use Rattle.xt_sheets.specs.declared.values.ModeUse.TheVariants.{Number, Current}
use Rattle.carried_exprs.specs.Sights.{size_name, variable_of, the_item, nothing, from_focus, position_name}
use Rattle.carried_exprs.specs.Sights.{named}
use Rattle.translated_forms.specs.Names.{items_name, count_name}
use Rattle.translated_forms.specs.Names.{mode_function, rule_function, named_function}
use Rattle.translated_forms.specs.Forms.{comma, let_clause, flow, flow_or_body, if_of, if_chain, arm_of}
use Rattle.translated_forms.specs.Forms.{is_of_kind, failing, count_of}
use Rattle.translated_forms.specs.Texts.{Carry}
use Rattle.translated_forms.specs.Places.{Param, Place, RuleIn, Table, sight_at}
use Rattle.translated_forms.specs.Params.{BoundAt, given_lets, passed_arguments, same_arguments}
use Rattle.translated_forms.specs.Loops.{in_turn, the_items, items_let, sorted, string_of}
use Rattle.translated_forms.specs.Groups.{nodes_of}

abbrev pub called : ExprName → List Expr → Expr
called name args = roll-Expr (Call name args)

-- a function, for the present focus
abbrev pub at_focus : ExprName → List Expr → Expr
at_focus name args =
    called name (the_item ∷ variable_of position_name ∷ variable_of size_name ∷ args)

-- The function for each of the items in its turn: these are counted, and what is passed is evaluated,
-- before the first. The number has a name of its own, since what is passed may read the old size.
abbrev pub count_let : Clause
count_let = let_clause count_name (count_of items_name)

abbrev pub in_its_place : ExprName → List Expr → Expr
in_its_place name args =
    called name (the_item ∷ variable_of position_name ∷ variable_of count_name ∷ args)

unfoldable pub applied : Expr → ExprName → List Clause → List Expr → Expr
applied items name lets args =
    flow (items_let items ∷ count_let ∷ (lets ++ in_turn the_items ∷ []))
    (in_its_place name args)

-- xsl:apply-templates: to nodes, or to the children
abbrev pub children : Expr
children = roll-Expr (Step Child Node [])

abbrev pub selection : Carry → Place → Option Expr → Expr
selection carry p None = from_focus (sight_at p) children
selection carry p (Some e) = nodes_of (carry e)

abbrev pub mode_of : Option RuleIn → ModeUse → ℕ
mode_of rule (Number mode) = mode
mode_of None Current = 0
mode_of (Some r) Current = r.mode

abbrev pub templates_applied : Table → Carry → Place → Option Expr → ModeUse → List Order →
    List BoundAt → Expr
templates_applied t carry p select mode orders given =
    applied (sorted (selection carry p select) orders) (mode_function (mode_of p.rule mode))
    (given_lets t p given) (passed_arguments t p given)

-- xsl:call-template, xsl:next-match and xsl:apply-imports
abbrev pub with_given : Table → Place → List BoundAt → ExprName → Expr
with_given t p given name =
    flow_or_body (given_lets t p given) (at_focus name (passed_arguments t p given))

abbrev pub template_called : Table → Place → ℕ → List BoundAt → Expr
template_called t p place given = with_given t p given (named_function (t.named place))

abbrev pub overridden : Table → Place → Option RuleIn → (ℕ → ℕ → ExprName) → List BoundAt → Expr
overridden t p None function given = failing
overridden t p (Some r) function given = with_given t p given (function r.place r.mode)

-- The rules of a mode in falling order, each with its test, and then those that are built in: these
-- apply templates to the children with the parameters as they came, or give a text.
abbrev pub is_leaf : Expr
is_leaf =
    roll-Expr (Or (is_of_kind the_item Text ∷ is_of_kind the_item (Attr Any) ∷ []))

abbrev pub own_text : Expr
own_text = roll-Expr (TextC (string_of the_item))

abbrev pub built_in : List Param → ℕ → Expr
built_in params mode =
    comma (applied (from_focus named children) (mode_function mode) [] (same_arguments params)
    ∷ if_of is_leaf own_text nothing ∷ [])

abbrev pub rule_arm : List Param → ℕ → ℕ × Expr → Arm
rule_arm params mode r =
    arm_of (r.1, at_focus (rule_function r.0 mode) (same_arguments params))

abbrev pub rule_arms : List Param → ℕ → List (ℕ × Expr) → List Arm
rule_arms params mode [] = []
rule_arms params mode (r ∷ rules) = rule_arm params mode r ∷ rule_arms params mode rules

-- of the places of the rules with their tests
abbrev pub first_that_matches : List Param → ℕ → List (ℕ × Expr) → Expr
first_that_matches params mode rules =
    if_chain (rule_arms params mode rules) (built_in params mode)
