-- What raw values mean as patterns, and the rules that they break, in reading order (XSLT 2.0,
-- 5.5.2).
use Rattle.std.specs.Prelude.{List, [], ◌∷◌, ◌++◌, Bool, false, ◌||◌, ◌&&◌, if◌then◌else◌}
use Rattle.std.specs.List.{list_all}
use Rattle.xt_names.specs.declared.codes.Code.{Code}
use Rattle.xt_names.specs.declared.codes.Code.TheVariants.{SheetStatic}
use Rattle.xt_names.specs.declared.codes.SheetStaticCode.TheVariants.{XTUN0001}
use Rattle.xt_types.specs.declared.axes.Axis.TheVariants as axis
use Rattle.xt_types.specs.declared.node_tests.Test.TheVariants as test
use Rattle.xt_syntax.specs.declared.exprs.Expr.{Expr}
use Rattle.xt_syntax.specs.declared.exprs.Clause.{Clause}
use Rattle.xt_syntax.specs.declared.exprs.NameSource.{NameSource}
use Rattle.xt_syntax.specs.declared.exprs.Part.{Part}
use Rattle.xt_syntax.specs.declared.exprs.Arm.{Arm}
use Rattle.xt_syntax.specs.declared.exprs.Bind.{Bind}
use Rattle.xt_syntax.specs.declared.exprs.DirectAttr.{DirectAttr}
use Rattle.xt_syntax.specs.declared.exprs.Flwor.{Flwor as FlworOf}
use Rattle.xt_syntax.specs.declared.exprs.Order.{Order}
use Rattle.xt_syntax.specs.declared.exprs.Clause.TheViews.{out-Expr}
use Rattle.xt_syntax.specs.declared.exprs.Clause.TheOpen.{Expr-F, Step}
use Rattle.xt_syntax.specs.declared.patterns.Pattern.{Pattern}
use Rattle.xt_syntax.specs.declared.patterns.PatternStep.{PatternStep}
use Rattle.pattern_forms.specs.QuietMeaning.Quietly.{is_pattern_predicate}
use Rattle.expr_terms.specs.declared.raws.Raw.{Raw}
use Rattle.expr_resolve.specs.declared.setting.Setting.{Setting}
use Rattle.expr_resolve.specs.Folds.{broken_of, expr_meant}
use Rattle.pattern_forms.specs.PatternShapes.Shapes.{is_behind_slashes, inner_step}
use Rattle.pattern_syntax.specs.Parts.{barless, alternatives, steps_in, is_rooted, is_rooted_deep}
use Rattle.pattern_syntax.specs.Parts.{has_pattern_tests}

abbrev pub Layer : Type 0
Layer = Expr-F Clause Expr NameSource Part Arm Bind DirectAttr FlworOf Order

-- an axis step as a step of a pattern; a raw value of another form, which no pattern has, gives a
-- plain one
abbrev pub step_in : Bool → Layer → PatternStep
step_in deep (Step along wanted tests) = record {
  axis = along;
  test = wanted;
  quiet = tests;
  deep = deep;
}
step_in deep x = record { axis = axis.Child; test = test.Node; quiet = []; deep = deep }

abbrev pub as_step : Bool → Expr → PatternStep
as_step deep e = step_in deep (out-Expr e)

abbrev pub step_of : Setting → Bool → Raw → PatternStep
step_of s deep v = as_step deep (expr_meant s v)

-- the steps, of which `//` may come before the first
abbrev pub steps_from : Setting → Bool → List Raw → List PatternStep
steps_from s deep [] = []
steps_from s deep (v ∷ vs) =
    step_of s (deep || is_behind_slashes v) (inner_step v) ∷ steps_from s false vs

abbrev pub alternative_of : Setting → Raw → Pattern
alternative_of s v = record {
  rooted = is_rooted v;
  steps = steps_from s (is_rooted_deep v) (steps_in v);
}

-- the alternatives in order
abbrev pub alternatives_from : Setting → List Raw → List Pattern
alternatives_from s [] = []
alternatives_from s (v ∷ vs) = alternative_of s (barless v) ∷ alternatives_from s vs

abbrev pub patterns_of : Setting → Raw → List Pattern
patterns_of s v = alternatives_from s (alternatives v)

-- the rules that the steps break
abbrev pub steps_broken : Setting → List Raw → List Code
steps_broken s [] = []
steps_broken s (v ∷ vs) = broken_of s (inner_step v) ++ steps_broken s vs

abbrev pub alternative_broken : Setting → Raw → List Code
alternative_broken s v = steps_broken s (steps_in v)

abbrev pub alternatives_broken : Setting → List Raw → List Code
alternatives_broken s [] = []
alternatives_broken s (v ∷ vs) = alternative_broken s (barless v) ++ alternatives_broken s vs

-- .. and those that the pattern breaks
abbrev pub pattern_broken : Setting → Raw → List Code
pattern_broken s v = alternatives_broken s (alternatives v)

-- each predicate may be one of a pattern
abbrev pub has_allowed : PatternStep → Bool
has_allowed step = list_all is_pattern_predicate step.quiet

abbrev pub have_allowed : Pattern → Bool
have_allowed p = list_all has_allowed p.steps

-- no test and no predicate that patterns have not
abbrev pub is_allowed : Setting → Raw → Bool
is_allowed s v = has_pattern_tests v && list_all have_allowed (patterns_of s v)

abbrev pub left_out : Setting → Raw → List Code
left_out s v = if is_allowed s v then [] else SheetStatic XTUN0001 ∷ []
