-- The rules on names that the declarations of a stylesheet break together.
use Rattle.std.specs.Prelude.{List, [], ◌++◌}
use Rattle.xt_names.specs.declared.names.ExprName.{ExprName}
use Rattle.xt_names.specs.declared.codes.Code.{Code}
use Rattle.xt_names.specs.declared.codes.SheetStaticCode.TheVariants.{XTSE1560}
use Rattle.xt_syntax.specs.declared.exprs.Expr.{Expr}
use Rattle.xt_syntax.specs.declared.patterns.Pattern.{Pattern}
use Rattle.name_rules.specs.Scopes.{with_names}
use Rattle.sheet_rules.specs.declared.sheet_declarations.lists.Declaration.{Declaration}
use Rattle.sheet_expressions.specs.SheetNames.Uses.{broken_uses}
use Rattle.sheet_rules.specs.declared.wide_rules.passing.Parameters.{Parameters}
use Rattle.sheet_rules.specs.WideRules.Doubles.{doubles_of, double_codes, code_if}
use Rattle.sheet_rules.specs.WideRules.Outputs.{outputs_differ}
use Rattle.sheet_rules.specs.WideRules.Passing.{broken_passings}
use Rattle.sheet_uses.specs.KeyCalls.Called.{called_codes}
use Rattle.sheet_rules.specs.Names.{names_of, template_names, with_functions, missing_codes}
use Rattle.sheet_rules.specs.Uses.{declared_uses, declared_keys}

-- templates that are called are looked for by their names, so all numbers count as declared
abbrev pub broken_rules : List (Declaration Expr Pattern) → List ExprName → List Parameters → List Code
broken_rules ds called templates =
    broken_uses (names_of ds 4294967295) (declared_uses ds [] [])
    ++ (missing_codes (with_names [] (template_names ds)) called
    ++ (double_codes (doubles_of ds)
    ++ (broken_passings templates (declared_uses ds [] [])
    ++ (called_codes (with_functions [] ds) (declared_keys ds [] [])
    ++ code_if (outputs_differ ds) XTSE1560))))
