-- What the definitions say, in the words of the Recommendation.
use Rattle.std.specs.Prelude.{◌≡◌, List, [], Some}
use Rattle.xt_names.specs.declared.names.ExprName.{ExprName}
use Rattle.xt_names.specs.declared.codes.Code.{Code}
use Rattle.xt_syntax.specs.declared.exprs.Expr.{Expr}
use Rattle.xt_syntax.specs.declared.patterns.Pattern.{Pattern}
use Rattle.xt_sheets.specs.declared.sheets.Sheet.{Sheet}
use Rattle.expr_names.specs.Answers.{first}
use Rattle.global_needs.specs.Needs.{needs}
use Rattle.global_order.specs.Order.{IsInOrder}
use Rattle.sheet_modules.specs.declared.sheet_levels.levels.SheetLevel.{SheetLevel}
use Rattle.sheet_rules.specs.declared.sheet_declarations.lists.Declaration.{Declaration}
use Rattle.sheet_rules.specs.SheetDeclarations.Counts.{counted_of}
use Rattle.sheet_assembly.specs.Named.{each_by, global_if}
use Rattle.module_loading.specs.declared.loaded.LoadedSheet.{LoadedSheet}
use Rattle.loaded_sheets.specs.Wholes.{declared_sheet, evaluation_order, wide_broken, wide_faults}
use Rattle.loaded_sheets.specs.Sheets.{names_in, own_faults, declarations_in, declared_in}
use Rattle.loaded_sheets.specs.Sheets.{sheet_faults}

-- each global that counts is there, in declaration order
abbrev pub AllGlobalsAreDeclared : Type 0
AllGlobalsAreDeclared = (ds : List (Declaration Expr Pattern)) (modes called : List ExprName)
    (levels : List SheetLevel)
    → (declared_sheet ds modes called levels).globals ≡ each_by global_if (counted_of ds) ds

-- each comes after those on which it depends
abbrev pub GlobalsStandInOrder : Type 0
GlobalsStandInOrder = (s : Sheet) → IsInOrder (needs s) (evaluation_order s)

-- what a module breaks by itself is told first
abbrev pub ModulesComeFirst : Type 0
ModulesComeFirst = (l : LoadedSheet) (code : Code) → first (own_faults l) ≡ Some code
    → first (sheet_faults l) ≡ Some code

-- where declarations are not refused they break no rule together
abbrev pub WideRulesAreTold : Type 0
WideRulesAreTold = (ds : List (Declaration Expr Pattern)) (called : List ExprName) (s : Sheet)
    → wide_faults ds called s ≡ [] → wide_broken ds called s ≡ []

-- where modules are not refused none breaks a rule by itself, and they break none together
abbrev pub AllRulesAreTold : Type 0
AllRulesAreTold = (l : LoadedSheet) → sheet_faults l ≡ []
    → (own_faults l ≡ [])
    × (wide_broken (declarations_in l) (names_in l).called (declared_in l) ≡ [])
