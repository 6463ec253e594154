-- The stylesheet of modules that are loaded, and the rules that they break (XSLT 2.0, 2.9 and
-- 3.10).
use Rattle.std.specs.Prelude.{List, ◌++◌}
use Rattle.xt_names.specs.declared.codes.Code.{Code}
use Rattle.xt_syntax.specs.declared.exprs.Expr.{Expr}
use Rattle.xt_syntax.specs.declared.patterns.Pattern.{Pattern}
use Rattle.xt_sheets.specs.declared.sheets.Sheet.{Sheet}
use Rattle.sheet_language.specs.Language.{sheet_reading}
use Rattle.sheet_rules.specs.declared.sheet_declarations.lists.Declaration.{Declaration}
use Rattle.sheet_rules.specs.SheetDeclarations.Declarations.{declarations_of}
use Rattle.module_loading.specs.declared.loaded.LoadedSheet.{LoadedSheet}
use Rattle.loaded_sheets.specs.LoadedParts.Names.{with_levels, names_alone}
use Rattle.loaded_sheets.specs.LoadedParts.Parts.{modules_faults, modules_value}
use Rattle.loaded_sheets.specs.declared.loaded_parts.names.SheetNames.{SheetNames}
use Rattle.loaded_sheets.specs.Wholes.{declared_sheet, wide_faults, in_order}

-- the names that have numbers
abbrev pub names_in : LoadedSheet → SheetNames
names_in l = with_levels l.modules l.levels names_alone

-- the rules that the modules break by themselves
unfoldable pub own_faults : LoadedSheet → List Code
own_faults l = modules_faults sheet_reading (names_in l).modes (names_in l).called l.modules

-- the declarations of all modules, in the order of precedence
unfoldable pub declarations_in : LoadedSheet → List (Declaration Expr Pattern)
declarations_in l =
    declarations_of (modules_value sheet_reading (names_in l).modes (names_in l).called l.modules) l.levels

-- the stylesheet with its globals in declaration order
abbrev pub declared_in : LoadedSheet → Sheet
declared_in l =
    declared_sheet (declarations_in l) (names_in l).modes (names_in l).called l.levels

-- the rules that are broken: those of single modules, and after them those of the whole stylesheet
unfoldable pub sheet_faults : LoadedSheet → List Code
sheet_faults l =
    own_faults l ++ wide_faults (declarations_in l) (names_in l).called (declared_in l)

-- the stylesheet, which says something where no rule is broken
unfoldable pub sheet_value : LoadedSheet → Sheet
sheet_value l = in_order (declared_in l)
