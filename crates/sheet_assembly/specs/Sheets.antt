-- One stylesheet of the declarations of all its modules (XSLT 2.0, 3.10.3).
use Rattle.std.specs.Prelude.{ℕ, List, length, map, false}
use Rattle.xt_names.specs.declared.names.ExprName.{ExprName}
use Rattle.xt_syntax.specs.declared.exprs.Expr.{Expr}
use Rattle.xt_syntax.specs.declared.patterns.Pattern.{Pattern}
use Rattle.xt_sheets.specs.declared.sheets.Level.{Level}
use Rattle.xt_sheets.specs.declared.sheets.Sheet.{Sheet}
use Rattle.sheet_modules.specs.declared.sheet_levels.levels.SheetLevel.{SheetLevel}
use Rattle.sheet_rules.specs.declared.sheet_declarations.lists.Declaration.{Declaration}
use Rattle.sheet_rules.specs.SheetDeclarations.Counts.{counted_of}
use Rattle.sheet_assembly.specs.declared.templates.Standing.{Standing}
use Rattle.sheet_assembly.specs.Named.{each_by, each, global_if, function_if, keys_in, ordered}
use Rattle.sheet_assembly.specs.Templates.{standing_if, templates_of, rules_of, small}
use Rattle.sheet_assembly.specs.Spaces.{spaces_of, omit_of}

abbrev pub level_of : SheetLevel → Level
level_of l = record { first = small l.first }

abbrev pub standing_of : List ExprName → List (Declaration Expr Pattern) → List Standing
standing_of called ds = each_by (standing_if called) (counted_of ds) ds

-- The stylesheet of declarations in the order of precedence, with these modes, these names of
-- templates that are called, these levels, and this order of the globals that count.
pub record Parts : Type 0 where
  pub declarations : List (Declaration Expr Pattern)
  pub modes : List ExprName
  pub called : List ExprName
  pub levels : List SheetLevel
  pub order : List ℕ

abbrev pub sheet_of : Parts → Sheet
sheet_of p = record {
  levels = map level_of p.levels;
  globals = ordered (each_by global_if (counted_of p.declarations) p.declarations) p.order;
  templates = templates_of (length p.called) (standing_of p.called p.declarations);
  rules = rules_of (length p.modes) (length p.called) 0 (standing_of p.called p.declarations);
  functions = each_by function_if (counted_of p.declarations) p.declarations;
  keys = each keys_in p.declarations;
  modes = p.modes;
  space = spaces_of (length p.levels) p.declarations;
  omit = omit_of false p.declarations;
}
