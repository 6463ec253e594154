-- The whole stylesheet is that of its parts.
use Rattle.std.proofs.Common.{◌≡◌, refl, List, map, length, Bool, false}
use Rattle.xt_names.specs.declared.names.ExprName.{ExprName}
use Rattle.xt_types.specs.declared.node_tests.SpaceRule.{SpaceRule}
use Rattle.xt_sheets.specs.declared.sheets.Level.{Level}
use Rattle.xt_sheets.specs.declared.sheets.Global.{Global}
use Rattle.xt_sheets.specs.declared.sheets.Template.{Template}
use Rattle.xt_sheets.specs.declared.sheets.Rule.{Rule}
use Rattle.xt_sheets.specs.declared.sheets.SheetFunction.{SheetFunction}
use Rattle.xt_sheets.specs.declared.sheets.KeyRule.{KeyRule}
use Rattle.xt_sheets.specs.declared.sheets.Sheet.{Sheet}
use Rattle.sheet_rules.specs.SheetDeclarations.Counts.{counted_of}
use Rattle.sheet_assembly.specs.declared.templates.Standing.{Standing}
use Rattle.sheet_assembly.specs.Named.{each_by, each, global_if, function_if, keys_in, ordered}
use Rattle.sheet_assembly.specs.Templates.{standing_if, templates_of, rules_of}
use Rattle.sheet_assembly.specs.Spaces.{spaces_of, omit_of}
use Rattle.sheet_assembly.specs.Sheets.{Parts, sheet_of, level_of}

pub whole : (p : Parts) (marks m1 m2 m3 : List Bool) (called modes copied : List ExprName)
    → (standing s1 s2 : List Standing) (levels : List Level) (globals : List Global)
    → (templates : List Template) (rules : List Rule) (functions : List SheetFunction)
    → (keys : List KeyRule) (names : List ExprName) (space : List SpaceRule) (omit : Bool)
    → marks ≡ counted_of p.declarations → m1 ≡ marks → m2 ≡ marks → m3 ≡ marks
    → called ≡ p.called → modes ≡ p.modes → copied ≡ p.modes
    → standing ≡ each_by (standing_if p.called) m1 p.declarations → s1 ≡ standing → s2 ≡ standing
    → levels ≡ map level_of p.levels
    → globals ≡ ordered (each_by global_if m2 p.declarations) p.order
    → templates ≡ templates_of (length called) s1
    → rules ≡ rules_of (length modes) (length called) 0 s2
    → functions ≡ each_by function_if m3 p.declarations
    → keys ≡ each keys_in p.declarations
    → names ≡ copied
    → space ≡ spaces_of (length p.levels) p.declarations
    → omit ≡ omit_of false p.declarations
    → ◌≡◌ {A = Sheet} (record {
      levels = levels;
      globals = globals;
      templates = templates;
      rules = rules;
      functions = functions;
      keys = keys;
      modes = names;
      space = space;
      omit = omit;
    }) (sheet_of p)
whole p marks m1 m2 m3 called modes copied standing s1 s2 levels globals templates rules functions keys names
    space omit are is1 is2 is3 ca mo co st is4 is5 le gl te ru fu ke na sp om =
    rw (le, gl, te, ru, fu, ke, na, sp, om, ca, mo, co, is4, is5, st, is1, is2, is3, are) refl
