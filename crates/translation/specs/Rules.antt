-- The functions of template rules: one for each mode, and for each rule in each of its modes (XSLT
-- 2.0, 6).
use Rattle.std.specs.Prelude.{ℕ, suc, map, List, [], ◌∷◌, ◌++◌, flat_map, slice_get}
use Rattle.std.specs.Prelude.{Bool, true, false, Option, Some, None}
use Rattle.xt_names.specs.declared.names.ExprName.{ExprName}
use Rattle.xt_syntax.specs.declared.exprs.Expr.{Expr}
use Rattle.xt_syntax.specs.declared.queries.QueryFunction.{QueryFunction}
use Rattle.xt_sheets.specs.declared.sheets.Sheet.{Sheet}
use Rattle.xt_sheets.specs.declared.sheets.Template.{Template}
use Rattle.rule_order.specs.Rules.{Ranked}
use Rattle.translated_forms.specs.Names.{mode_function, rule_function, next_function}
use Rattle.translated_forms.specs.Names.{imports_function}
use Rattle.translated_forms.specs.Dispatch.{first_that_matches}
use Rattle.translated_forms.specs.Places.{Table, of_rule}
use Rattle.translation.specs.Found.{Found}
use Rattle.translation.specs.Ranks.{falling, rules_in, lower_than, imported_into}
use Rattle.translation.specs.Tables.{found_in_template}
use Rattle.translation.specs.Templates.{focus_function, template_function}

-- the place of a rule, and its test
abbrev pub tested : Table → Ranked → ℕ × Expr
tested t r = (r.rank.place, t.matches r.rule.pattern)

-- a function that takes the first rule that matches, of these in falling order
abbrev pub choosing : Table → ExprName → ℕ → List Ranked → QueryFunction
choosing t name mode rules =
    focus_function t name (first_that_matches t.params mode (map (tested t) (falling rules)))

-- what is there of next-match and apply-imports
abbrev pub if_there : Bool → QueryFunction → List QueryFunction
if_there true f = f ∷ []
if_there false f = []

abbrev pub overrides : Table → Sheet → ℕ → List Ranked → Ranked → Found →
    List QueryFunction
overrides t s mode rules r found =
    if_there found.next (choosing t (next_function r.rank.place mode) mode (lower_than r rules))
    ++ if_there found.imports
    (choosing t (imports_function r.rank.place mode) mode (imported_into s.levels r rules))

-- the template of a rule in a mode, with what its instructions look among
abbrev pub of_template : Table → Sheet → ℕ → List Ranked → Ranked → Option Template →
    List QueryFunction
of_template t s mode rules r None = []
of_template t s mode rules r (Some template) =
    template_function t (rule_function r.rank.place mode) (of_rule r.rank.place mode) template
    ∷ overrides t s mode rules r (found_in_template template)

abbrev pub rule_functions : Table → Sheet → ℕ → List Ranked → Ranked → List QueryFunction
rule_functions t s mode rules r =
    of_template t s mode rules r (slice_get s.templates r.rule.template)

abbrev pub mode_functions : Table → Sheet → ℕ → List QueryFunction
mode_functions t s mode =
    choosing t (mode_function mode) mode (rules_in mode s.rules)
    ∷ flat_map (rule_functions t s mode (rules_in mode s.rules)) (rules_in mode s.rules)

-- the modes are numbered from 0
abbrev pub modes_from : Table → Sheet → ℕ → List ExprName → List QueryFunction
modes_from t s mode [] = []
modes_from t s mode (m ∷ modes) = mode_functions t s mode ++ modes_from t s (suc mode) modes

abbrev pub all_rule_functions : Table → Sheet → List QueryFunction
all_rule_functions t s = modes_from t s 0 s.modes
