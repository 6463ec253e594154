-- How deep the instructions of a stylesheet nest.
use Rattle.std.specs.Prelude.{ℕ, max, map}
use Rattle.xt_sheets.specs.declared.sheets.Global.{Global}
use Rattle.xt_sheets.specs.declared.sheets.Template.{Template}
use Rattle.xt_sheets.specs.declared.sheets.SheetFunction.{SheetFunction}
use Rattle.xt_sheets.specs.declared.sheets.Sheet.{Sheet}
use Rattle.closed_sheets.specs.SheetForms.InstrNest.{bound_nest_of, body_nest_of}
use Rattle.xt_names.specs.Lists.{greatest}

abbrev pub global_nest_of : Global → ℕ
global_nest_of g = bound_nest_of g.bound

abbrev pub template_nest_of : Template → ℕ
template_nest_of t = max (greatest (map bound_nest_of t.params)) (body_nest_of t.body)

abbrev pub function_nest_of : SheetFunction → ℕ
function_nest_of f = max (greatest (map bound_nest_of f.params)) (body_nest_of f.body)

-- the most levels of the content of a global, of a template, of a function or of one of their parameters
abbrev pub sheet_nest_of : Sheet → ℕ
sheet_nest_of s = max (greatest (map global_nest_of s.globals)) (max (greatest (map template_nest_of s.templates)) (greatest (map function_nest_of s.functions)))
