-- What a stylesheet uses of what is declared in it (XSLT 2.0, 9, 10, 14.3 and 16.3).
use Rattle.std.specs.Prelude.{List, [], map}
use Rattle.xt_sheets.specs.declared.sheets.Global.{Global}
use Rattle.xt_sheets.specs.declared.sheets.Template.{Template}
use Rattle.xt_sheets.specs.declared.sheets.SheetFunction.{SheetFunction}
use Rattle.xt_sheets.specs.declared.sheets.KeyRule.{KeyRule}
use Rattle.xt_sheets.specs.declared.sheets.Sheet.{Sheet}
use Rattle.sheet_uses.specs.declared.uses.Use.{Use}
use Rattle.sheet_uses.specs.Exprs.{Finds, all_in, expr_uses}
use Rattle.sheet_uses.specs.Bodies.{bound_uses, callee_uses}
use Rattle.sheet_uses.specs.KeyCalls.Bodies.{bound_keys, callee_keys}

abbrev pub global_uses : Global → Finds
global_uses g = (bound_uses g.bound).source

abbrev pub template_uses : Template → Finds
template_uses t = callee_uses t.params t.body

abbrev pub function_uses : SheetFunction → Finds
function_uses f = callee_uses f.params f.body

abbrev pub key_uses : KeyRule → Finds
key_uses k = (expr_uses k.key).finds

-- what is used and not bound around the place
unfoldable pub uses_of : Sheet → List Use
uses_of s =
    all_in (map key_uses s.keys) []
    (all_in (map function_uses s.functions) []
    (all_in (map template_uses s.templates) [] (all_in (map global_uses s.globals) [] [])))

abbrev pub global_keys : Global → Finds
global_keys g = bound_keys g.bound

abbrev pub template_keys : Template → Finds
template_keys t = callee_keys t.params t.body

abbrev pub function_keys : SheetFunction → Finds
function_keys f = callee_keys f.params f.body

-- what grouping keys, and `use` of keys, use
unfoldable pub key_uses_of : Sheet → List Use
key_uses_of s =
    all_in (map key_uses s.keys) []
    (all_in (map function_keys s.functions) []
    (all_in (map template_keys s.templates) [] (all_in (map global_keys s.globals) [] [])))
