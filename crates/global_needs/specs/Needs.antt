-- On which globals each global depends (XSLT 2.0, 9.5).
use Rattle.std.specs.Prelude.{ℕ, List, ◌++◌, map, length, true, false}
use Rattle.xt_sheets.specs.declared.sheets.Sheet.{Sheet}
use Rattle.global_order.specs.GraphOrders.Needs.{needs_from}
use Rattle.global_needs.specs.declared.shapes.Shape.{Shape}
use Rattle.global_needs.specs.Shapes.{shape_of}
use Rattle.global_needs.specs.Rows.{global_row, function_row, template_row, no_row, with_rules}
use Rattle.global_order.specs.Order.{Graph}

abbrev pub graph_of : Shape → Sheet → Graph
graph_of shape s =
    with_rules shape
    ((((((map (global_row shape) s.globals
    ++ map (function_row shape) s.functions)
    ++ map (template_row shape false) s.templates)
    ++ map (template_row shape true) s.templates)
    ++ map no_row s.modes)
    ++ map no_row s.globals))
    s.rules

-- the globals that are reached from each
abbrev pub all_needs : Shape → Sheet → List (List ℕ)
all_needs shape s = needs_from (length s.globals) 0 (graph_of shape s) shape.globals_at

abbrev pub needs : Sheet → List (List ℕ)
needs s = all_needs (shape_of s) s
