use Rattle.std.proofs.Common.{◌≡◌, drop, map, min, max}
use Rattle.closed_sheets.specs.SheetForms.SheetNest.{template_nest_of}
use Rattle.closed_sheets.proofs.sheet_forms.sheets.nest_templates.Given as goal
use Rattle.xt_names.specs.Lists.{greatest}

abbrev pub invariant-loop-template : goal.invariant-loop-template
invariant-loop-template l =
    max l.most (min (greatest (map template_nest_of (drop l.template-index l.all))) 0xFFFF_FFFF) ≡ min (greatest (map template_nest_of l.all)) 0xFFFF_FFFF
