use Rattle.std.proofs.Common.{◌≡◌, drop}
use Rattle.std.specs.List.{list_all}
use Rattle.sheet_closure.specs.StandingParts.Sheets.{template_stands}
use Rattle.sheet_closure.proofs.standing_parts.sheets.templates_stand.Given as goal

abbrev pub invariant-loop-template : goal.invariant-loop-template
invariant-loop-template l =
    list_all template_stands (drop l.template-index l.all)
    ≡ list_all template_stands l.all
