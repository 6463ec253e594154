use Rattle.std.proofs.Common.{◌≡◌, ◌++◌, drop, map}
use Rattle.global_needs.specs.Rows.{template_row}
use Rattle.global_needs.proofs.rows.push_templates.Given as goal

abbrev pub invariant-loop-template : goal.invariant-loop-template
invariant-loop-template l =
    l.graph.items ++ map (template_row l.shape l.in_rule) (drop l.template-index l.templates) ≡ l.fn.graph.items ++ map (template_row l.shape l.in_rule) l.templates
