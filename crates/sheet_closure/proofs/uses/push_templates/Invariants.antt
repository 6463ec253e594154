use Rattle.std.proofs.Common.{◌≡◌, drop, map}
use Rattle.sheet_uses.specs.Exprs.{all_in}
use Rattle.sheet_closure.specs.Uses.{template_uses}
use Rattle.sheet_closure.proofs.uses.push_templates.Given as goal

abbrev pub invariant-loop-template : goal.invariant-loop-template
invariant-loop-template l =
    all_in (map template_uses (drop l.template-index l.all)) l.scope l.found
    ≡ all_in (map template_uses l.all) l.scope l.fn.found
