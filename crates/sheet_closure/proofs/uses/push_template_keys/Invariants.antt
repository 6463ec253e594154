use Rattle.std.proofs.Common.{◌≡◌, drop, map}
use Rattle.sheet_uses.specs.Exprs.{all_in}
use Rattle.sheet_closure.specs.Uses.{template_keys}
use Rattle.sheet_closure.proofs.uses.push_template_keys.Given as goal

abbrev pub invariant-loop-template : goal.invariant-loop-template
invariant-loop-template l =
    all_in (map template_keys (drop l.template-index l.all)) l.scope l.found
    ≡ all_in (map template_keys l.all) l.scope l.fn.found
