use Rattle.std.proofs.Common.{sym, ◌∙◌}
use Rattle.printable_forms.proofs.FormKinds.{element_is}
use Rattle.printable_forms.proofs.roots.is_direct.Goals as goal

pub returns : goal.returns
returns c =
    c.has_direct.ensures ∙ sym (element_is c.args._prefixes.now c.args.child.now)
