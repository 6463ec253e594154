use Rattle.std.proofs.Common.{sym, ◌∙◌}
use Rattle.printable_forms.proofs.FormKinds.{chain_is}
use Rattle.printable_forms.proofs.roots.is_if.Goals as goal

pub returns : goal.returns
returns c = c.has_if.ensures ∙ sym (chain_is c.args._prefixes.now c.args.last.now)
