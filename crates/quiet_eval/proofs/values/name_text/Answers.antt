use Rattle.std.proofs.Common.{ap, sym, ◌∙◌}
use Rattle.std.specs.Option.{option_copied}
use Rattle.quiet_eval.proofs.NameLemmas.{named_text, nameless_text}
use Rattle.quiet_eval.proofs.values.name_text.Goals as goal

pub returns-in-Some : goal.returns-in-Some
returns-in-Some c = rw (named_text c.args.whole c.args.node.now c.in-Some.name.now (ap option_copied (sym c.in-Some.is) ∙ c.name.ensures)) c.written_name.ensures

pub returns-in-None : goal.returns-in-None
returns-in-None c = rw (nameless_text c.args.whole c.args.node.now (ap option_copied (sym c.in-None.is) ∙ c.name.ensures)) c.target_text.ensures
