use Rattle.std.proofs.Common.{ap, sym, ◌∙◌}
use Rattle.std.specs.Option.{option_copied}
use Rattle.quiet_eval.proofs.NameLemmas.{no_text}
use Rattle.quiet_eval.proofs.values.target_text.Goals as goal

pub returns-in-None : goal.returns-in-None
returns-in-None c = rw (no_text _ (ap option_copied (sym c.in-None.is) ∙ c.target.ensures)) c.make.ensures.ok
