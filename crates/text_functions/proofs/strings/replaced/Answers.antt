use Rattle.std.proofs.Common.{sym, ◌∙◌}
use Rattle.text_functions.proofs.TranslateLemmas.{not_translated}
use Rattle.text_functions.proofs.strings.replaced.Goals as goal

pub returns-then-is_empty : goal.returns-then-is_empty
returns-then-is_empty c = not_translated c.copy.result c.args.old.now c.args.new.now c.args.whole.now (sym c.is_empty.ensures ∙ c.if-is_empty.true) c.copy.ensures
