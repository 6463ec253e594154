use Rattle.std.proofs.Common.{sym, ◌∙◌}
use Rattle.xdm_items.proofs.ConversionLemmas.{stay, made_then, failed_before}
use Rattle.xdm_items.proofs.conversions.convert.Goals as goal

pub returns-then-matches : goal.returns-then-matches
returns-then-matches c = stay _ _ (sym c.matches.ensures ∙ c.if-matches.true)

pub returns-in-Ok : goal.returns-in-Ok
returns-in-Ok c = made_then _ c.args.items c.in-Ok.made _ c.in-Ok.ensures c.matched.ensures

pub returns-in-Err : goal.returns-in-Err
returns-in-Err c = failed_before _ c.args.items c.in-Err.fault c.in-Err.ensures
