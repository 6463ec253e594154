use Rattle.std.proofs.Common.{sym, ◌∙◌}
use Rattle.xt_names.proofs.MarkLemmas.{map_same}
use Rattle.std.proofs.lemmas.Iterator.{YieldsList-from_chars}
use Rattle.std.proofs.lemmas.Iterator.Consumers.{YieldsList-end}
use Rattle.expr_tokens.proofs.QuoteLemmas.{unquotes_more, unquotes_end}
use Rattle.expr_tokens.proofs.literals.unquoted.Goals as goal

pub loop-c-preserved : goal.loop-c-preserved
loop-c-preserved c = unquotes_more c.loop-c.made _ _ _ _ _ c.loop-c.yielded c.in-Some.c c.loop-c.invariant c.in_ok-push_piece.ensures c.next_quote-quote.ensures c.next_doubling-doubling.ensures

pub returns : goal.returns
returns c =
    let t = YieldsList-end (YieldsList-from_chars c.args.literal.now c.utf8.literal cc) c.loop-c.yielded _ c.loop-c.yielded_by _ _ c.in-None.is c.next.ensures.steps in
    unquotes_end c.finish.result c.loop-c.made c.loop-c.yielded _ _ _ c.loop-c.invariant (sym (map_same c.loop-c.yielded) ∙ t.0) c.finish.ensures
