use Rattle.std.proofs.Common.{ap, ◌∙◌, Some}
use Rattle.xpath_lex.proofs.PartLemmas.{end_here, end_behind, end_later}
use Rattle.xpath_lex.proofs.scans.Scan.find_end.Goals as goal

pub returns-then-not-eat : goal.returns-then-not-eat
returns-then-not-eat c = end_here c.args.quote _ _ _ _ c.loop-quote.invariant c.take_inside.ensures.taken c.take_inside.ensures.ends c.if-not-eat.ensures.1

pub returns-then-not-eat-2 : goal.returns-then-not-eat-2
returns-then-not-eat-2 c =
    ap Some c.fork-behind.ensures ∙ end_behind c.args.quote _ _ _ _ _ c.loop-quote.invariant c.take_inside.ensures.taken c.if-not-eat.ensures c.if-not-eat-2.ensures.1

pub loop-quote-preserved : goal.loop-quote-preserved
loop-quote-preserved c =
    rw c.fork-behind.ensures (end_later c.args.quote _ _ _ _ _ _ c.loop-quote.invariant c.take_inside.ensures.taken c.if-not-eat.ensures c.if-not-eat-2.ensures)
