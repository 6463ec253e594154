use Rattle.query_texts.proofs.StandingLemmas.{behind_deep, behind_none, behind_some}
use Rattle.query_texts.proofs.texts.behind.Goals as goal

pub returns-in-None : goal.returns-in-None
returns-in-None c = λ k b ts us h.
    behind_deep k c.args.order c.args.is_deep c.args.declared c.args.declared b ts us
    c.args.ended c.in-None.is h

pub returns-in-None-placed : goal.returns-in-None-placed
returns-in-None-placed c = λ k b ts us h.
    behind_none k c.args.order c.args.is_deep c.args.declared ts us c.args.ended c.in-Some.last _
    c.in-Some.is c.placed.ensures c.in-None-placed.is h

pub returns-in_ok-push-in-Some-placed : goal.returns-in_ok-push-in-Some-placed
returns-in_ok-push-in-Some-placed c = λ k b ts us h.
    behind_some k c.args.order c.args.is_deep c.args.declared _ b ts us c.args.ended
    c.in-Some.last _ c.in-Some-placed.order c.in-Some.is c.placed.ensures c.in-Some-placed.is
    c.in_ok-push-in-Some-placed.ensures.ok h
