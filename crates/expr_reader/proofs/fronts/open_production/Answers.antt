use Rattle.std.proofs.Common.{rules}
use Rattle.expr_reader.proofs.ViewLemmas.{views}
use Rattle.expr_reader.proofs.fronts.open_production.Goals as goal

pub with_token-requires-clause-wanted : goal.with_token-requires-clause-wanted
with_token-requires-clause-wanted c = rw (c.opened-frame.ensures.production, c.opened-frame.ensures.place) (rw c.in-Some-Tok.field-0-is at c.in-Some-Tok.ensures.wanted)

pub returns-in_ok-push-in-Some-Tok : goal.returns-in_ok-push-in-Some-Tok
returns-in_ok-push-in-Some-Tok c =
    let f = rw (c.opened-frame.ensures.production, c.opened-frame.ensures.place, c.opened-frame.ensures.kids) at c.in_ok-with_token-in-Some-Tok.ensures in
    λ go. search (rules, views)

pub returns-in_ok-push-in-Some-One : goal.returns-in_ok-push-in-Some-One
returns-in_ok-push-in-Some-One c = ((_, c.in_ok-push-in-Some-One.ensures.items), λ go. search (rules, views))
