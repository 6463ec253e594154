use Rattle.std.proofs.Common.{subst}
use Rattle.std.proofs.lemmas.Result.{IfOk-weaker}
use Rattle.query_pieces.specs.Points.{before_of}
use Rattle.query_texts.proofs.StandingLemmas.{Turns, take_refused, take_onto, take_ends}
use Rattle.query_texts.proofs.texts.take.Goals as goal

pub returns-in-Refused : goal.returns-in-Refused
returns-in-Refused c = λ b ts us e h.
    take_refused c.args.limit c.args.progress b ts us c.args.token c.args.second
    (subst (λ x. Turns c.args.limit c.args.progress.stage c.args.token c.args.second x)
    c.in-Refused.is c.in_ok-step.ensures) e h

pub returns-in-Onto : goal.returns-in-Onto
returns-in-Onto c = λ b ts us e h.
    take_onto c.args.limit c.args.progress b ts us c.args.token c.args.second c.in-Onto.stage
    (subst (λ x. Turns c.args.limit c.args.progress.stage c.args.token c.args.second x)
    c.in-Onto.is c.in_ok-step.ensures) e h

pub returns-in-Ends : goal.returns-in-Ends
returns-in-Ends c =
    IfOk-weaker c.behind.result _ _
    (λ x g. λ b ts us e h. g c.args.limit (before_of c.args.token) ts us
    (take_ends c.args.limit c.args.progress b ts us c.args.token c.args.second c.in-Ends.ended
    (subst (λ x. Turns c.args.limit c.args.progress.stage c.args.token c.args.second x)
    c.in-Ends.is c.in_ok-step.ensures) e h))
    c.behind.ensures
