use Rattle.std.proofs.Common.{subst}
use Rattle.query_texts.specs.Bodies.{Rests}
use Rattle.query_texts.specs.Standings.{progress}
use Rattle.query_reader.specs.declared.query_steps.stages.ReaderState.TheVariants.{Body}
use Rattle.query_texts.proofs.StandingLemmas.{ending}
use Rattle.query_texts.proofs.texts.body_on.Goals as goal

pub returns-in-Ok-None-clause-follows : goal.returns-in-Ok-None-clause-follows
returns-in-Ok-None-clause-follows c = λ text s.
    subst (λ z. Rests c.args.limit text z c.args.body.order c.args.body.is_deep c.args.body.declared)
    c.in-Ok-None.field-0-is
    (c.in-Ok-None.ensures c.args.limit text c.args.body.order c.args.body.is_deep c.args.body.declared s)

pub returns-in_ok-end-in-Ok-Some-clause-follows : goal.returns-in_ok-end-in-Ok-Some-clause-follows
returns-in_ok-end-in-Ok-Some-clause-follows c = λ text s.
    let rest =
    subst (λ z. Rests c.args.limit text z c.args.body.order c.args.body.is_deep c.args.body.declared)
    c.in-Ok-Some.field-0-is
    (c.in-Ok-Some.ensures c.args.limit text c.args.body.order c.args.body.is_deep c.args.body.declared s) in
    ending c.args.limit text
    (progress (Body c.in-Ok-Some.reader) c.args.body.order c.args.body.is_deep c.args.body.declared) rest.point _
    rest.standing rest.is_end c.in_ok-end-in-Ok-Some.ensures
