use Rattle.std.proofs.Common.{subst}
use Rattle.std.proofs.lemmas.Result.{IfOk-weaker}
use Rattle.query_texts.specs.Standings.{Standing}
use Rattle.query_texts.proofs.texts.go_on.Goals as goal

pub returns-in-Ok-clause-follows : goal.returns-in-Ok-clause-follows
returns-in-Ok-clause-follows c =
    IfOk-weaker c.body_on.result _ _
    (λ x f. λ text s. f text
    (subst (λ z. Standing c.args.limit text z c.args.pieces.now) c.in-Ok.ensures s))
    c.body_on.ensures.follows

pub returns-in-Ok-clause-shorter : goal.returns-in-Ok-clause-shorter
returns-in-Ok-clause-shorter c = c.body_on.ensures.shorter

pub returns-in-Ok-clause-sees : goal.returns-in-Ok-clause-sees
returns-in-Ok-clause-sees c = c.body_on.ensures.sees

pub returns-in-Err-clause-follows : goal.returns-in-Err-clause-follows
returns-in-Err-clause-follows c =
    IfOk-weaker c.read_on.result _ _
    (λ x f. λ text s. f text
    (subst (λ z. Standing c.args.limit text z c.args.pieces.now) c.in-Err.ensures s))
    c.read_on.ensures.follows

pub returns-in-Err-clause-shorter : goal.returns-in-Err-clause-shorter
returns-in-Err-clause-shorter c = c.read_on.ensures.shorter

pub returns-in-Err-clause-sees : goal.returns-in-Err-clause-sees
returns-in-Err-clause-sees c = c.read_on.ensures.sees

pub body_on-requires : goal.body_on-requires
body_on-requires c = c.requires

pub read_on-requires : goal.read_on-requires
read_on-requires c = c.requires
