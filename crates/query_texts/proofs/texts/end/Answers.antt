use Rattle.query_texts.proofs.StandingLemmas.{end_nothing, end_deep, end_past, end_value}
use Rattle.query_texts.proofs.texts.end.Goals as goal

pub returns-in-Nothing : goal.returns-in-Nothing
returns-in-Nothing c = λ b ts h.
    end_nothing c.args.limit c.args.progress b ts _ c.in_ok-finish.ensures c.in-Nothing.is h

pub returns-in-TooDeep : goal.returns-in-TooDeep
returns-in-TooDeep c = λ b ts h.
    end_deep c.args.limit c.args.progress b ts _ c.in_ok-finish.ensures c.in-TooDeep.is h

pub returns-then-is_deep : goal.returns-then-is_deep
returns-then-is_deep c = λ b ts h.
    end_past c.args.limit c.args.progress b ts _ c.in-Value.body c.in_ok-finish.ensures
    c.in-Value.is c.if-is_deep.true h

pub returns-else-is_deep : goal.returns-else-is_deep
returns-else-is_deep c = λ b ts h.
    end_value c.args.limit c.args.progress b ts _ c.in-Value.body c.in_ok-finish.ensures
    c.in-Value.is c.if-is_deep.false h
