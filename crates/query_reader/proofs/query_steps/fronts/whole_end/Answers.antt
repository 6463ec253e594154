use Rattle.query_reader.proofs.QuerySteps.FrontLemmas.{whole_none, whole_some}
use Rattle.query_reader.proofs.query_steps.fronts.whole_end.Goals as goal

pub returns-in-None : goal.returns-in-None
returns-in-None c = λ k ts.
    whole_none c.args.opening c.args.tokens.now _ c.in_ok-whole_of.ensures c.in-None.is

pub returns-in-Some : goal.returns-in-Some
returns-in-Some c = λ k ts.
    whole_some k c.args.opening c.args.tokens.now _ c.in-Some.declared c.in_ok-whole_of.ensures
    c.in-Some.is
