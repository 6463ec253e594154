use Rattle.query_reader.proofs.QuerySteps.FrontLemmas.{value_none, value_some}
use Rattle.query_reader.proofs.query_steps.fronts.value_front.Goals as goal

pub returns-in-None : goal.returns-in-None
returns-in-None c = λ ts.
    value_none c.args.opening c.args.tokens.now _ c.in_ok-value_start.ensures c.in-None.is

pub returns-in_ok-reader-in-Some : goal.returns-in_ok-reader-in-Some
returns-in_ok-reader-in-Some c = λ ts.
    value_some c.args.limit c.args.opening c.args.tokens.now ts _ c.in-Some.variable _
    c.in_ok-value_start.ensures c.in-Some.is c.in_ok-reader-in-Some.ensures.language
    c.in_ok-reader-in-Some.ensures.limit c.in_ok-reader-in-Some.ensures.tracks
