use Rattle.query_printer.proofs.PrologDrafts.Params.{rule_turn}
use Rattle.query_printer.proofs.prolog_drafts.rules.push_rules.Goals as goal

pub loop-place-preserved : goal.loop-place-preserved
loop-place-preserved c =
    rule_turn c.args.prefixes.now c.args.rules.now c.loop-place.place c.index-rules-place.result
    _ _ _ _ c.loop-place-test.true c.index-rules-place.is c.loop-place.invariant
    c.in_ok-push_rule.ensures c.in_ok-push_gap.ensures.between c.in_ok-push_gap.ensures.last
