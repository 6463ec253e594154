use Rattle.std.proofs.Common.{◌∙◌}
use Rattle.match_patterns.proofs.StepLemmas.{whole_is}
use Rattle.match_patterns.proofs.patterns.matches.Goals as goal

pub returns : goal.returns
returns c =
    c.is_here.ensures
    ∙ whole_is c.in_ok-finding.finding c.args.pattern.now.rooted c.as_slice-steps.result.now c.args.pattern.now.steps
    c.args.node.now c.as_slice-steps.ensures c.in_ok-finding.ensures
