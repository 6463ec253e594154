use Rattle.std.proofs.Common.{◌∙◌}
use Rattle.match_patterns.proofs.MemberLemmas.{path_eq}
use Rattle.match_patterns.proofs.steps.same_path.Goals as goal

pub returns : goal.returns
returns c = c.eq.ensures ∙ path_eq c.args.a.now c.args.b.now
