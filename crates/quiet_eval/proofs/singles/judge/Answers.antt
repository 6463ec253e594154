use Rattle.std.proofs.Common.{◌∙◌}
use Rattle.quiet_eval.proofs.CaseLemmas.{integer_keeps, some_nodes, alone_nodes}
use Rattle.quiet_eval.proofs.singles.judge.Goals as goal
use Rattle.quiet_eval.specs.QuietPlaces.Free.{focus}

pub returns-in-Int : goal.returns-in-Int
returns-in-Int c = c.integer_compares.ensures ∙ integer_keeps c.args.e.now c.in-Int.k (focus c.args.node.now c.args.position c.args.size) c.in-Int.is

pub returns-in_default : goal.returns-in_default
returns-in_default c =
    some_nodes _ _ _ c.is_empty.ensures c.requires.nodes
    ∙ alone_nodes c.args.e.now (focus c.args.node.now c.args.position c.args.size) c.in_default.not-Int c.in_default.not-General c.in_default.not-Call c.requires.junction c.requires.form
