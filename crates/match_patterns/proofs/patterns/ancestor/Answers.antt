use Rattle.std.proofs.Common.{take, ap, ◌∙◌}
use Rattle.match_patterns.proofs.AboveLemmas.{ancestor_made, there_of_kind}
use Rattle.match_patterns.proofs.patterns.ancestor.Goals as goal

pub returns : goal.returns
returns c =
    ancestor_made c.in_ok-above.above c.args.node.now c.args.depth c.number.result c.in_ok-tree.tree
    (take c.args.depth c.path.result.now) c.number.ensures (c.in_ok-tree.ensures ∙ c.tree.ensures)
    (ap (λ xs. take c.args.depth xs) c.path.ensures)
    (there_of_kind c.args.node.now c.kind-kind.result c.kind-kind.ensures) c.in_ok-above.ensures
