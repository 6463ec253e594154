use Rattle.std.proofs.Common.{◌≡◌, true, false, refl}
use Rattle.std.proofs.lemmas.Result.{err_from_is_err_and}
use Rattle.node_builder.specs.Trees.{is_within_limits}
use Rattle.node_builder.proofs.NumberLemmas.{used_up, not_made, too_large, new_root}
use Rattle.node_builder.proofs.builders.Builder.add.Goals as goal

pub returns-then-self : goal.returns-then-self
returns-then-self c = λ o m. used_up _ _ o c.if-self.true refl

pub returns-in_err-tree : goal.returns-in_err-tree
returns-in_err-tree c =
    let p = err_from_is_err_and c.from_residual.result c.from_residual.ensures.1 in
    rw (p.1, p.2) (λ o m. not_made _ _ _ c.args.made o c.if-self.false c.in_err-tree.was refl m)

pub returns-then-not-is_within_limits : goal.returns-then-not-is_within_limits
returns-then-not-is_within_limits c =
    let p : is_within_limits c.in_ok-tree.tree ≡ false = cc (c.is_within_limits.ensures, c.if-not-is_within_limits.true) in
    λ o m. too_large _ _ c.args.made o c.in_ok-tree.tree c.if-self.false c.in_ok-tree.was refl p m

pub returns : goal.returns
returns c =
    let p : is_within_limits c.in_ok-tree.tree ≡ true = cc (c.is_within_limits.ensures, c.if-not-is_within_limits.false) in
    λ o m. new_root _ _ c.args.made o c.in_ok-tree.tree c.in_ok-node.node c.if-self.false c.in_ok-tree.was p c.in_ok-node.ensures refl m
