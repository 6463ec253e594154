use Rattle.std.proofs.Common.{ap, ◌∙◌}
use Rattle.xt_names.specs.declared.names.ExprName.{ExprName}
use Rattle.xdm_items.specs.declared.items.Item.{Item}
use Rattle.node_walks.specs.Moves.{given}
use Rattle.lazy_seq.proofs.MoveLemmas.{given_all}
use Rattle.std.proofs.Common.{List}
use Rattle.plain_eval.proofs.variables.held.Goals as goal

pub returns : goal.returns
returns c =
    let xs = given c.args.value.moves in
    ap (λ (n : ExprName). (n, given c.in_ok-share.field-0.moves)) c.in_ok-copy.ensures
    ∙ ap (λ (ys : List Item). (c.args.name.now, ys)) (ap given c.in_ok-share.ensures ∙ given_all xs)
