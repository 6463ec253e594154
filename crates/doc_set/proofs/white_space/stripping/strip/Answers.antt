use Rattle.std.proofs.Common.{IfOk, length, subst, ◌≡◌, ◌<◌}
use Rattle.doc_set.proofs.WhiteSpace.StripNothing.{whole_below}
use Rattle.doc_set.proofs.white_space.stripping.strip.Goals as goal

pub returns-in-empty : goal.returns-in-empty
returns-in-empty c =
    let none : length c.args.rules.now < 1 = subst (λ rs. length rs < 1) c.as_slice.ensures c.in-empty.len_below in
    subst (λ t. IfOk c.copy.result (λ made. made ≡ t)) (whole_below c.args.rules.now c.args.tree.now none) c.copy.ensures
