use Rattle.std.proofs.Common.{◌≡◌, arith, sym, ap, subst, ◌∙◌, IfOk}
use Rattle.xt_tree.proofs.TreeLemmas.{size_within}
use Rattle.xt_tree.specs.Forest.{Forest}
use Rattle.doc_set.specs.WhiteSpace.Flat.{is_flat}
use Rattle.doc_set.proofs.WhiteSpace.StripLemmas.{left_turn, left_made, flat_left}
use Rattle.doc_set.proofs.white_space.stripping.Stripper.+strip.Goals as goal

pub push_kids-push_kid-requires : goal.push_kids-push_kid-requires
push_kids-push_kid-requires t c =
    (omega (arith, c.decreases, size_within c.args.kids.now c.loop-tree.tree-index c.tree-item.result c.loop-tree-test.true c.tree-item.is), tt)

pub push_kids-loop-tree-preserved : goal.push_kids-loop-tree-preserved
push_kids-loop-tree-preserved t c =
    rw c.in_ok-push_kid.ensures (left_turn c.args.self.now.rules.now c.args.kept c.args.drops c.args.kids.now c.loop-tree.out c.loop-tree.tree-index c.tree-item.result c.loop-tree-test.true c.tree-item.is ∙ c.loop-tree.invariant)

pub strip_kids-returns-then-is_flat : goal.strip_kids-returns-then-is_flat
strip_kids-returns-then-is_flat t c =
    let flat = flat_left c.args.self.now.rules.now c.args.kept c.args.drops c.args.kids.now (sym (c.if-is_flat.ensures ∙ ap (is_flat c.args.drops) c.as_slice.ensures.trees)) in
    rw flat c.copy.ensures

pub strip_kids-returns : goal.strip_kids-returns
strip_kids-returns t c =
    let whole = left_made c.args.self.now.rules.now c.args.kept c.args.drops c.args.kids.now c.as_slice-2.result.now c.push_kids.new.out c.new-out.result c.new-out.ensures c.as_slice-2.ensures.forest c.in_ok-push_kids.ensures in
    let P : Forest → Type 0 = λ f. IfOk c.make.result (λ made. made ≡ f) in
    subst P whole c.make.ensures
