use Rattle.std.proofs.Common.{None, refl, sym, ◌∙◌}
use Rattle.xt_types.specs.declared.axes.Axis.TheVariants.{Child, Descendant, Itself, DescendantOrSelf, FollowingSibling, Following, Parent, Ancestor, PrecedingSibling, Preceding, AncestorOrSelf}
use Rattle.node_axes.specs.Moves.{every}
use Rattle.node_axes.proofs.LandLemmas.{child_first, child_none, sibling_first, sibling_none}
use Rattle.node_axes.proofs.DownLemmas.{left_first, left_none, below_first, below_none, follows_first, follows_none, precedes_first, precedes_none}
use Rattle.node_axes.proofs.UpLemmas.{itself_first, parent_first, parent_none, ancestor_first, ancestor_none, with_first}
use Rattle.node_axes.proofs.TopLemmas.{top_first}
use Rattle.node_axes.proofs.AnyLemmas.{at_lands, at_ends, backs_at, none_back_at, same_not_later, plain_spot}
use Rattle.node_axes.proofs.axis_steps.first_of_node.Goals as goal

pub go_back-requires-clause-clear : goal.go_back-requires-clause-clear
go_back-requires-clause-clear c = same_not_later c.args.path.now.items c.path.result.now (c.requires.at ∙ sym c.path.ensures)

pub returns-in-Child-clause-yes : goal.returns-in-Child-clause-yes
returns-in-Child-clause-yes c = λ e.
    at_lands c.args.axis Child c.args.start.now.tree c.tree-tree.result.now c.args.start.now.path c.args.path.now.items c.args.start.now.attribute None every (c.go_down.new.path.items, None) c.in-Child.is c.tree-tree.ensures c.requires.at c.requires.plain
    (child_first c.tree-tree.result.now c.args.path.now.items c.go_down.new.path.items (c.go_down.ensures.yes e))

pub returns-in-Child-clause-no : goal.returns-in-Child-clause-no
returns-in-Child-clause-no c = λ e.
    at_ends c.args.axis Child c.args.start.now.tree c.tree-tree.result.now c.args.start.now.path c.args.path.now.items c.args.start.now.attribute None every c.in-Child.is c.tree-tree.ensures c.requires.at c.requires.plain
    (child_none c.tree-tree.result.now c.args.path.now.items (c.go_down.ensures.no e))

pub returns-in-Descendant-clause-yes : goal.returns-in-Descendant-clause-yes
returns-in-Descendant-clause-yes c = λ e.
    at_lands c.args.axis Descendant c.args.start.now.tree c.tree-tree.result.now c.args.start.now.path c.args.path.now.items c.args.start.now.attribute None every (c.go_down-in-Descendant.new.path.items, None) c.in-Descendant.is c.tree-tree.ensures c.requires.at c.requires.plain
    (below_first c.tree-tree.result.now c.args.path.now.items c.go_down-in-Descendant.new.path.items (c.go_down-in-Descendant.ensures.yes e))

pub returns-in-Descendant-clause-no : goal.returns-in-Descendant-clause-no
returns-in-Descendant-clause-no c = λ e.
    at_ends c.args.axis Descendant c.args.start.now.tree c.tree-tree.result.now c.args.start.now.path c.args.path.now.items c.args.start.now.attribute None every c.in-Descendant.is c.tree-tree.ensures c.requires.at c.requires.plain
    (below_none c.tree-tree.result.now c.args.path.now.items (c.go_down-in-Descendant.ensures.no e))

pub returns-in-FollowingSibling-clause-yes : goal.returns-in-FollowingSibling-clause-yes
returns-in-FollowingSibling-clause-yes c = λ e.
    at_lands c.args.axis FollowingSibling c.args.start.now.tree c.tree-tree.result.now c.args.start.now.path c.args.path.now.items c.args.start.now.attribute None every (c.go_right.new.path.items, None) c.in-FollowingSibling.is c.tree-tree.ensures c.requires.at c.requires.plain
    (sibling_first c.tree-tree.result.now c.args.path.now.items c.go_right.new.path.items (c.go_right.ensures.yes e))

pub returns-in-FollowingSibling-clause-no : goal.returns-in-FollowingSibling-clause-no
returns-in-FollowingSibling-clause-no c = λ e.
    at_ends c.args.axis FollowingSibling c.args.start.now.tree c.tree-tree.result.now c.args.start.now.path c.args.path.now.items c.args.start.now.attribute None every c.in-FollowingSibling.is c.tree-tree.ensures c.requires.at c.requires.plain
    (sibling_none c.tree-tree.result.now c.args.path.now.items (c.go_right.ensures.no e))

pub returns-in-PrecedingSibling-clause-yes : goal.returns-in-PrecedingSibling-clause-yes
returns-in-PrecedingSibling-clause-yes c = λ e.
    at_lands c.args.axis PrecedingSibling c.args.start.now.tree c.tree-tree.result.now c.args.start.now.path c.args.path.now.items c.args.start.now.attribute None every (c.go_left.new.path.items, None) c.in-PrecedingSibling.is c.tree-tree.ensures c.requires.at c.requires.plain
    (left_first c.tree-tree.result.now c.args.path.now.items c.go_left.new.path.items (c.go_left.ensures.yes e))

pub returns-in-PrecedingSibling-clause-no : goal.returns-in-PrecedingSibling-clause-no
returns-in-PrecedingSibling-clause-no c = λ e.
    at_ends c.args.axis PrecedingSibling c.args.start.now.tree c.tree-tree.result.now c.args.start.now.path c.args.path.now.items c.args.start.now.attribute None every c.in-PrecedingSibling.is c.tree-tree.ensures c.requires.at c.requires.plain
    (left_none c.tree-tree.result.now c.args.path.now.items (c.go_left.ensures.no e))

pub returns-in-Following-clause-yes : goal.returns-in-Following-clause-yes
returns-in-Following-clause-yes c = λ e.
    at_lands c.args.axis Following c.args.start.now.tree c.tree-tree.result.now c.args.start.now.path c.args.path.now.items c.args.start.now.attribute None every (c.skip.new.path.items, None) c.in-Following.is c.tree-tree.ensures c.requires.at c.requires.plain
    (follows_first c.tree-tree.result.now c.args.path.now.items c.skip.new.path.items (c.skip.ensures.yes e))

pub returns-in-Following-clause-no : goal.returns-in-Following-clause-no
returns-in-Following-clause-no c = λ e.
    at_ends c.args.axis Following c.args.start.now.tree c.tree-tree.result.now c.args.start.now.path c.args.path.now.items c.args.start.now.attribute None every c.in-Following.is c.tree-tree.ensures c.requires.at c.requires.plain
    (follows_none c.tree-tree.result.now c.args.path.now.items (c.skip.ensures.no e))

pub returns-in-Parent-clause-yes : goal.returns-in-Parent-clause-yes
returns-in-Parent-clause-yes c = λ e.
    at_lands c.args.axis Parent c.args.start.now.tree c.tree-tree.result.now c.args.start.now.path c.args.path.now.items c.args.start.now.attribute None every (c.go_up.new.path.items, None) c.in-Parent.is c.tree-tree.ensures c.requires.at c.requires.plain
    (parent_first c.tree-tree.result.now c.args.path.now.items c.go_up.new.path.items (c.go_up.ensures.yes e))

pub returns-in-Parent-clause-no : goal.returns-in-Parent-clause-no
returns-in-Parent-clause-no c = λ e.
    at_ends c.args.axis Parent c.args.start.now.tree c.tree-tree.result.now c.args.start.now.path c.args.path.now.items c.args.start.now.attribute None every c.in-Parent.is c.tree-tree.ensures c.requires.at c.requires.plain
    (parent_none c.tree-tree.result.now c.args.path.now.items (c.go_up.ensures.no e))

pub returns-in-Ancestor-clause-yes : goal.returns-in-Ancestor-clause-yes
returns-in-Ancestor-clause-yes c = λ e.
    at_lands c.args.axis Ancestor c.args.start.now.tree c.tree-tree.result.now c.args.start.now.path c.args.path.now.items c.args.start.now.attribute None every (c.go_up-in-Ancestor.new.path.items, None) c.in-Ancestor.is c.tree-tree.ensures c.requires.at c.requires.plain
    (ancestor_first c.tree-tree.result.now c.args.path.now.items c.go_up-in-Ancestor.new.path.items (c.go_up-in-Ancestor.ensures.yes e))

pub returns-in-Ancestor-clause-no : goal.returns-in-Ancestor-clause-no
returns-in-Ancestor-clause-no c = λ e.
    at_ends c.args.axis Ancestor c.args.start.now.tree c.tree-tree.result.now c.args.start.now.path c.args.path.now.items c.args.start.now.attribute None every c.in-Ancestor.is c.tree-tree.ensures c.requires.at c.requires.plain
    (ancestor_none c.tree-tree.result.now c.args.path.now.items (c.go_up-in-Ancestor.ensures.no e))

pub returns-in-Preceding-clause-yes : goal.returns-in-Preceding-clause-yes
returns-in-Preceding-clause-yes c = λ e.
    at_lands c.args.axis Preceding c.args.start.now.tree c.tree-tree.result.now c.args.start.now.path c.args.path.now.items c.args.start.now.attribute None every (c.go_back.new.path.items, None) c.in-Preceding.is c.tree-tree.ensures c.requires.at c.requires.plain
    (precedes_first c.tree-tree.result.now c.args.path.now.items c.go_back.new.path.items None (backs_at c.tree-tree.result.now c.path.result.now c.args.path.now.items c.args.path.now.items c.go_back.new.path.items (c.path.ensures ∙ sym c.requires.at) (c.go_back.ensures.yes e)))

pub returns-in-Preceding-clause-no : goal.returns-in-Preceding-clause-no
returns-in-Preceding-clause-no c = λ e.
    at_ends c.args.axis Preceding c.args.start.now.tree c.tree-tree.result.now c.args.start.now.path c.args.path.now.items c.args.start.now.attribute None every c.in-Preceding.is c.tree-tree.ensures c.requires.at c.requires.plain
    (precedes_none c.tree-tree.result.now c.args.path.now.items None (none_back_at c.tree-tree.result.now c.path.result.now c.args.path.now.items c.args.path.now.items (c.path.ensures ∙ sym c.requires.at) (c.go_back.ensures.no e)))

pub returns-in-Itself-clause-yes : goal.returns-in-Itself-clause-yes
returns-in-Itself-clause-yes c = λ _.
    at_lands c.args.axis Itself c.args.start.now.tree c.args.start.now.tree c.args.start.now.path c.args.path.now.items c.args.start.now.attribute None every (c.args.path.now.items, None) c.in-Itself.is refl c.requires.at c.requires.plain
    (itself_first c.args.start.now.tree (c.args.path.now.items, None) (plain_spot c.args.start.now.tree c.args.path.now.items c.requires.exists))

pub returns-in-DescendantOrSelf-clause-yes : goal.returns-in-DescendantOrSelf-clause-yes
returns-in-DescendantOrSelf-clause-yes c = λ _.
    at_lands c.args.axis DescendantOrSelf c.args.start.now.tree c.args.start.now.tree c.args.start.now.path c.args.path.now.items c.args.start.now.attribute None every (c.args.path.now.items, None) c.in-DescendantOrSelf.is refl c.requires.at c.requires.plain
    (with_first c.args.start.now.tree (c.args.path.now.items, None) (plain_spot c.args.start.now.tree c.args.path.now.items c.requires.exists))

pub returns-in-AncestorOrSelf-clause-yes : goal.returns-in-AncestorOrSelf-clause-yes
returns-in-AncestorOrSelf-clause-yes c = λ _.
    at_lands c.args.axis AncestorOrSelf c.args.start.now.tree c.args.start.now.tree c.args.start.now.path c.args.path.now.items c.args.start.now.attribute None every (c.args.path.now.items, None) c.in-AncestorOrSelf.is refl c.requires.at c.requires.plain
    (top_first c.args.start.now.tree (c.args.path.now.items, None) (plain_spot c.args.start.now.tree c.args.path.now.items c.requires.exists))
