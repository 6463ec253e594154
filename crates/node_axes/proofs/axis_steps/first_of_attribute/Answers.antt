use Rattle.std.proofs.Common.{None, Some, refl, sym, ◌∙◌}
use Rattle.xt_types.specs.declared.axes.Axis.TheVariants.{Child, Descendant, Attribute, FollowingSibling, Following, Parent, Ancestor, PrecedingSibling, Preceding}
use Rattle.node_axes.specs.Moves.{every}
use Rattle.node_axes.proofs.DownLemmas.{attribute_follows_first, attribute_follows_none, precedes_first, precedes_none}
use Rattle.node_axes.proofs.UpLemmas.{owner_first, owner_ancestor_first}
use Rattle.node_axes.proofs.TopLemmas.{attribute_none, child_none_of, below_none_of, right_none_of, left_none_of}
use Rattle.node_axes.proofs.AnyLemmas.{at_lands, at_ends, backs_at, none_back_at, same_not_later}
use Rattle.node_axes.proofs.axis_steps.first_of_attribute.Goals as goal

pub go_back-requires-clause-clear : goal.go_back-requires-clause-clear
go_back-requires-clause-clear c = same_not_later c.args.path.now.items c.path.result.now (c.requires.at ∙ sym c.path.ensures)

pub returns-in-Following-clause-yes : goal.returns-in-Following-clause-yes
returns-in-Following-clause-yes c = λ e.
    at_lands c.args.axis Following c.args.start.now.tree c.tree.result.now c.args.start.now.path c.args.path.now.items c.args.start.now.attribute (Some c.args.place) every (c.go_on.new.path.items, None) c.in-Following.is c.tree.ensures c.requires.at c.requires.place
    (attribute_follows_first c.tree.result.now c.args.path.now.items c.go_on.new.path.items c.args.place (c.go_on.ensures.yes e))

pub returns-in-Following-clause-no : goal.returns-in-Following-clause-no
returns-in-Following-clause-no c = λ e.
    at_ends c.args.axis Following c.args.start.now.tree c.tree.result.now c.args.start.now.path c.args.path.now.items c.args.start.now.attribute (Some c.args.place) every c.in-Following.is c.tree.ensures c.requires.at c.requires.place
    (attribute_follows_none c.tree.result.now c.args.path.now.items c.args.place (c.go_on.ensures.no e))

pub returns-in-Preceding-clause-yes : goal.returns-in-Preceding-clause-yes
returns-in-Preceding-clause-yes c = λ e.
    at_lands c.args.axis Preceding c.args.start.now.tree c.tree-in-Preceding.result.now c.args.start.now.path c.args.path.now.items c.args.start.now.attribute (Some c.args.place) every (c.go_back.new.path.items, None) c.in-Preceding.is c.tree-in-Preceding.ensures c.requires.at c.requires.place
    (precedes_first c.tree-in-Preceding.result.now c.args.path.now.items c.go_back.new.path.items (Some c.args.place) (backs_at c.tree-in-Preceding.result.now c.path.result.now c.args.path.now.items c.args.path.now.items c.go_back.new.path.items (c.path.ensures ∙ sym c.requires.at) (c.go_back.ensures.yes e)))

pub returns-in-Preceding-clause-no : goal.returns-in-Preceding-clause-no
returns-in-Preceding-clause-no c = λ e.
    at_ends c.args.axis Preceding c.args.start.now.tree c.tree-in-Preceding.result.now c.args.start.now.path c.args.path.now.items c.args.start.now.attribute (Some c.args.place) every c.in-Preceding.is c.tree-in-Preceding.ensures c.requires.at c.requires.place
    (precedes_none c.tree-in-Preceding.result.now c.args.path.now.items (Some c.args.place) (none_back_at c.tree-in-Preceding.result.now c.path.result.now c.args.path.now.items c.args.path.now.items (c.path.ensures ∙ sym c.requires.at) (c.go_back.ensures.no e)))

pub returns-in-Parent-clause-yes : goal.returns-in-Parent-clause-yes
returns-in-Parent-clause-yes c = λ _.
    at_lands c.args.axis Parent c.args.start.now.tree c.args.start.now.tree c.args.start.now.path c.args.path.now.items c.args.start.now.attribute (Some c.args.place) every (c.args.path.now.items, None) c.in-Parent.is refl c.requires.at c.requires.place
    (owner_first c.args.start.now.tree c.args.path.now.items c.args.place c.requires.exists)

pub returns-in-Ancestor-clause-yes : goal.returns-in-Ancestor-clause-yes
returns-in-Ancestor-clause-yes c = λ _.
    at_lands c.args.axis Ancestor c.args.start.now.tree c.args.start.now.tree c.args.start.now.path c.args.path.now.items c.args.start.now.attribute (Some c.args.place) every (c.args.path.now.items, None) c.in-Ancestor.is refl c.requires.at c.requires.place
    (owner_ancestor_first c.args.start.now.tree c.args.path.now.items c.args.place c.requires.exists)

pub returns-in-Child-clause-no : goal.returns-in-Child-clause-no
returns-in-Child-clause-no c = λ _.
    at_ends c.args.axis Child c.args.start.now.tree c.args.start.now.tree c.args.start.now.path c.args.path.now.items c.args.start.now.attribute (Some c.args.place) every c.in-Child.is refl c.requires.at c.requires.place
    (child_none_of c.args.start.now.tree c.args.path.now.items c.args.place every)

pub returns-in-Descendant-clause-no : goal.returns-in-Descendant-clause-no
returns-in-Descendant-clause-no c = λ _.
    at_ends c.args.axis Descendant c.args.start.now.tree c.args.start.now.tree c.args.start.now.path c.args.path.now.items c.args.start.now.attribute (Some c.args.place) every c.in-Descendant.is refl c.requires.at c.requires.place
    (below_none_of c.args.start.now.tree c.args.path.now.items c.args.place every)

pub returns-in-FollowingSibling-clause-no : goal.returns-in-FollowingSibling-clause-no
returns-in-FollowingSibling-clause-no c = λ _.
    at_ends c.args.axis FollowingSibling c.args.start.now.tree c.args.start.now.tree c.args.start.now.path c.args.path.now.items c.args.start.now.attribute (Some c.args.place) every c.in-FollowingSibling.is refl c.requires.at c.requires.place
    (right_none_of c.args.start.now.tree c.args.path.now.items c.args.place every)

pub returns-in-PrecedingSibling-clause-no : goal.returns-in-PrecedingSibling-clause-no
returns-in-PrecedingSibling-clause-no c = λ _.
    at_ends c.args.axis PrecedingSibling c.args.start.now.tree c.args.start.now.tree c.args.start.now.path c.args.path.now.items c.args.start.now.attribute (Some c.args.place) every c.in-PrecedingSibling.is refl c.requires.at c.requires.place
    (left_none_of c.args.start.now.tree c.args.path.now.items c.args.place every)

pub returns-in-Attribute-clause-no : goal.returns-in-Attribute-clause-no
returns-in-Attribute-clause-no c = λ _.
    at_ends c.args.axis Attribute c.args.start.now.tree c.args.start.now.tree c.args.start.now.path c.args.path.now.items c.args.start.now.attribute (Some c.args.place) every c.in-Attribute.is refl c.requires.at c.requires.place
    (attribute_none c.args.start.now.tree c.args.path.now.items c.args.place every)
