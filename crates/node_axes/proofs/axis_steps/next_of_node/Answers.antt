use Rattle.std.proofs.Common.{refl, ap, length}
use Rattle.xt_types.specs.declared.axes.Axis.TheVariants.{Child, Descendant, Attribute, Itself, DescendantOrSelf, FollowingSibling, Following, Parent, Ancestor, PrecedingSibling, Preceding, AncestorOrSelf}
use Rattle.node_axes.proofs.DownLemmas.{follows_next, follows_end, precedes_next, precedes_end, precedes_clear}
use Rattle.node_axes.proofs.UpLemmas.{itself_end, parent_end, ancestor_next, ancestor_end}
use Rattle.node_axes.proofs.TopLemmas.{top_next, top_end}
use Rattle.node_axes.proofs.AnyLemmas.{any_child_next, any_child_end, any_right_next, any_right_end, any_left_next, any_left_end, any_below_next, any_below_end, any_with_next, any_with_end, below_base, with_base, next_as, end_as, on_as, base_skips, base_behind, backs_at, none_back_at, clear_at, no_plain_attribute, base_at}
use Rattle.node_axes.proofs.axis_steps.next_of_node.Goals as goal

pub go_on-requires-clause-base : goal.go_on-requires-clause-base
go_on-requires-clause-base c =
    base_at _ _ _ c.path.ensures (below_base _ _ (on_as _ _ _ _ c.in-Descendant.is c.requires.on))

pub go_on-requires-in-DescendantOrSelf-clause-base : goal.go_on-requires-in-DescendantOrSelf-clause-base
go_on-requires-in-DescendantOrSelf-clause-base c =
    base_at _ _ _ c.path-in-DescendantOrSelf.ensures
    (with_base _ _ (on_as _ _ _ _ c.in-DescendantOrSelf.is c.requires.on))

pub go_back-requires-clause-clear : goal.go_back-requires-clause-clear
go_back-requires-clause-clear c =
    clear_at _ _ _ c.path-in-Preceding.ensures
    (precedes_clear _ _ _ (on_as _ _ _ _ c.in-Preceding.is c.requires.on))

pub returns-in-Child-clause-yes : goal.returns-in-Child-clause-yes
returns-in-Child-clause-yes c = λ e.
    next_as _ Child _ _ _ _ _ c.in-Child.is c.tree-tree.ensures c.requires.on
    (λ o. any_child_next _ _ _ _ o (c.go_right.ensures.yes e))

pub returns-in-Child-clause-no : goal.returns-in-Child-clause-no
returns-in-Child-clause-no c = λ e.
    end_as _ Child _ _ _ _ c.in-Child.is c.tree-tree.ensures c.requires.on
    (λ o. any_child_end _ _ _ o (c.go_right.ensures.no e))

pub returns-in-FollowingSibling-clause-yes : goal.returns-in-FollowingSibling-clause-yes
returns-in-FollowingSibling-clause-yes c = λ e.
    next_as _ FollowingSibling _ _ _ _ _ c.in-FollowingSibling.is c.tree-tree.ensures c.requires.on
    (λ o. any_right_next _ _ _ _ o (c.go_right-in-FollowingSibling.ensures.yes e))

pub returns-in-FollowingSibling-clause-no : goal.returns-in-FollowingSibling-clause-no
returns-in-FollowingSibling-clause-no c = λ e.
    end_as _ FollowingSibling _ _ _ _ c.in-FollowingSibling.is c.tree-tree.ensures c.requires.on
    (λ o. any_right_end _ _ _ o (c.go_right-in-FollowingSibling.ensures.no e))

pub returns-in-PrecedingSibling-clause-yes : goal.returns-in-PrecedingSibling-clause-yes
returns-in-PrecedingSibling-clause-yes c = λ e.
    next_as _ PrecedingSibling _ _ _ _ _ c.in-PrecedingSibling.is c.tree-tree.ensures c.requires.on
    (λ o. any_left_next _ _ _ _ o (c.go_left.ensures.yes e))

pub returns-in-PrecedingSibling-clause-no : goal.returns-in-PrecedingSibling-clause-no
returns-in-PrecedingSibling-clause-no c = λ e.
    end_as _ PrecedingSibling _ _ _ _ c.in-PrecedingSibling.is c.tree-tree.ensures c.requires.on
    (λ o. any_left_end _ _ _ o (c.go_left.ensures.no e))

pub returns-in-Descendant-clause-yes : goal.returns-in-Descendant-clause-yes
returns-in-Descendant-clause-yes c = λ e.
    next_as _ Descendant _ _ _ _ _ c.in-Descendant.is c.tree-tree.ensures c.requires.on
    (λ o. any_below_next _ _ _ _ o
    (base_skips _ _ _ _ _ (ap length c.path.ensures) (c.go_on.ensures.yes e)))

pub returns-in-Descendant-clause-no : goal.returns-in-Descendant-clause-no
returns-in-Descendant-clause-no c = λ e.
    end_as _ Descendant _ _ _ _ c.in-Descendant.is c.tree-tree.ensures c.requires.on
    (λ o. any_below_end _ _ _ o
    (base_behind _ _ _ _ (ap length c.path.ensures) (c.go_on.ensures.no e)))

pub returns-in-DescendantOrSelf-clause-yes : goal.returns-in-DescendantOrSelf-clause-yes
returns-in-DescendantOrSelf-clause-yes c = λ e.
    next_as _ DescendantOrSelf _ _ _ _ _ c.in-DescendantOrSelf.is c.tree-tree.ensures c.requires.on
    (λ o. any_with_next _ _ _ _ o
    (base_skips _ _ _ _ _ (ap length c.path-in-DescendantOrSelf.ensures)
    (c.go_on-in-DescendantOrSelf.ensures.yes e)))

pub returns-in-DescendantOrSelf-clause-no : goal.returns-in-DescendantOrSelf-clause-no
returns-in-DescendantOrSelf-clause-no c = λ e.
    end_as _ DescendantOrSelf _ _ _ _ c.in-DescendantOrSelf.is c.tree-tree.ensures c.requires.on
    (λ o. any_with_end _ _ _ o
    (base_behind _ _ _ _ (ap length c.path-in-DescendantOrSelf.ensures)
    (c.go_on-in-DescendantOrSelf.ensures.no e)))

pub returns-in-Following-clause-yes : goal.returns-in-Following-clause-yes
returns-in-Following-clause-yes c = λ e.
    next_as _ Following _ _ _ _ _ c.in-Following.is c.tree-tree.ensures c.requires.on
    (λ o. follows_next _ _ _ _ o (c.go_on-in-Following.ensures.yes e))

pub returns-in-Following-clause-no : goal.returns-in-Following-clause-no
returns-in-Following-clause-no c = λ e.
    end_as _ Following _ _ _ _ c.in-Following.is c.tree-tree.ensures c.requires.on
    (λ _. follows_end _ _ _ (c.go_on-in-Following.ensures.no e))

pub returns-in-Preceding-clause-yes : goal.returns-in-Preceding-clause-yes
returns-in-Preceding-clause-yes c = λ e.
    next_as _ Preceding _ _ _ _ _ c.in-Preceding.is c.tree-tree.ensures c.requires.on
    (λ _. precedes_next _ _ _ _ _
    (backs_at _ _ _ _ _ c.path-in-Preceding.ensures (c.go_back.ensures.yes e)))

pub returns-in-Preceding-clause-no : goal.returns-in-Preceding-clause-no
returns-in-Preceding-clause-no c = λ e.
    end_as _ Preceding _ _ _ _ c.in-Preceding.is c.tree-tree.ensures c.requires.on
    (λ _. precedes_end _ _ _ _
    (none_back_at _ _ _ _ c.path-in-Preceding.ensures (c.go_back.ensures.no e)))

pub returns-in-Ancestor-clause-yes : goal.returns-in-Ancestor-clause-yes
returns-in-Ancestor-clause-yes c = λ e.
    next_as _ Ancestor _ _ _ _ _ c.in-Ancestor.is c.tree-tree.ensures c.requires.on
    (λ o. ancestor_next _ _ _ _ _ o (c.go_up.ensures.yes e))

pub returns-in-Ancestor-clause-no : goal.returns-in-Ancestor-clause-no
returns-in-Ancestor-clause-no c = λ e.
    end_as _ Ancestor _ _ _ _ c.in-Ancestor.is c.tree-tree.ensures c.requires.on
    (λ _. ancestor_end _ _ _ _ (c.go_up.ensures.no e))

pub returns-in-AncestorOrSelf-clause-yes : goal.returns-in-AncestorOrSelf-clause-yes
returns-in-AncestorOrSelf-clause-yes c = λ e.
    next_as _ AncestorOrSelf _ _ _ _ _ c.in-AncestorOrSelf.is c.tree-tree.ensures c.requires.on
    (λ o. top_next _ _ _ _ _ o (c.go_up-in-AncestorOrSelf.ensures.yes e))

pub returns-in-AncestorOrSelf-clause-no : goal.returns-in-AncestorOrSelf-clause-no
returns-in-AncestorOrSelf-clause-no c = λ e.
    end_as _ AncestorOrSelf _ _ _ _ c.in-AncestorOrSelf.is c.tree-tree.ensures c.requires.on
    (λ o. top_end _ _ _ _ o (c.go_up-in-AncestorOrSelf.ensures.no e))

pub returns-in-Itself-clause-no : goal.returns-in-Itself-clause-no
returns-in-Itself-clause-no c = λ _.
    end_as _ Itself _ _ _ _ c.in-Itself.is refl c.requires.on (λ o. itself_end _ _ _ o)

pub returns-in-Parent-clause-no : goal.returns-in-Parent-clause-no
returns-in-Parent-clause-no c = λ _.
    end_as _ Parent _ _ _ _ c.in-Parent.is refl c.requires.on (λ o. parent_end _ _ _ o)

pub returns-in-Attribute-clause-no : goal.returns-in-Attribute-clause-no
returns-in-Attribute-clause-no c = λ _.
    end_as _ Attribute _ _ _ _ c.in-Attribute.is refl c.requires.on
    (λ o. no_plain_attribute _ _ _ o)
