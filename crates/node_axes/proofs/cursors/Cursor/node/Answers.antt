use Rattle.std.proofs.Common.{sym, ◌∙◌}
use Rattle.node_axes.specs.contracts.cursors.Cursor.{the_view}
use Rattle.node_axes.proofs.CursorLemmas.{present_view, present_true, present_false, node_is, place_is}
use Rattle.node_axes.proofs.cursors.Cursor.node.Goals as goal

pub returns-then-not-self : goal.returns-then-not-self
returns-then-not-self c =
    sym (present_view c.args.self.now (the_view c.self.inside) c.self.view_is
    ∙ present_false c.self.inside.here c.self.inside.start c.self.inside.path.items c.self.inside.attribute c.if-not-self.true)

pub returns : goal.returns
returns c =
    node_is c.in_ok-node.node c.args.self.now.present c.self.inside.start
    (record { number = c.number.result; tree = c.in_ok-copy.field-0; path = c.as_slice.result.now; attribute = c.self.inside.attribute })
    c.self.inside.path.items c.self.inside.attribute
    (place_is c.self.inside.start c.number.result c.in_ok-copy.field-0 c.self.inside.path.items c.as_slice.result.now c.self.inside.attribute c.number.ensures
    (c.in_ok-copy.ensures ∙ c.tree.ensures) c.as_slice.ensures.value)
    (c.self.invariant.exists c.if-not-self.false)
    (present_view c.args.self.now (the_view c.self.inside) c.self.view_is
    ∙ present_true c.self.inside.here c.self.inside.start c.self.inside.path.items c.self.inside.attribute c.if-not-self.false)
    c.in_ok-node.ensures
