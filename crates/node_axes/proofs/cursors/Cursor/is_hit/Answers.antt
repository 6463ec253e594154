use Rattle.node_axes.specs.Axes.{place_at}
use Rattle.node_axes.specs.Course.{present_at}
use Rattle.node_axes.specs.contracts.cursors.Cursor.{the_view}
use Rattle.node_axes.proofs.CursorLemmas.{hit_view, hit_here, hit_nowhere, passes_spot, present_true, present_false}
use Rattle.node_axes.proofs.cursors.Cursor.is_hit.Goals as goal

pub returns-then-self : goal.returns-then-self
returns-then-self c =
    hit_view c.args.self.now (the_view c.self.inside) c.spot_passes.result c.self.view_is
    (hit_here c.self.inside.axis c.self.inside.test (present_at c.self.inside.here c.self.inside.start c.self.inside.path.items c.self.inside.attribute)
    (place_at c.self.inside.start (c.self.inside.path.items, c.self.inside.attribute)) c.spot_passes.result
    (present_true c.self.inside.here c.self.inside.start c.self.inside.path.items c.self.inside.attribute c.if-self.true)
    (passes_spot c.self.inside.axis c.self.inside.test c.self.inside.start c.tree.result.now c.self.inside.path.items c.as_slice.result.now c.self.inside.attribute c.spot_passes.result c.tree.ensures
    c.as_slice.ensures.value c.spot_passes.ensures))

pub returns-else-self : goal.returns-else-self
returns-else-self c =
    hit_view c.args.self.now (the_view c.self.inside) c.self.inside.here c.self.view_is
    (hit_nowhere c.self.inside.axis c.self.inside.test (present_at c.self.inside.here c.self.inside.start c.self.inside.path.items c.self.inside.attribute) c.self.inside.here
    (present_false c.self.inside.here c.self.inside.start c.self.inside.path.items c.self.inside.attribute c.if-self.false) c.if-self.false)
