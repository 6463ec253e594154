use Rattle.std.proofs.Common.{◌≡◌, Option, Result, Ok, Err, IfOk, ap, ◌∙◌}
use Rattle.std.specs.Option.{option_map}
use Rattle.xdm_items.specs.declared.items.Item.{Item}
use Rattle.xdm_items.specs.declared.items.Item.TheVariants.{Node}
use Rattle.xt_tree.specs.Place.{Place}
use Rattle.node_walks.specs.Courses.{is_ahead}
use Rattle.node_walks.specs.Moves.{standing}
use Rattle.node_walks.proofs.CourseLemmas.{on_none, on_node}
use Rattle.node_walks.proofs.axis_walks.AxisWalk.node.Goals as goal

pub returns-in-Before : goal.returns-in-Before
returns-in-Before c = (on_none c.self.inside.stand c.self.inside.cursor c.args.self.now (ap is_ahead c.in-Before.is) c.self.view_is).0

by : {E : Type 0} (r : Result (Option Place) E) (p : Option Place) (y : Option Item) → option_map Node p ≡ y → IfOk r (λ node. node ≡ p) → IfOk r (λ node. option_map Node node ≡ y)
by (Ok node) p y e h = ap (option_map Node) h ∙ e
by (Err f) p y e h = tt

pub returns-in-Ahead : goal.returns-in-Ahead
returns-in-Ahead c =
    let x = on_node c.self.inside.stand c.self.inside.cursor c.args.self.now c.in-Ahead.is (c.self.invariant c.in-Ahead.is) c.self.view_is in
    by c.node.result c.self.inside.cursor.present (standing c.args.self.now) x.0 c.node.ensures

pub returns-in-Ended : goal.returns-in-Ended
returns-in-Ended c = (on_none c.self.inside.stand c.self.inside.cursor c.args.self.now (ap is_ahead c.in-Ended.is) c.self.view_is).0
