use Rattle.std.proofs.Common.{ap}
use Rattle.node_walks.specs.Courses.{is_ahead}
use Rattle.node_walks.proofs.CourseLemmas.{on_none, on_node}
use Rattle.node_walks.proofs.axis_walks.AxisWalk.pass.Goals as goal

pub returns-in-Before : goal.returns-in-Before
returns-in-Before c = (on_none c.self.inside.stand c.self.inside.cursor c.args.self.now (ap is_ahead c.in-Before.is) c.self.view_is).1

pub returns-in-Ahead : goal.returns-in-Ahead
returns-in-Ahead c = (on_node c.self.inside.stand c.self.inside.cursor c.args.self.now c.in-Ahead.is (c.self.invariant c.in-Ahead.is) c.self.view_is).1

pub returns-in-Ended : goal.returns-in-Ended
returns-in-Ended c = (on_none c.self.inside.stand c.self.inside.cursor c.args.self.now (ap is_ahead c.in-Ended.is) c.self.view_is).1
