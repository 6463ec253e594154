use Rattle.std.proofs.Common.{sym, ◌∙◌, arith}
use Rattle.node_walks.proofs.CourseLemmas.{stays}
use Rattle.node_walks.proofs.axis_walks.settle.Goals as goal

pub returns-in-Ahead-clause-moves : goal.returns-in-Ahead-clause-moves
returns-in-Ahead-clause-moves g c = (stays c.args.stand c.args.cursor.now c.in-Ahead.is (c.requires c.in-Ahead.is)).0

pub returns-in-Ahead-clause-found : goal.returns-in-Ahead-clause-found
returns-in-Ahead-clause-found g c = (stays c.args.stand c.args.cursor.now c.in-Ahead.is (c.requires c.in-Ahead.is)).1

pub returns-in-Ahead-clause-steps : goal.returns-in-Ahead-clause-steps
returns-in-Ahead-clause-steps g c =
    let x = (stays c.args.stand c.args.cursor.now c.in-Ahead.is (c.requires c.in-Ahead.is)).2 in omega arith
