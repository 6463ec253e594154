use Rattle.node_axes.proofs.CourseLemmas.{walk_here, walk_over, walk_begin}
use Rattle.node_axes.proofs.axis_steps.move_on.Goals as goal

pub returns-then-here-clause-walk : goal.returns-then-here-clause-walk
returns-then-here-clause-walk c =
    walk_here c.args.axis c.args.start.now c.args.begun c.args.here c.next.result c.args.path.now.items c.next.new.path.items c.args.attribute.now c.next.new.attribute c.requires.ahead c.if-here.true
    c.next.ensures.yes c.next.ensures.no

pub returns-then-begun-clause-walk : goal.returns-then-begun-clause-walk
returns-then-begun-clause-walk c = walk_over c.args.axis c.args.start.now c.args.begun c.args.here c.args.path.now.items c.args.attribute.now c.if-begun.true c.if-here.false

pub returns-else-begun-clause-walk : goal.returns-else-begun-clause-walk
returns-else-begun-clause-walk c =
    walk_begin c.args.axis c.args.start.now c.args.begun c.args.here c.first.result c.args.path.now.items c.first.new.path.items c.args.attribute.now c.first.new.attribute c.if-begun.false c.if-here.false
    c.first.ensures.yes c.first.ensures.no
