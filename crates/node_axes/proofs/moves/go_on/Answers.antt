use Rattle.node_axes.proofs.LoopLemmas.{on_down, on_skip_from, on_end_from}
use Rattle.node_axes.proofs.moves.go_on.Goals as goal

pub returns-then-go_down-clause-yes : goal.returns-then-go_down-clause-yes
returns-then-go_down-clause-yes c = λ _.
    on_down c.args.tree.now c.args.base c.args.path.now.items c.go_down.new.path.items c.requires.base (c.go_down.ensures.yes c.if-go_down.true)

pub returns-clause-yes : goal.returns-clause-yes
returns-clause-yes c = λ e.
    on_skip_from c.args.tree.now c.args.base c.args.path.now.items c.go_down.new.path.items c.skip.new.path.items (c.go_down.ensures.stays c.if-go_down.false)
    (c.go_down.ensures.no c.if-go_down.false) (c.skip.ensures.yes e)

pub returns-clause-no : goal.returns-clause-no
returns-clause-no c = λ e.
    on_end_from c.args.tree.now c.args.base c.args.path.now.items c.go_down.new.path.items (c.go_down.ensures.stays c.if-go_down.false)
    (c.go_down.ensures.no c.if-go_down.false) (c.skip.ensures.no e)
