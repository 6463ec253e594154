use Rattle.std.proofs.Common.{◌≡◌, ◌+◌, ◌-◌, arith}
use Rattle.node_axes.proofs.MoveLemmas.{lefts}
use Rattle.node_axes.proofs.moves.go_left.Goals as goal

pub returns-else-place-eq0-clause-yes : goal.returns-else-place-eq0-clause-yes
returns-else-place-eq0-clause-yes c = λ _.
    let e : c.in-Some.place ≡ c.in-Some.place - 1 + 1 = omega arith in
    lefts c.args.tree.now c.args.path.now.items c.pop.new.self.items c.push.new.path.items c.in-Some.place (c.in-Some.place - 1) c.requires.exists c.in-Some.ensures.items e
    c.push.ensures.items
