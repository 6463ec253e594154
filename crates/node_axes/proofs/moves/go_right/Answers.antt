use Rattle.std.proofs.Common.{◌≡◌, ◌<◌, ◌+◌, ◌++◌, ◌∷◌, [], ap, arith}
use Rattle.node_axes.specs.Moves.{count_at}
use Rattle.node_axes.proofs.MoveLemmas.{rights}
use Rattle.node_axes.proofs.moves.go_right.Goals as goal

pub returns-in-Some-next_place-clause-yes : goal.returns-in-Some-next_place-clause-yes
returns-in-Some-next_place-clause-yes c = λ _.
    let h = c.in-Some-next_place.ensures in
    let k = ap (count_at c.args.tree.now) c.as_slice.ensures.value in
    let l : c.in-Some.place + 1 < count_at c.args.tree.now c.pop.new.self.items = omega arith in
    let e : c.push.new.path.items ≡ c.pop.new.self.items ++ (c.in-Some.place + 1) ∷ [] = cc in
    rights c.args.tree.now c.args.path.now.items c.pop.new.self.items c.push.new.path.items c.in-Some.place c.in-Some.ensures.items l e
