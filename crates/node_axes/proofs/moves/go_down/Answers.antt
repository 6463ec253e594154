use Rattle.std.proofs.Common.{◌≡◌, ◌<◌, arith}
use Rattle.node_axes.specs.Moves.{count_at}
use Rattle.node_axes.proofs.MoveLemmas.{downs, has_room}
use Rattle.node_axes.proofs.moves.go_down.Goals as goal

pub push-requires : goal.push-requires
push-requires c =
    let e : c.child_count.result ≡ count_at c.args.tree.now c.args.path.now.items = cc in
    let l : 0 < count_at c.args.tree.now c.args.path.now.items = omega arith in
    let r = has_room c.args.tree.now c.args.path.now.items 0 l in omega arith

pub returns-clause-yes : goal.returns-clause-yes
returns-clause-yes c = λ _.
    let e : c.child_count.result ≡ count_at c.args.tree.now c.args.path.now.items = cc in
    let l : 0 < count_at c.args.tree.now c.args.path.now.items = omega arith in
    downs c.args.tree.now c.args.path.now.items c.push.new.path.items l c.push.ensures.items
