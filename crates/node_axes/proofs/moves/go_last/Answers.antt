use Rattle.std.proofs.Common.{◌<◌, ◌-◌, ◌∷◌, [], length, ap, ◌∙◌, arith, length-append}
use Rattle.node_axes.specs.Moves.{count_at}
use Rattle.node_axes.proofs.MoveLemmas.{has_room}
use Rattle.node_axes.proofs.LoopLemmas.{sink_more}
use Rattle.node_axes.proofs.moves.go_last.Goals as goal

pub push-requires : goal.push-requires
push-requires c =
    let l : 0 < count_at c.args.tree.now c.loop-count.path.items = omega (arith, c.loop-count.invariant.counted, c.loop-count-test.true) in
    let r = has_room c.args.tree.now c.loop-count.path.items 0 l in omega (arith, c.loop-count.invariant.room, c.requires.room)

pub loop-count-smaller : goal.loop-count-smaller
loop-count-smaller c =
    let l : 0 < count_at c.args.tree.now c.loop-count.path.items = omega (arith, c.loop-count.invariant.counted, c.loop-count-test.true) in
    let r = has_room c.args.tree.now c.loop-count.path.items 0 l in
    let e = ap length c.push.ensures.items ∙ length-append c.loop-count.path.items ((c.loop-count.count - 1) ∷ []) in omega arith

pub loop-count-preserved : goal.loop-count-preserved
loop-count-preserved c = record {
  sinks = sink_more c.args.tree.now c.args.path.now.items c.loop-count.path.items c.push.new.path.items c.loop-count.count c.loop-count.invariant.sinks c.loop-count.invariant.counted
      (omega arith) c.push.ensures.items;
  counted = c.child_count-count-in-loop-count.ensures ∙ ap (count_at c.args.tree.now) c.as_slice-in-loop-count.ensures.value;
  room = omega (arith, c.loop-count.invariant.room, c.push.ensures.room);
}
