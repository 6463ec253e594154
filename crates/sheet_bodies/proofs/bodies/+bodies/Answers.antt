use Rattle.std.proofs.Common.{rules, refl, if◌then◌else◌, arith, ◌≡◌, ◌-◌, suc}
use Rattle.expr_names.proofs.Follow.{fault_first}
use Rattle.sheet_table.specs.SheetNodes.Parts.{is_variable}
use Rattle.sheet_bodies.specs.Bodies.{body_faults, body_value, node_faults, node_value}
use Rattle.sheet_bodies.proofs.Rooms.{turn_closed, turn_faults, turn_none, turn_value, left_less, end_faults, end_value}
use Rattle.sheet_bodies.proofs.bodies.+bodies.Goals as goal

pub read_body-returns-then-left-eq0 : goal.read_body-returns-then-left-eq0
read_body-returns-then-left-eq0 g t c =
    let r = g.R.Reader.reads c.args.reader.now in
    rw (turn_closed r c.args.place.now c.args.room c.loop-node.left c.loop-node.node-index c.args.nodes.now c.node-item.result c.loop-node.invariant.faults c.loop-node-test.true c.node-item.is c.if-left-eq0.true)
    (search rules)

pub read_body-returns-in_err-made : goal.read_body-returns-in_err-made
read_body-returns-in_err-made g t c =
    let r = g.R.Reader.reads c.args.reader.now in
    let opened : c.loop-node.left ≡ suc (c.loop-node.left - 1) = omega arith in
    let h = c.in_err-made.ensures (node_faults r (body_faults r (c.loop-node.left - 1)) (body_value r (c.loop-node.left - 1)) c.args.place.now c.node-item.result) (node_value r (body_value r (c.loop-node.left - 1)) c.args.place.now c.node-item.result) c.read_node-one.ensures in
    rw (turn_faults r c.args.place.now c.args.room c.loop-node.left (c.loop-node.left - 1) (if is_variable c.node-item.result then c.loop-node.left - 1 else suc (c.loop-node.left - 1)) c.loop-node.node-index c.args.nodes.now c.node-item.result c.loop-node.invariant.faults c.loop-node-test.true c.node-item.is opened refl)
    (search (rules, fault_first, h))

pub read_body-loop-node-preserved : goal.read_body-loop-node-preserved
read_body-loop-node-preserved g t c =
    let r = g.R.Reader.reads c.args.reader.now in
    let opened : c.loop-node.left ≡ suc (c.loop-node.left - 1) = omega arith in
    let ok = c.in_ok-made.ensures (node_faults r (body_faults r (c.loop-node.left - 1)) (body_value r (c.loop-node.left - 1)) c.args.place.now c.node-item.result) (node_value r (body_value r (c.loop-node.left - 1)) c.args.place.now c.node-item.result) c.read_node-one.ensures in
    record {
      faults = turn_none r c.args.place.now c.args.room c.loop-node.left (c.loop-node.left - 1) c.left_behind-left.result c.loop-node.node-index c.args.nodes.now c.node-item.result c.loop-node.invariant.faults c.loop-node-test.true c.node-item.is opened c.left_behind-left.ensures ok.0;
      value = turn_value r c.args.place.now c.args.room c.loop-node.left (c.loop-node.left - 1) c.left_behind-left.result c.loop-node.node-index c.args.nodes.now c.node-item.result c.loop-node.made c.in_ok-made.made c.loop-node.invariant.value c.loop-node-test.true c.node-item.is opened c.left_behind-left.ensures ok.1;
      left = left_less (is_variable c.node-item.result) (c.loop-node.left - 1) c.left_behind-left.result c.args.room c.left_behind-left.ensures (omega (arith, c.loop-node.invariant.left));
    }

pub read_body-returns : goal.read_body-returns
read_body-returns g t c =
    let r = g.R.Reader.reads c.args.reader.now in (
      end_faults r c.args.place.now c.args.room c.loop-node.left c.loop-node.node-index c.args.nodes.now c.loop-node.invariant.faults c.loop-node-test.false,
      end_value r c.args.place.now c.args.room c.loop-node.left c.loop-node.node-index c.args.nodes.now c.loop-node.made c.loop-node.invariant.value c.loop-node-test.false,
    )
