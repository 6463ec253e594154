use Rattle.module_loading.proofs.ModuleReader.Turns.{turn_faults, turn_value}
use Rattle.module_loading.proofs.module_reader.modules.tops.Goals as goal

pub loop-left-preserved : goal.loop-left-preserved
loop-left-preserved g c = record {
  faults = turn_faults (g.R.Reader.reads c.args.reader.now) c.args.place.now c.loop-left.late
      c.is_late-late.result c.node-item.result c.loop-left.left.now c.args.nodes.now
      c.placed_part-one.result c.loop-left.made c.in_ok-made.made c.in-len1-up.len_at_least
      c.node-item.is c.is_late-late.ensures c.placed_part-one.ensures c.in_ok-made.ensures
      c.loop-left.invariant.faults;
  value = turn_value (g.R.Reader.reads c.args.reader.now) c.args.place.now c.loop-left.late
      c.node-item.result c.loop-left.left.now c.args.nodes.now
      c.placed_part-one.result c.loop-left.made c.in_ok-made.made c.in-len1-up.len_at_least
      c.node-item.is c.placed_part-one.ensures c.in_ok-made.ensures
      c.loop-left.invariant.value;
}
