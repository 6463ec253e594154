use Rattle.std.proofs.Common.{List, subst}
use Rattle.expr_names.specs.Answers.{Answers}
use Rattle.sheet_table.specs.declared.sheet_nodes.nodes.Node.{Node}
use Rattle.module_loading.specs.ModuleReader.Modules.{nodes_faults, nodes_value}
use Rattle.loaded_sheets.specs.LoadedParts.Parts.{all_faults, all_values}
use Rattle.loaded_sheets.proofs.LoadedParts.Made.{turn_faults, turn_value}
use Rattle.loaded_sheets.proofs.loaded_parts.parts.read_all.Goals as goal

pub loop-left-preserved : goal.loop-left-preserved
loop-left-preserved g c =
    let reads = g.R.Reader.reads c.args.reader.now in
    let modes = c.args.modes.now in
    let called = c.args.called.now in
    let answers = subst (λ (m : List Node). Answers c.read_parts-parts.result
    (nodes_faults reads modes called m) (nodes_value reads modes called m))
    c.as_slice.ensures c.read_parts-parts.ensures in
    record {
      faults = turn_faults reads modes called c.nodes-item.result c.loop-left.left.now
          (all_faults reads modes called c.args.modules.now)
          c.read_parts-parts.result c.loop-left.all c.in_ok-all.all c.in-len1-up.len_at_least
          c.nodes-item.is answers c.in_ok-all.ensures c.loop-left.invariant.faults;
      value = turn_value reads modes called c.nodes-item.result c.loop-left.left.now
          (all_values reads modes called c.args.modules.now)
          c.read_parts-parts.result c.loop-left.all c.in_ok-all.all c.in-len1-up.len_at_least
          c.nodes-item.is answers c.in_ok-all.ensures c.loop-left.invariant.value;
    }
