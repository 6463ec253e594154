use Rattle.std.specs.Str.{chars}
use Rattle.node_builder.specs.Line.{line}
use Rattle.node_builder.proofs.LineLemmas.{line_done}
use Rattle.node_builder.proofs.simple_contents.simple.Goals as goal

pub returns : goal.returns
returns c =
    line_done (chars c.args.separator.now) (line c.loop-item.builder) c.args.items.now _ _ c.finish.result c.loop-item.invariant c.as_slice-item-items.ensures c.loop-item-test.false c.finish.ensures
