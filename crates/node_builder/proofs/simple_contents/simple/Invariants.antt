use Rattle.std.proofs.Common.{◌≡◌, drop}
use Rattle.std.specs.Str.{chars}
use Rattle.node_builder.specs.Line.{line, no_line, with_each}
use Rattle.node_builder.proofs.simple_contents.simple.Given as goal

abbrev pub invariant-loop-item : goal.invariant-loop-item
invariant-loop-item l = with_each (chars l.separator) (line l.builder) (drop l.item-index l.items) ≡ with_each (chars l.separator) no_line l.items
