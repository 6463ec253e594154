use Rattle.std.proofs.Common.{◌≡◌, ◌++◌, take, drop}
use Rattle.sheet_table.specs.SheetNodes.Parts.{is_lead, leading, behind}
use Rattle.sheet_table.proofs.sheet_nodes.parts.count_front.Given as goal

abbrev pub invariant-loop-i : goal.invariant-loop-i
invariant-loop-i l = record {
  front : take l.i l.nodes ++ leading (is_lead l.content) (drop l.i l.nodes) ≡ leading (is_lead l.content) l.nodes;
  rest : behind (is_lead l.content) (drop l.i l.nodes) ≡ behind (is_lead l.content) l.nodes;
}
