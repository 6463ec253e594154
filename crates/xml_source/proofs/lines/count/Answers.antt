use Rattle.std.proofs.Common.{ap, length, arith}
use Rattle.xml_source.proofs.LineLemmas.{fewer_characters}
use Rattle.xml_source.proofs.lines.count.Goals as goal

pub loop-c-init : goal.loop-c-init
loop-c-init c = record {
  all = let size = ap length c.new-source.ensures in omega arith;
  room = fewer_characters _ c.utf8.text;
}

pub loop-c-preserved : goal.loop-c-preserved
loop-c-preserved c = record {
  all = let size = ap length c.in-Some.ensures in omega (arith, c.loop-c.invariant.all);
  room = c.loop-c.invariant.room;
}
