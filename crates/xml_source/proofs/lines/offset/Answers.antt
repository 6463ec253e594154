use Rattle.std.proofs.Common.{arith}
use Rattle.xml_source.proofs.LineLemmas.{room_of_text, feed_place, feed_room}
use Rattle.xml_source.proofs.lines.offset.Goals as goal

pub loop-c-init : goal.loop-c-init
loop-c-init c = record {
  place = rw c.new-source.ensures (omega arith);
  room = room_of_text _ _ c.utf8.text c.new-source.ensures;
}

pub loop-c-preserved-then-c-eq10 : goal.loop-c-preserved-then-c-eq10
loop-c-preserved-then-c-eq10 c = record {
  place = feed_place _ _ _ c.in-Some.c _ _ _ c.in-Some.ensures c.if-cr.true c.if-c-eq10.true c.loop-c.invariant.place;
  room = feed_room _ _ c.in-Some.c _ _ c.in-Some.ensures c.if-c-eq10.true c.loop-c.invariant.room;
}
