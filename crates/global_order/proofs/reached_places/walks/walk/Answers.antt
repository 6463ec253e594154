use Rattle.std.proofs.Common.{rules, length, sym, ◌-◌}
use Rattle.global_order.proofs.ReachedPlaces.WalkLemmas.{turn_taken, walk_ends, walk_begins}
use Rattle.global_order.proofs.reached_places.walks.walk.Goals as goal

pub loop-turn-init : goal.loop-turn-init
loop-turn-init c = walk_begins c.args.graph.now c.args.from c.add.new.self (search (rules, c.in_ok-add.ensures.ok, c.new-found.ensures))

pub returns-in-None : goal.returns-in-None
returns-in-None c = walk_ends (length c.args.graph.now - c.loop-turn.turn) c.loop-turn.turn c.args.graph.now c.loop-turn.found _ (sym c.in-None.ensures) c.loop-turn.invariant

pub loop-turn-preserved : goal.loop-turn-preserved
loop-turn-preserved c =
    turn_taken c.loop-turn.turn c.in-Some.place c.args.graph.now c.loop-turn.found c.add_led_to.new.found _
    c.loop-turn-test.true (sym c.in-Some.ensures) c.in_ok-add_led_to-in-Some.ensures c.loop-turn.invariant
