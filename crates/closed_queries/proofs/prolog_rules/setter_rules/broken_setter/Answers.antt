use Rattle.closed_queries.proofs.PrologRules.LoopLemmas.{turn_of_setters}
use Rattle.closed_queries.proofs.prolog_rules.setter_rules.broken_setter.Goals as goal

pub loop-setter-preserved : goal.loop-setter-preserved
loop-setter-preserved c =
    turn_of_setters c.args.setters.now c.loop-setter.setter-index c.setter-item.result c.loop-setter.seen c.in_ok-seen.seen c.loop-setter.fault c.check_setter-found.result
    c.earlier-fault.result _ c.loop-setter-test.true c.setter-item.is c.check_setter-found.ensures c.earlier-fault.ensures c.in_ok-seen.ensures c.loop-setter.invariant
