use Rattle.closed_queries.proofs.PrologRules.LoopLemmas.{turn_of_declarations}
use Rattle.closed_queries.proofs.prolog_rules.query_rules.check_declarations.Goals as goal

pub loop-declaration-preserved : goal.loop-declaration-preserved
loop-declaration-preserved c =
    turn_of_declarations c.args.functions.now c.args.body.now c.args.declarations.now c.loop-declaration.declaration-index c.declaration-item.result
    c.loop-declaration.scope c.in_ok-scope-2.scope c.loop-declaration.declared c.in_ok-declared.declared c.loop-declaration.fault c.in_ok-found.found
    c.earlier-fault.result _ c.loop-declaration-test.true c.declaration-item.is c.in_ok-found.ensures c.earlier-fault.ensures c.in_ok-scope-2.ensures
    c.in_ok-declared.ensures c.loop-declaration.invariant
