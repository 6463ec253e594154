use Rattle.std.proofs.Common.{sym, ◌∙◌, arith}
use Rattle.node_axes.proofs.StepWalks.HitLemmas.{Onto, onto_hit, onto_other, no_hits, stands_nowhere}
use Rattle.node_axes.proofs.step_walks.hits.go_to_hit.Goals as goal

pub returns-then-is_hit-clause-gives : goal.returns-then-is_hit-clause-gives
returns-then-is_hit-clause-gives g c =
    let a = c.advance.ensures in
    let o : Onto c.loop-cursor.cursor c.advance.new.self = record { walk = a.walk; present = sym a.found ∙ c.loop-cursor-test.true; axis = a.axis; test = a.test } in
    (onto_hit c.loop-cursor.cursor c.advance.new.self _ (sym c.loop-cursor.invariant.hits_are) o (sym c.is_hit.ensures ∙ c.if-is_hit.true)).0

pub returns-then-is_hit-clause-steps : goal.returns-then-is_hit-clause-steps
returns-then-is_hit-clause-steps g c =
    let a = c.advance.ensures in
    let o : Onto c.loop-cursor.cursor c.advance.new.self = record { walk = a.walk; present = sym a.found ∙ c.loop-cursor-test.true; axis = a.axis; test = a.test } in
    let x = (onto_hit c.loop-cursor.cursor c.advance.new.self _ (sym c.loop-cursor.invariant.hits_are) o (sym c.is_hit.ensures ∙ c.if-is_hit.true)).1 in
    let y = c.loop-cursor.invariant.steps_are in let z = a.counted in omega arith

pub loop-cursor-preserved : goal.loop-cursor-preserved
loop-cursor-preserved g c =
    let a = c.advance.ensures in
    let o : Onto c.loop-cursor.cursor c.advance.new.self = record { walk = a.walk; present = sym a.found ∙ c.loop-cursor-test.true; axis = a.axis; test = a.test } in
    let x = onto_other c.loop-cursor.cursor c.advance.new.self o (sym c.is_hit.ensures ∙ c.if-is_hit.false) in
    let s = x.1 in let y = c.loop-cursor.invariant.steps_are in let z = a.counted in
    record { hits_are = sym x.0 ∙ c.loop-cursor.invariant.hits_are; steps_are = omega arith }

pub returns-clause-gives : goal.returns-clause-gives
returns-clause-gives g c =
    let a = c.advance.ensures in
    let e = a.end c.loop-cursor-test.false in
    stands_nowhere _ _ _ (sym c.loop-cursor.invariant.hits_are ∙ (no_hits c.loop-cursor.cursor e).0)

pub returns-clause-steps : goal.returns-clause-steps
returns-clause-steps g c =
    let a = c.advance.ensures in
    let e = (no_hits c.loop-cursor.cursor (a.end c.loop-cursor-test.false)).1 in
    let y = c.loop-cursor.invariant.steps_are in let z = a.counted in omega arith
