use Rattle.std.proofs.Common.{sym, ap, ◌∙◌, arith}
use Rattle.node_walks.specs.Courses.{moves_to_come}
use Rattle.node_walks.specs.Moves.{settled, steps_before}
use Rattle.node_walks.proofs.CourseLemmas.{onto_hit, onto_other, no_more}
use Rattle.node_walks.proofs.CourseLemmas.{settled_on, no_steps}
use Rattle.node_walks.proofs.axis_walks.go_to_hit.Goals as goal
use Rattle.node_axes.proofs.StepWalks.HitLemmas.{Onto}

pub returns-then-is_hit-clause-hit : goal.returns-then-is_hit-clause-hit
returns-then-is_hit-clause-hit g c = λ _.
    let a = c.advance.ensures in
    let s = sym a.found ∙ c.loop-cursor-test.true in
    let o : Onto c.loop-cursor.cursor c.advance.new.self = record { walk = a.walk; present = s; axis = a.axis; test = a.test } in
    sym c.loop-cursor.invariant.left ∙ ap settled (onto_hit c.loop-cursor.cursor c.advance.new.self o (sym c.is_hit.ensures ∙ c.if-is_hit.true))
    ∙ sym (settled_on c.advance.new.self.present _ s)

pub returns-then-is_hit-clause-steps : goal.returns-then-is_hit-clause-steps
returns-then-is_hit-clause-steps g c =
    let a = c.advance.ensures in
    let s = sym a.found ∙ c.loop-cursor-test.true in
    let o : Onto c.loop-cursor.cursor c.advance.new.self = record { walk = a.walk; present = s; axis = a.axis; test = a.test } in
    let x = ap steps_before (onto_hit c.loop-cursor.cursor c.advance.new.self o (sym c.is_hit.ensures ∙ c.if-is_hit.true)) in
    let z = no_steps c.advance.new.self.present (moves_to_come c.advance.new.self) s in
    let y = c.loop-cursor.invariant.counted in let w = a.counted in omega arith

pub loop-cursor-preserved : goal.loop-cursor-preserved
loop-cursor-preserved g c =
    let a = c.advance.ensures in
    let o : Onto c.loop-cursor.cursor c.advance.new.self = record { walk = a.walk; present = sym a.found ∙ c.loop-cursor-test.true; axis = a.axis; test = a.test } in
    let x = onto_other c.loop-cursor.cursor c.advance.new.self o (sym c.is_hit.ensures ∙ c.if-is_hit.false) in
    let s = ap steps_before x.0 in let y = c.loop-cursor.invariant.counted in let z = a.counted in
    record { left = sym (ap settled x.0) ∙ c.loop-cursor.invariant.left; counted = omega arith }

pub returns-clause-none : goal.returns-clause-none
returns-clause-none g c = λ _.
    sym c.loop-cursor.invariant.left ∙ ap settled (no_more c.loop-cursor.cursor (c.advance.ensures.end c.loop-cursor-test.false))

pub returns-clause-steps : goal.returns-clause-steps
returns-clause-steps g c =
    let a = c.advance.ensures in
    let e = ap steps_before (no_more c.loop-cursor.cursor (a.end c.loop-cursor-test.false)) in
    let y = c.loop-cursor.invariant.counted in let z = a.counted in omega arith
