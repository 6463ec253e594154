use Rattle.std.proofs.Common.{◌≡◌, ◌+◌, ◌≤◌, ◌<◌, length, [], true, false, Ok, sym, ap, ◌∙◌, refl, arith}
use Rattle.quiet_eval.specs.QuietMeaning.Paths.{keeps}
use Rattle.node_walks.specs.Quiet.{IsFound, IsOn}
use Rattle.node_walks.specs.Sift.{sifted_moves, quiet_moves}
use Rattle.node_walks.proofs.SiftLemmas.{on_settle, on_from, on_then, found_from, nothing_left, kept_first}
use Rattle.node_walks.proofs.SiftLemmas.{no_longer, on_err, stays_sifted}
use Rattle.node_walks.proofs.quiet_walks.seek.Goals as goal

pub returns-then-branch-clause-found : goal.returns-then-branch-clause-found
returns-then-branch-clause-found g c = λ _.
    let i = c.loop-walk.invariant in
    let start = sifted_moves (keeps c.args.sieve.now.tests) c.args.sieve.now.seen.items c.args.walk.now in
    let here = sifted_moves (keeps c.loop-walk.sieve.tests) c.loop-walk.sieve.seen.items c.loop-walk.walk in
    let there = sifted_moves (keeps c.loop-walk.sieve.tests) c.loop-walk.sieve.seen.items c.settle.new.self in
    let first : IsOn c.args.steps.now c.loop-walk.steps start here = record { rest = i.rest; steps = i.counted } in
    let o = on_then c.args.steps.now c.loop-walk.steps c.settle.new.steps start here there first
    (on_settle (keeps c.loop-walk.sieve.tests) c.loop-walk.sieve.seen.items c.loop-walk.walk c.settle.new.self c.loop-walk.steps c.settle.new.steps c.settle.ensures.moves c.settle.ensures.steps) in
    let new = quiet_moves true (keeps c.turn.new.sieve.tests) c.turn.new.sieve.seen.items c.turn.new.walk in
    let f = kept_first (keeps c.turn.new.sieve.tests) c.turn.new.sieve.seen.items c.turn.new.walk (c.in_ok-turn.ensures.stands (ap Ok c.if-branch.true)) in
    found_from c.args.steps.now c.settle.new.steps start new
    (on_from c.args.steps.now c.settle.new.steps start there new (c.in_ok-turn.ensures.kept (ap Ok c.if-branch.true)) o) f.0 f.2

pub returns-in_err-turn-clause-err : goal.returns-in_err-turn-clause-err
returns-in_err-turn-clause-err g c =
    let i = c.loop-walk.invariant in
    let start = sifted_moves (keeps c.args.sieve.now.tests) c.args.sieve.now.seen.items c.args.walk.now in
    let here = sifted_moves (keeps c.loop-walk.sieve.tests) c.loop-walk.sieve.seen.items c.loop-walk.walk in
    let there = sifted_moves (keeps c.loop-walk.sieve.tests) c.loop-walk.sieve.seen.items c.settle.new.self in
    let first : IsOn c.args.steps.now c.loop-walk.steps start here = record { rest = i.rest; steps = i.counted } in
    let o = on_then c.args.steps.now c.loop-walk.steps c.settle.new.steps start here there first
    (on_settle (keeps c.loop-walk.sieve.tests) c.loop-walk.sieve.seen.items c.loop-walk.walk c.settle.new.self c.loop-walk.steps c.settle.new.steps c.settle.ensures.moves c.settle.ensures.steps) in
    let new = sifted_moves (keeps c.turn.new.sieve.tests) c.turn.new.sieve.seen.items c.turn.new.walk in
    on_err c.from_residual.result _ (on_from c.args.steps.now c.settle.new.steps start there new
    (stays_sifted c.loop-walk.sieve.tests c.turn.new.sieve.tests c.loop-walk.sieve.seen.items c.turn.new.sieve.seen.items c.settle.new.self c.turn.new.walk
    c.turn.ensures.tests c.in_err-turn.ensures.err_seen c.in_err-turn.ensures.err) o)

pub loop-walk-preserved : goal.loop-walk-preserved
loop-walk-preserved g c =
    let i = c.loop-walk.invariant in
    let start = sifted_moves (keeps c.args.sieve.now.tests) c.args.sieve.now.seen.items c.args.walk.now in
    let here = sifted_moves (keeps c.loop-walk.sieve.tests) c.loop-walk.sieve.seen.items c.loop-walk.walk in
    let there = sifted_moves (keeps c.loop-walk.sieve.tests) c.loop-walk.sieve.seen.items c.settle.new.self in
    let first : IsOn c.args.steps.now c.loop-walk.steps start here = record { rest = i.rest; steps = i.counted } in
    let o = on_then c.args.steps.now c.loop-walk.steps c.settle.new.steps start here there first
    (on_settle (keeps c.loop-walk.sieve.tests) c.loop-walk.sieve.seen.items c.loop-walk.walk c.settle.new.self c.loop-walk.steps c.settle.new.steps c.settle.ensures.moves c.settle.ensures.steps) in
    let new = sifted_moves (keeps c.turn.new.sieve.tests) c.turn.new.sieve.seen.items c.turn.new.walk in
    let p = on_from c.args.steps.now c.settle.new.steps start there new (c.in_ok-turn.ensures.left (ap Ok c.if-branch.false)) o in
    let l = i.on in let m = c.settle.ensures.on in
    record { rest = p.rest; counted = p.steps; on = omega arith; tests = c.turn.ensures.tests ∙ i.tests; sieve = c.turn.ensures.sieve }

pub loop-walk-smaller : goal.loop-walk-smaller
loop-walk-smaller g c =
    let a : length c.turn.new.walk < length c.settle.new.self = c.in_ok-turn.ensures.less (ap Ok c.if-branch.false) in
    let b = no_longer c.loop-walk.walk in
    let d = ap length c.settle.ensures.moves in omega arith

pub returns-clause-none : goal.returns-clause-none
returns-clause-none g c = λ _.
    let i = c.loop-walk.invariant in
    let start = sifted_moves (keeps c.args.sieve.now.tests) c.args.sieve.now.seen.items c.args.walk.now in
    let here = sifted_moves (keeps c.loop-walk.sieve.tests) c.loop-walk.sieve.seen.items c.loop-walk.walk in
    let there = sifted_moves (keeps c.loop-walk.sieve.tests) c.loop-walk.sieve.seen.items c.settle.new.self in
    let first : IsOn c.args.steps.now c.loop-walk.steps start here = record { rest = i.rest; steps = i.counted } in
    let o = on_then c.args.steps.now c.loop-walk.steps c.settle.new.steps start here there first
    (on_settle (keeps c.loop-walk.sieve.tests) c.loop-walk.sieve.seen.items c.loop-walk.walk c.settle.new.self c.loop-walk.steps c.settle.new.steps c.settle.ensures.moves c.settle.ensures.steps) in
    let n = nothing_left c.loop-walk.walk c.settle.new.self c.settle.ensures.moves (sym c.settle.ensures.found ∙ c.loop-walk-test.false) in
    found_from c.args.steps.now c.settle.new.steps start []
    (on_from c.args.steps.now c.settle.new.steps start there [] (sym (ap (sifted_moves (keeps c.loop-walk.sieve.tests) c.loop-walk.sieve.seen.items) n)) o) refl refl

pub returns-clause-end : goal.returns-clause-end
returns-clause-end g c = λ _. nothing_left c.loop-walk.walk c.settle.new.self c.settle.ensures.moves (sym c.settle.ensures.found ∙ c.loop-walk-test.false)
