use Rattle.std.proofs.Common.{ℕ, ◌<◌, ◌≤◌, ◌+◌, length, drop, rules, sym, ap, ◌∙◌, arith}
use Rattle.node_walks.proofs.SieveLemmas.{allowed_at, count_off, count_more, none_on}
use Rattle.node_walks.proofs.sieves.count_kept.Goals as goal

pub offset_bounds-seen-place : goal.offset_bounds-seen-place
offset_bounds-seen-place c =
    let l : c.loop-test.test-index < length c.args.tests.now = omega arith in
    let e = c.requires.counted in let p = c.loop-test.invariant.place in omega arith

pub holds-requires : goal.holds-requires
holds-requires c = allowed_at c.args.tests.now c.loop-test.test-index c.test-item.result c.loop-test-test.true c.test-item.is c.requires.allowed

pub returns-then-not-branch-clause-count : goal.returns-then-not-branch-clause-count
returns-then-not-branch-clause-count c =
    let i = c.loop-test.invariant in
    count_off c.args.tests.now c.args.seen.now c.args.node.now c.loop-test.test-index c.loop-test.place c.test-item.result c.in_ok-holds.field-0 _ i.place c.loop-test-test.true c.requires.counted c.test-item.is c.in_ok-holds.ensures
    c.if-not-branch.true i.counted

pub loop-test-preserved : goal.loop-test-preserved
loop-test-preserved c =
    let i = c.loop-test.invariant in
    record {
      place = ap (λ (k : ℕ). k + 1) i.place;
      counted = count_more c.args.tests.now c.args.seen.now c.args.node.now c.loop-test.test-index c.loop-test.place c.test-item.result c.in_ok-holds.field-0 _ i.place c.loop-test-test.true c.requires.counted c.test-item.is c.in_ok-holds.ensures
          c.if-not-branch.false i.counted;
      fits = search rules;
    }

pub returns-clause-count : goal.returns-clause-count
returns-clause-count c =
    let e = none_on c.args.tests.now (drop c.loop-test.test-index c.args.seen.now) c.args.node.now c.loop-test.test-index (omega arith) in
    let i = c.loop-test.invariant.counted in omega arith
