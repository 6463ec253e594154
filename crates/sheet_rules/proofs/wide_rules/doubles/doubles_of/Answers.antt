use Rattle.std.proofs.Common.{arith, ◌≡◌, ◌+◌, ◌-◌, ◌<◌, ◌∙◌, ap, ℕ, drop, length}
use Rattle.sheet_rules.specs.WideRules.Doubles.{doubles_of, seen_of}
use Rattle.sheet_rules.proofs.WideRules.DoubleLemmas.{double_turn_at}
use Rattle.sheet_rules.proofs.wide_rules.doubles.doubles_of.Goals as goal

pub loop-left-preserved : goal.loop-left-preserved
loop-left-preserved g c =
    let test = c.loop-left-test.true in
    let within = c.loop-left.invariant.within in
    let next : c.loop-left.left ≡ c.loop-left.left - 1 + 1 = omega arith in
    let less : c.loop-left.left - 1 < length c.args.declarations.now = omega arith in
    let turn = double_turn_at c.args.declarations.now (c.loop-left.left - 1) c.index-declarations-left.result
    c.index-declarations-left.result
    c.loop-left.seen c.see.new.seen c.loop-left.doubles c.in_ok-doubles.doubles
    less c.index-declarations-left.is c.index-declarations-left.is
    (c.loop-left.invariant.seen_is ∙ ap (λ (n : ℕ). seen_of (drop n c.args.declarations.now)) next)
    (c.loop-left.invariant.twice_is ∙ ap (λ (n : ℕ). doubles_of (drop n c.args.declarations.now)) next)
    c.in_ok-doubles.ensures.doubles c.in_ok-doubles.ensures.seen in
    record { within = omega arith; seen_is = turn.0; twice_is = turn.1 }

pub returns : goal.returns
returns g c =
    let test = c.loop-left-test.false in
    let none : c.loop-left.left ≡ 0 = omega arith in
    c.loop-left.invariant.twice_is ∙ ap (λ (n : ℕ). doubles_of (drop n c.args.declarations.now)) none
