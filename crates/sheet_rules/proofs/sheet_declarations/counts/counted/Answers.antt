use Rattle.std.proofs.Common.{arith, ◌≡◌, ◌+◌, ◌-◌, ◌<◌, ◌∙◌, ap, ℕ, drop, length}
use Rattle.sheet_rules.specs.SheetDeclarations.Counts.{counted_of, seen_of}
use Rattle.sheet_rules.proofs.SheetDeclarations.SeenLemmas.{seen_turn_at}
use Rattle.sheet_rules.proofs.sheet_declarations.counts.counted.Goals as goal

pub loop-left-preserved : goal.loop-left-preserved
loop-left-preserved g c =
    let test = c.loop-left-test.true in
    let within = c.loop-left.invariant.within in
    let next : c.loop-left.left ≡ c.loop-left.left - 1 + 1 = omega arith in
    let less : c.loop-left.left - 1 < length c.args.declarations.now = omega arith in
    let turn = seen_turn_at c.args.declarations.now (c.loop-left.left - 1) c.index-declarations-left.result
    c.index-declarations-left.result
    c.loop-left.seen _ c.in_ok-new.new c.loop-left.marks.items _
    less c.index-declarations-left.is c.index-declarations-left.is
    (c.loop-left.invariant.seen_is ∙ ap (λ (n : ℕ). seen_of (drop n c.args.declarations.now)) next)
    (c.loop-left.invariant.marks_are ∙ ap (λ (n : ℕ). counted_of (drop n c.args.declarations.now)) next)
    c.in_ok-new.ensures.new c.in_ok-new.ensures.seen c.in_ok-push.ensures.items in
    record { within = omega arith; seen_is = turn.0; marks_are = turn.1 }
