use Rattle.std.proofs.Common.{sym, ◌∙◌}
use Rattle.xpath_lex.proofs.PartLemmas.{Alone, eat_first, first_of, prefix_taken, bars_none, double_taken, alone_at_end, alone_before, single_taken, single_none}
use Rattle.xpath_lex.proofs.scans.Scan.take_mark.Goals.{in_default-via-in-Some-2+else-is_double, in_default-via-in_default}
use Rattle.xpath_lex.proofs.scans.Scan.take_mark.Goals as goal

pub returns-then-take_behind_star : goal.returns-then-take_behind_star
returns-then-take_behind_star c =
    let ts = eat_first _ c.args.c _ _ _ c.eat-taken.ensures c.requires.first.1 in
    prefix_taken c.args.c _ _ _ c.requires.first.1 c.requires.mark c.if-take_behind_star.ensures.0 (rw ts at c.if-take_behind_star.ensures.1)

pub returns-in-Some : goal.returns-in-Some
returns-in-Some c =
    let ts = c.if-take_behind_star.ensures.0 ∙ eat_first _ c.args.c _ _ _ c.eat-taken.ensures c.requires.first.1 in
    let next = first_of c.requires.first.0 c.in-Some.d _ (rw ts at c.peek.ensures) c.in-Some.is in
    bars_none c.args.c c.in-Some.d _ _ _ c.requires.first.1 next.1 (sym c.bars.ensures ∙ c.if-bars.true)

pub returns-in-Some-2 : goal.returns-in-Some-2
returns-in-Some-2 c =
    let ts = c.if-take_behind_star.ensures.0 ∙ eat_first _ c.args.c _ _ _ c.eat-taken.ensures c.requires.first.1 in
    let next = first_of c.requires.first.0 c.in-Some.d _ (rw ts at c.peek.ensures) c.in-Some.is in
    let second = eat_first _ c.in-Some.d _ _ _ c.eat-second.ensures (ts ∙ next.1) in
    double_taken c.args.c c.in-Some.d _ _ _ c.requires.first.1 (rw second next.1) c.requires.mark (sym c.bars.ensures ∙ c.if-bars.false) (sym c.is_double.ensures ∙ c.if-is_double.true)

pub returns-in_default : goal.returns-in_default
returns-in_default c =
    let ts = c.if-take_behind_star.ensures.0 ∙ eat_first _ c.args.c _ _ _ c.eat-taken.ensures c.requires.first.1 in
    let behind = eat_first _ c.args.c _ _ _ c.eat-taken.ensures c.requires.first.1 in
    let alone : Alone c.args.c c.requires.first.0 = elim c.in_default.branch [
      | in_default-via-in-Some-2+else-is_double w ↦ alone_before c.args.c w.in-Some.d _ _ _ _ (rw ts at c.peek.ensures) w.in-Some.is w.bars.ensures w.if-bars.false w.is_double.ensures w.if-is_double.false
      | in_default-via-in_default w ↦ alone_at_end c.args.c _ _ (rw ts at c.peek.ensures) w.in_default.not-Some
    ] in
    single_taken c.args.c _ _ _ c.requires.first.1 ts c.requires.mark alone (rw behind at c.if-take_behind_star.ensures.1) (sym c.is_single.ensures ∙ c.if-is_single.true)

pub returns-in_default-2 : goal.returns-in_default-2
returns-in_default-2 c =
    let ts = c.if-take_behind_star.ensures.0 ∙ eat_first _ c.args.c _ _ _ c.eat-taken.ensures c.requires.first.1 in
    let behind = eat_first _ c.args.c _ _ _ c.eat-taken.ensures c.requires.first.1 in
    let alone : Alone c.args.c c.requires.first.0 = elim c.in_default.branch [
      | in_default-via-in-Some-2+else-is_double w ↦ alone_before c.args.c w.in-Some.d _ _ _ _ (rw ts at c.peek.ensures) w.in-Some.is w.bars.ensures w.if-bars.false w.is_double.ensures w.if-is_double.false
      | in_default-via-in_default w ↦ alone_at_end c.args.c _ _ (rw ts at c.peek.ensures) w.in_default.not-Some
    ] in
    single_none c.args.c _ _ c.requires.first.1 c.requires.mark alone (rw behind at c.if-take_behind_star.ensures.1) (sym c.is_single.ensures ∙ c.if-is_single.false)
