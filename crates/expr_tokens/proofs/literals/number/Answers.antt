use Rattle.std.proofs.Common.{sym, ap, ◌∙◌, arith, Some, w64}
use Rattle.std.proofs.lemmas.Int.{to_z_pos}
use Rattle.xt_names.proofs.MarkLemmas.{map_same}
use Rattle.std.proofs.lemmas.Iterator.{YieldsList-from_chars}
use Rattle.std.proofs.lemmas.Iterator.Consumers.{YieldsList-end}
use Rattle.expr_tokens.proofs.NumberLemmas.{counts_more, number_some, number_none}
use Rattle.expr_tokens.proofs.literals.number.Goals as goal

pub loop-c-preserved-then-value-le-GREATEST : goal.loop-c-preserved-then-value-le-GREATEST
loop-c-preserved-then-value-le-GREATEST c = counts_more _ _ c.loop-c.yielded c.in-Some.c c.loop-c.invariant (omega arith) c.digit.ensures.value c.digit.ensures.small

pub returns-then-value-le-GREATEST-2 : goal.returns-then-value-le-GREATEST-2
returns-then-value-le-GREATEST-2 c =
    let t = YieldsList-end (YieldsList-from_chars c.args.digits.now c.utf8.digits cc) c.loop-c.yielded _ c.loop-c.yielded_by _ _ c.in-None.is c.next.ensures.steps in
    ap Some (to_z_pos w64 c.loop-c.value (omega arith)) ∙ number_some _ c.loop-c.yielded _ c.loop-c.invariant (omega arith) (sym (map_same c.loop-c.yielded) ∙ t.0)

pub returns-else-value-le-GREATEST-2 : goal.returns-else-value-le-GREATEST-2
returns-else-value-le-GREATEST-2 c =
    let t = YieldsList-end (YieldsList-from_chars c.args.digits.now c.utf8.digits cc) c.loop-c.yielded _ c.loop-c.yielded_by _ _ c.in-None.is c.next.ensures.steps in
    number_none _ c.loop-c.yielded _ c.loop-c.invariant (omega arith) (sym (map_same c.loop-c.yielded) ∙ t.0)
