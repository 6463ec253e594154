use Rattle.std.proofs.Common.{sym, ap, ◌∙◌, arith}
use Rattle.xt_names.proofs.MarkLemmas.{map_same}
use Rattle.std.proofs.lemmas.Iterator.{YieldsList-from_chars}
use Rattle.std.proofs.lemmas.Iterator.Consumers.{YieldsList-end}
use Rattle.query_pieces.specs.References.{value}
use Rattle.query_pieces.proofs.NumberLemmas.{counts_begin, counts_more, counts_past}
use Rattle.query_pieces.proofs.references.value.Goals as goal

pub loop-c-init : goal.loop-c-init
loop-c-init c = counts_begin c.args.base

pub loop-c-preserved-then-value-le-LAST : goal.loop-c-preserved-then-value-le-LAST
loop-c-preserved-then-value-le-LAST c = counts_more c.args.base _ _ _ c.loop-c.yielded c.in-Some.c
    c.loop-c.invariant (omega arith) c.size.ensures.value c.size.ensures.small
    c.digit.ensures.value c.digit.ensures.small

pub loop-c-preserved : goal.loop-c-preserved
loop-c-preserved c = counts_past c.args.base _ c.loop-c.yielded c.in-Some.c c.loop-c.invariant
    (omega arith)

pub returns-then-value-le-LAST-2 : goal.returns-then-value-le-LAST-2
returns-then-value-le-LAST-2 c =
    let t = YieldsList-end (YieldsList-from_chars c.args.digits.now c.utf8.digits cc)
    c.loop-c.yielded _ c.loop-c.yielded_by _ _ c.in-None.is c.next.ensures.steps in
    c.loop-c.invariant.exact (omega arith)
    ∙ ap (value c.args.base 0) (sym (map_same c.loop-c.yielded) ∙ t.0)

pub returns-else-value-le-LAST-2 : goal.returns-else-value-le-LAST-2
returns-else-value-le-LAST-2 c =
    let t = YieldsList-end (YieldsList-from_chars c.args.digits.now c.utf8.digits cc)
    c.loop-c.yielded _ c.loop-c.yielded_by _ _ c.in-None.is c.next.ensures.steps in
    let same = ap (value c.args.base 0) (sym (map_same c.loop-c.yielded) ∙ t.0) in
    let past = c.loop-c.invariant.past (omega arith) in
    rw same at past
