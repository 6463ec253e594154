use Rattle.expr_resolve.proofs.Follow.{Made, Turned}
use Rattle.expr_resolve.proofs.resolving.+resolve.Given as goal

abbrev pub invariant-parts_onward-loop-raw : goal.invariant-parts_onward-loop-raw
invariant-parts_onward-loop-raw l = Made l.s l.production l.raws l.made l.raw-index

abbrev pub invariant-parts_back-loop-raw : goal.invariant-parts_back-loop-raw
invariant-parts_back-loop-raw l = Turned l.s l.raws l.made l.raw-index
