use Rattle.expr_tokens.proofs.QuoteLemmas.{Unquotes}
use Rattle.expr_tokens.proofs.literals.unquoted.Given as goal

abbrev pub invariant-loop-c : goal.invariant-loop-c
invariant-loop-c l = Unquotes l.made l.quote l.doubling l.yielded
