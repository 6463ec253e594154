use Rattle.std.proofs.Common.{◌≡◌, drop, map}
use Rattle.expr_tokens.specs.Terms.{terms_of, written}
use Rattle.expr_tokens.proofs.TermLemmas.{behind}
use Rattle.expr_tokens.proofs.bridge.terms.Given as goal

abbrev pub invariant-loop-token : goal.invariant-loop-token
invariant-loop-token l = terms_of (map written l.tokens) ≡ behind l.made.items (terms_of (map written (drop l.token-index l.tokens)))
