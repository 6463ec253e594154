use Rattle.std.proofs.Common.{sym, ◌∙◌}
use Rattle.query_printer.proofs.TestLemmas.{kept_can}
use Rattle.query_printer.proofs.printable.is_printable.Goals as goal

pub has_fit_tokens-requires-clause-can : goal.has_fit_tokens-requires-clause-can
has_fit_tokens-requires-clause-can c =
    kept_can c.args.query.now (sym c.in_ok-kept.ensures ∙ c.if-kept.true)
