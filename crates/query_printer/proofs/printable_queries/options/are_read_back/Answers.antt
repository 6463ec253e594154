use Rattle.std.proofs.Common.{ap, ◌∙◌}
use Rattle.xt_syntax.specs.declared.prefixes.Prefixes.{Prefixes}
use Rattle.printed_laws.specs.QueryRaws.Prologs.{means_rules}
use Rattle.query_printer.proofs.printable_queries.options.are_read_back.Goals as goal

pub returns : goal.returns
returns c = c.in_ok-means.ensures
    ∙ ap (λ (p : Prefixes). means_rules p.bound c.args.text.now c.args.rules.now)
    c.plain-plain.ensures
