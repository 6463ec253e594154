use Rattle.std.proofs.Common.{◌∙◌}
use Rattle.query_printer.proofs.PrintableQueries.WholeLemmas.{can_made}
use Rattle.query_printer.proofs.printable_queries.queries.can_print.Goals as goal

pub returns : goal.returns
returns c = c.are_all.ensures ∙ can_made c.args.query.now c.args.prefixes.now
    _ _ _ _ _ _ _ _ _ _ c.requires c.as_slice.ensures c.as_slice-2.ensures c.as_slice-3.ensures c.as_slice-4.ensures
    c.in_ok-namespaces.ensures c.in_ok-space.ensures c.in_ok-omit.ensures
    c.in_ok-variables.ensures c.in_ok-functions.ensures c.in_ok-body.ensures
